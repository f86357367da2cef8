-- Laws of the rules for writing a list: the room alone.
use Rattle.std.specs.Prelude.{Ok, Err}
use mathlib.Core.Path.{◌≡◌}
use Prim.Native.Nat.{ℕ, ◌≤◌, ◌<◌}
use lib.ListN.{length}
use Rattle.model.specs.declared.answer.Refusal.TheVariants.{OfCall}
use Rattle.model.specs.declared.answer.CallCause.TheVariants.{Output}
use Rattle.model.proofs.Rules.{room_stop, room_on}
use Rattle.list_form.specs.ListText.{list_text}
use Rattle.list_out.specs.Write.{write_list_rules, write_list_answer}

module _ (set room : ℕ) where
  abbrev size : ℕ
  size = length (list_text set)

  pub list_short : room < size → write_list_answer set room ≡ Err (OfCall Output)
  unfolding write_list_answer write_list_rules
  list_short short = room_stop size size room short

  pub list_done : size ≤ room → write_list_answer set room ≡ Ok size
  unfolding write_list_answer write_list_rules
  list_done fits = room_on size size room fits
