-- Laws of the rules for writing text: the order's, then the room.
use Rattle.std.specs.Prelude.{Ok, Err}
use mathlib.Core.Path.{◌≡◌, ◌∙◌}
use mathlib.Core.List.{List}
use Prim.Native.Nat.{ℕ, ◌≤◌, ◌<◌}
use lib.ListN.{length}
use Rattle.model.specs.declared.answer.Refusal.{Refusal}
use Rattle.model.specs.declared.answer.Refusal.TheVariants.{OfCall}
use Rattle.model.specs.declared.answer.CallCause.TheVariants.{Output}
use Rattle.model.specs.Rules.{first_broken, TestsTell, room_rules}
use Rattle.model.proofs.Rules.{AllPass, pass_on, stop, any_count, tell_append, room_stop, room_on, room_tells}
use Rattle.order.specs.Order.{order_rules}
use Rattle.order.proofs.Rules.{order_tells}
use Rattle.text_out.specs.Write.{text_of, write_text_rules, write_text_answer}

module _ (order : List ℕ) (room : ℕ) where
  abbrev size : ℕ
  size = length (text_of order)

  pub text_refused : {refusal : Refusal} → first_broken 0 (order_rules order) ≡ Err refusal → write_text_answer order room ≡ Err refusal
  unfolding write_text_answer write_text_rules
  text_refused {refusal} e = stop size (order_rules order) (room_rules size room) refusal (any_count 0 size (order_rules order) refusal e)

  on_room : AllPass (order_rules order) → write_text_answer order room ≡ first_broken size (room_rules size room)
  unfolding write_text_answer write_text_rules
  on_room all = pass_on size (order_rules order) (room_rules size room) all

  pub text_short : AllPass (order_rules order) → room < size → write_text_answer order room ≡ Err (OfCall Output)
  text_short all short = on_room all ∙ room_stop size size room short

  pub text_done : AllPass (order_rules order) → size ≤ room → write_text_answer order room ≡ Ok size
  text_done all fits = on_room all ∙ room_on size size room fits

  pub write_text_tells : TestsTell (write_text_rules order room)
  unfolding write_text_rules
  write_text_tells = tell_append (order_rules order) (room_rules size room) (order_tells order) (λ _. room_tells size room)
