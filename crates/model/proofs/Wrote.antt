-- A call that writes the front of its output, 12 being its last rule: what is so where it is done.
use Rattle.std.specs.Prelude.{Ok}
use mathlib.Core.Path.{◌≡◌, sym, ap, ◌∙◌, subst}
use mathlib.Core.List.{List, ◌++◌}
use Prim.Native.Nat.{ℕ, ◌≤◌}
use lib.ListN.{length, drop}
use Rattle.model.specs.Kinds.{Answer}
use Rattle.model.specs.Answer.{output_after, OnlyCountedFront}
use Rattle.model.specs.Rules.{Rule, first_broken, room_rules}
use Rattle.model.proofs.Output.{after_done, only_counted_front}
use Rattle.model.proofs.Rules.{AllPass, done_pass, done_count, pass_front, pass_rest, room_fits}

module _ (rules : List Rule) (size : ℕ) (front output : List ℕ) (answer : Answer) (after : List ℕ)
    (answered : answer ≡ first_broken size (rules ++ room_rules size (length output))) (written : after ≡ output_after answer front output) where
  module _ (count : ℕ) (e : answer ≡ Ok count) where
    passed : AllPass (rules ++ room_rules size (length output))
    passed = done_pass size (rules ++ room_rules size (length output)) (sym answered ∙ e)

    pub wrote_kept : AllPass rules
    wrote_kept = pass_front rules (room_rules size (length output)) passed

    pub wrote_count : count ≡ size
    wrote_count = done_count size (rules ++ room_rules size (length output)) (sym answered ∙ e)

    pub wrote_room : count ≤ length output
    wrote_room = subst (◌≤ length output) (sym wrote_count) (room_fits size (length output) (pass_rest rules (room_rules size (length output)) passed))

    pub wrote_front : after ≡ front ++ drop count output
    wrote_front = written ∙ ap (λ (a : Answer). output_after a front output) e ∙ after_done count front output

  -- where the front has the size that is counted
  pub wrote_only : length front ≡ size → OnlyCountedFront answer output after
  wrote_only sized = rw written (only_counted_front answer front output (λ count e. (sized ∙ sym (wrote_count count e), wrote_room count e)))
