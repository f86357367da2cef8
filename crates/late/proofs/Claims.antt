-- Showing the late job answers and writes as specs/Claims.antt says.
use Rattle.std.specs.Prelude.{Ok}
use mathlib.Core.Path.{◌≡◌, sym, ap, ◌∙◌, subst}
use mathlib.Core.List.{List, [], ◌∷◌, ◌++◌, append_assoc}
use Prim.Native.Nat.{ℕ, ◌≤◌}
use lib.ListN.{length}
use borrow.Author.Tests.{leb-true}
use Rattle.model.specs.Kinds.{Answer}
use Rattle.model.specs.declared.answer.Refusal.TheVariants.{OfLate}
use Rattle.model.specs.declared.answer.LateCause.TheVariants.{NotLate, ManyRecords}
use Rattle.model.specs.Answer.{output_after}
use Rattle.model.specs.Layouts.{script_length}
use Rattle.model.specs.Limits.{most_records}
use Rattle.model.specs.Rules.{Rule, rule, at_most, first_broken, room_rules, OneRightAnswer}
use Rattle.model.proofs.Rules.{AllPass, pass_done, pass_rest, one_right_answer}
use Rattle.model.proofs.Wrote.{wrote_kept, wrote_count, wrote_room, wrote_front, wrote_only}
use Rattle.order.specs.Order.{order_rules}
use Rattle.verdict.specs.Tested.{is_there}
use Rattle.inspect.specs.Rules.{check_answer}
use Rattle.script.specs.Script.{script_bytes}
use Rattle.script.proofs.Back.{bytes_length}
use Rattle.late.specs.Shown.{late_task, RefusedLate, shown_script, show_rules, late_rules, late_answer, ShowsLate}
use Rattle.late.specs.Claims.{ShownExactly, OneLateAnswer, ShowsOnlyFront, ShowingUnique}
use Rattle.late.proofs.Named.{order_passes}
use Rattle.late.proofs.Answers.{named_in, shown, late_on, late_tells}

pub one_late_answer : OneLateAnswer
unfolding OneRightAnswer late_answer
one_late_answer order build room answer = one_right_answer _ (late_rules order build room) (late_tells order build room) answer

module _ (order build : List ℕ) where
  abbrev size : ℕ
  size = script_length 1 (length (shown_script order build))

  -- all rules but 12
  abbrev before_room : List Rule
  before_room =
      order_rules order
      ++ (rule (record { says = (task : ℕ) × RefusedLate order build task; test = is_there (late_task (check_answer order build)) }) (OfLate NotLate)
      ∷ rule (at_most (length (shown_script order build)) most_records) (OfLate ManyRecords) ∷ [])

  module _ (output : List ℕ) (answer : Answer) (after : List ℕ) (w : ShowsLate order build output answer after) where
    answered_by : answer ≡ first_broken size (before_room ++ room_rules size (length output))
    unfolding late_answer late_rules show_rules
    answered_by = w.answered ∙ ap (first_broken size) (sym (append_assoc (order_rules order) _ (room_rules size (length output))))

    named_and_few : AllPass before_room → ((task : ℕ) × RefusedLate order build task) × (length (shown_script order build) ≤ most_records)
    unfolding AllPass
    named_and_few passed =
        let rest = pass_rest (order_rules order) _ passed in
        (named_in (check_answer order build) rest.0, leb-true _ _ rest.1.0)

pub shown_exactly : ShownExactly
shown_exactly order build output answer after count w = (
  (λ e.
      let by = answered_by order build output answer after w in
      let bytes = script_bytes (shown_script order build) in
      let both = named_and_few order build output answer after w (wrote_kept (before_room order build) _ bytes output answer after by w.written count e) in (
        both.0,
        both.1,
        wrote_count (before_room order build) _ bytes output answer after by w.written count e,
        wrote_room (before_room order build) _ bytes output answer after by w.written count e,
        wrote_front (before_room order build) _ bytes output answer after by w.written count e,
      )),
  (λ is.
      let task = is.0.0 in
      let passed = order_passes order build task is.0.1 in
      w.answered ∙ late_on order build (length output) task (pass_done 0 (order_rules order) passed) (ap late_task is.0.1)
      ∙ shown (size order build) (shown_script order build) (length output) is.1 (subst (◌≤ length output) is.2 is.3) ∙ ap Ok (sym is.2)),
)

pub shows_only_front : ShowsOnlyFront
shows_only_front order build output answer after w =
    wrote_only (before_room order build) _ (script_bytes (shown_script order build)) output answer after (answered_by order build output answer after w) w.written
    (bytes_length (shown_script order build))

pub showing_unique : ShowingUnique
showing_unique order build output one other after after' w v =
    let same : one ≡ other = w.answered ∙ sym v.answered in
    (same, w.written ∙ ap (λ (a : Answer). output_after a (script_bytes (shown_script order build)) output) same ∙ sym v.written)
