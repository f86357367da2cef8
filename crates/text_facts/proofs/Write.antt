-- The claims of writing a text.
use Rattle.std.specs.Prelude.{Ok}
use mathlib.Core.Path.{◌≡◌, refl, sym, ap, ◌∙◌}
use mathlib.Core.List.{List, ◌++◌}
use Prim.Native.Nat.{ℕ}
use lib.ListN.{length, take, drop}
use lib.Seq.{take_at}
use Rattle.model.specs.Kinds.{Answer}
use Rattle.model.specs.Answer.{output_after}
use Rattle.model.specs.Rules.{first_broken, OneRightAnswer, room_rules}
use Rattle.model.proofs.Rules.{AllPass, one_right_answer}
use Rattle.model.proofs.Wrote.{wrote_kept, wrote_count, wrote_front, wrote_only}
use Rattle.order.specs.Order.{order_rules}
use Rattle.form.proofs.Written.{numeral-is_number, no_leading_zero, written_is_text, written_is_short}
use Rattle.text_out.proofs.Rules.{write_text_tells}
use Rattle.text_out.specs.Write.{text_of, write_text_rules, write_text_answer, WritesText}
use Rattle.text_facts.specs.Claims.{OneTextWriting, WrittenIsText, WrittenIsShort, NoLeadingZeros, WriteTextKeeps, WriteTextUnique}

pub one_text_writing : OneTextWriting
unfolding OneRightAnswer write_text_answer
one_text_writing order room answer = one_right_answer _ (write_text_rules order room) (write_text_tells order room) answer

-- a text that is written
module _ (order output : List ℕ) (answer : Answer) (after : List ℕ) (w : WritesText order output answer after) where
  answered_by : answer ≡ first_broken (length (text_of order)) (order_rules order ++ room_rules (length (text_of order)) (length output))
  unfolding write_text_answer write_text_rules
  answered_by = w.answered

  pub write_accepts : (count : ℕ) → answer ≡ Ok count → AllPass (order_rules order)
  write_accepts count e = wrote_kept (order_rules order) _ (text_of order) output answer after answered_by w.written count e

  -- the counted front is the text
  pub write_front : (count : ℕ) → answer ≡ Ok count → take count after ≡ text_of order
  write_front count e =
      ap (take count) (wrote_front (order_rules order) _ (text_of order) output answer after answered_by w.written count e)
      ∙ take_at (text_of order) (drop count output) count (sym (wrote_count (order_rules order) _ (text_of order) output answer after answered_by w.written count e))

pub write_text_keeps : WriteTextKeeps
write_text_keeps order output answer after w = wrote_only (order_rules order) _ (text_of order) output answer after (answered_by order output answer after w) w.written refl

pub write_text_unique : WriteTextUnique
write_text_unique order output one other after after' w v =
    let same : one ≡ other = w.answered ∙ sym v.answered in
    (same, w.written ∙ ap (λ (a : Answer). output_after a (text_of order) output) same ∙ sym v.written)

pub text_of_order : WrittenIsText
text_of_order = written_is_text

pub short_text : WrittenIsShort
short_text = written_is_short

pub no_leading_zeros : NoLeadingZeros
no_leading_zeros x small = (numeral-is_number x small, no_leading_zero x small)
