-- The claims of specs/Claims.antt, proved.
use Rattle.std.specs.Prelude.{Ok}
use mathlib.Core.Path.{◌≡◌, sym, ap, ◌∙◌, subst}
use mathlib.Core.List.{List, ◌++◌}
use Prim.Native.Nat.{ℕ, ◌≤◌, min}
use native.Mathlib.Omega.{arith}
use lib.ListN.{length, take, drop}
use lib.Seq.{take_at}
use Rattle.laws.proofs.Filled.{length-filled, filled_past}
use Rattle.model.specs.declared.order.Order.{Order}
use Rattle.model.specs.declared.answer.Reading.{Reading}
use Rattle.model.specs.Kinds.{Answer}
use Rattle.model.specs.Answer.{output_after}
use Rattle.model.specs.Limits.{most_tasks, zero_task}
use Rattle.model.specs.Layouts.{order_length}
use Rattle.model.specs.Rules.{AllKept, OneRightAnswer, range_rules, room_rules, WithinLimits}
use Rattle.model.proofs.Output.{after_done, only_counted_front}
use Rattle.model.proofs.Rules.{done_pass, done_count, pass_kept, kept_front, kept_rest, one_right_answer}
use Rattle.model.proofs.Ranges.{range_at}
use Rattle.order.specs.Order.{order_bytes, order_at, order_rules, read_order}
use Rattle.order.proofs.Rules.{order_tells}
use Rattle.order.proofs.Reading.{read_answer, read_rules, read_order_lem, within_limits}
use Rattle.order_out.specs.Write.{written_rules, TaskColumns, column_task, column_order, write_rules, write_answer, Writes}
use Rattle.order_out.proofs.Bytes.{length_order}
use Rattle.order_out.proofs.Rules.{written_tells, write_tells}
use Rattle.order_facts.specs.Claims.{ReadingGivesBack, BytesReadBack, AcceptedExactly, AcceptedWithinLimits, OneReading, OneWriting, OneWritten, RefusedReadsZero, WritesOnlyCountedFront, ReadingUnique, WritingUnique, WrittenUnique}
use Rattle.order_facts.proofs.Back.{bytes_read_back}
use Rattle.order_facts.proofs.Forth.{bytes_are}

pub reading_unique : ReadingUnique
reading_unique s one other e f = e ∙ sym f

-- an answer leaves one content
one_content : (o : Order) (output : List ℕ) {one other : Answer} {after after' : List ℕ} → one ≡ other → after ≡ output_after one (order_bytes o) output → after' ≡ output_after other (order_bytes o) output → after ≡ after'
one_content o output same w v = w ∙ ap (λ (a : Answer). output_after a (order_bytes o) output) same ∙ sym v

pub writing_unique : WritingUnique
writing_unique processors c output one other after after' w v =
    let same : one ≡ other = w.answered ∙ sym v.answered in (same, one_content (column_order processors c) output same w.written v.written)

pub written_unique : WrittenUnique
written_unique o output one other after after' w v =
    let same : one ≡ other = w.answered ∙ sym v.answered in (same, one_content o output same w.written v.written)

pub accepted_within_limits : AcceptedWithinLimits
accepted_within_limits s e = rw (read_order_lem s e) (within_limits s (read_rules s e))

pub accepted_exactly : AcceptedExactly
accepted_exactly s all = (
  (λ e. (order_at s, within_limits s (read_rules s e), bytes_are s all (read_rules s e))),
  (λ r. ap (λ (x : List ℕ). (read_order x).answer) r.2 ∙ ap (λ (x : Reading). x.answer) (bytes_read_back r.0 r.1)),
)

pub one_reading : OneReading
unfolding OneRightAnswer
one_reading s answer = rw (read_answer s) (one_right_answer 0 (order_rules s) (order_tells s) answer)

pub one_writing : OneWriting
unfolding OneRightAnswer write_answer
one_writing processors c room answer = one_right_answer _ (write_rules processors c room) (write_tells processors c room) answer

pub one_written : OneWritten
unfolding OneRightAnswer
one_written o room answer = one_right_answer _ (written_rules o room) (written_tells o room) answer

pub refused_reads_zero : RefusedReadsZero
unfolding read_order
refused_reads_zero s refusal e = rw (sym (read_answer s) ∙ e)

-- an accepted write: every rule holds
module _ (processors : ℕ) (c : TaskColumns) (output : List ℕ) (answer : Answer) (after : List ℕ) (count : ℕ) (w : Writes processors c output answer after) (e : answer ≡ Ok count) where
  abbrev order : Order
  order = column_order processors c

  abbrev size : ℕ
  size = order_length 1 order.tasks

  written_kept : AllKept (written_rules order (length output))
  unfolding write_answer write_rules AllKept
  written_kept = (pass_kept _ (write_tells processors c (length output)) (done_pass _ _ (sym w.answered ∙ e))).1

  limits : WithinLimits order
  unfolding written_rules AllKept column_order
  limits =
      let rows = min (length c.widths) most_tasks in
      let tasks = written_kept.1.0 in
      record {
        processors = written_kept.0;
        tasks = tasks;
        places = length-filled (column_task c) zero_task most_tasks rows (omega arith);
        each = range_at order (kept_front (range_rules order) _ written_kept.1.1);
        zero_past = λ i past. filled_past (column_task c) zero_task most_tasks rows i (omega arith);
      }

  counted : count ≡ size
  unfolding write_answer
  counted = done_count _ _ (sym w.answered ∙ e)

  room : size ≤ length output
  unfolding written_rules room_rules AllKept
  room = (kept_rest (range_rules order) (room_rules size (length output)) written_kept.1.1).0

  gives_back : read_order (take count after) ≡ record { answer = Ok 0; order = order }
  gives_back =
      let front : after ≡ order_bytes order ++ drop count output = w.written ∙ ap (λ (a : Answer). output_after a (order_bytes order) output) e ∙ after_done count (order_bytes order) output in
      rw (front, take_at (order_bytes order) (drop count output) count (length_order order ∙ sym counted)) (bytes_read_back order limits)

pub bytes_back : BytesReadBack
bytes_back = bytes_read_back

pub reading_gives_back : ReadingGivesBack
reading_gives_back = gives_back

pub writes_only_counted_front : WritesOnlyCountedFront
writes_only_counted_front processors c output answer after w =
    rw w.written (
    only_counted_front answer (order_bytes (column_order processors c)) output
    (λ count e.
    let count_is = counted processors c output answer after count w e in
    (length_order (column_order processors c) ∙ sym count_is, subst (◌≤ length output) (sym count_is) (room processors c output answer after count w e)))
    )
