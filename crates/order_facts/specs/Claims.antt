-- Conditions 1 and 2 for orders, in the document's words; proved in proofs/.
use Rattle.std.specs.Prelude.{ℕ, ◌≡◌, List, ◌↔◌, take, Ok, Err}
use Rattle.bits.specs.Layout.{Bytes}
use Rattle.model.specs.declared.order.Order.{Order}
use Rattle.model.specs.declared.answer.Reading.{Reading}
use Rattle.model.specs.Kinds.{Answer}
use Rattle.model.specs.declared.answer.Refusal.{Refusal}
use Rattle.model.specs.Answer.{OnlyCountedFront}
use Rattle.model.specs.Limits.{empty_order}
use Rattle.model.specs.Layouts.{order_length}
use Rattle.model.specs.Rules.{first_broken, RightAnswer, WithinLimits}
use Rattle.order.specs.Order.{order_bytes, order_rules, read_order, Reads}
use Rattle.order_out.specs.Write.{TaskColumns, column_order, write_rules, write_answer, Writes, written_rules, WritesOrder}

-- "reading gives back what was written": M, n and the table
abbrev pub ReadingGivesBack : Type 0
ReadingGivesBack = (processors : ℕ) (c : TaskColumns) (output : List ℕ) (answer : Answer) (after : List ℕ) (count : ℕ)
    → Writes processors c output answer after → answer ≡ Ok count
    → read_order (take count after) ≡ record { answer = Ok 0; order = column_order processors c }

-- the bytes of an order within the limits read as that order
abbrev pub BytesReadBack : Type 0
BytesReadBack = (o : Order) → WithinLimits o → read_order (order_bytes o) ≡ record { answer = Ok 0; order = o }

-- an order is accepted exactly when it is the bytes of an order within the limits
abbrev pub AcceptedExactly : Type 0
AcceptedExactly = (s : List ℕ) → Bytes s → ((read_order s).answer ≡ Ok 0) ↔ ((o : Order) × WithinLimits o × (s ≡ order_bytes o))

-- what an accepted order reads as is within the limits
abbrev pub AcceptedWithinLimits : Type 0
AcceptedWithinLimits = (s : List ℕ) → (read_order s).answer ≡ Ok 0 → WithinLimits (read_order s).order

-- "for that cause only": one answer is right, by the rule that is broken first, and it is the reader's
abbrev pub OneReading : Type 0
OneReading = (s : List ℕ) (answer : Answer) → (answer ≡ (read_order s).answer) ↔ RightAnswer 0 (order_rules s) answer

-- the same of the writer, and of an order written
abbrev pub OneWriting : Type 0
OneWriting = (processors : ℕ) (c : TaskColumns) (room : ℕ) (answer : Answer)
    → (answer ≡ write_answer processors c room) ↔ RightAnswer (order_length 1 (column_order processors c).tasks) (write_rules processors c room) answer

abbrev pub OneWritten : Type 0
OneWritten = (o : Order) (room : ℕ) (answer : Answer)
    → (answer ≡ first_broken (order_length 1 o.tasks) (written_rules o room)) ↔ RightAnswer (order_length 1 o.tasks) (written_rules o room) answer

-- "when it is refused all three are zero"
abbrev pub RefusedReadsZero : Type 0
RefusedReadsZero = (s : List ℕ) (refusal : Refusal) → (read_order s).answer ≡ Err refusal → (read_order s).order ≡ empty_order

-- "On refusal the output is unchanged; on success only the counted front changes."
abbrev pub WritesOnlyCountedFront : Type 0
WritesOnlyCountedFront = (processors : ℕ) (c : TaskColumns) (output : List ℕ) (answer : Answer) (after : List ℕ)
    → Writes processors c output answer after → OnlyCountedFront answer output after

-- one possible answer and content for every input
abbrev pub ReadingUnique : Type 0
ReadingUnique = (s : List ℕ) (one other : Reading) → Reads s one → Reads s other → one ≡ other

abbrev pub WritingUnique : Type 0
WritingUnique = (processors : ℕ) (c : TaskColumns) (output : List ℕ) (one other : Answer) (after after' : List ℕ)
    → Writes processors c output one after → Writes processors c output other after' → (one ≡ other) × (after ≡ after')

abbrev pub WrittenUnique : Type 0
WrittenUnique = (o : Order) (output : List ℕ) (one other : Answer) (after after' : List ℕ)
    → WritesOrder o output one after → WritesOrder o output other after' → (one ≡ other) × (after ≡ after')
