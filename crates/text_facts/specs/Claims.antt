-- The form's text read as the buyer typed it, or refused; and written: correct, complete, and with one meaning. Proved in proofs/.
-- What a text is stands in crates/form/specs: numbers, times, lines and texts as relations on bytes.
use Rattle.std.specs.Prelude.{ℕ, ◌+◌, ◌≤◌, ◌<◌, ◌^◌, ◌≡◌, List, [], ◌∷◌, ◌++◌, ◌↔◌, length, get_or, take, drop, Ok, Err}
use Rattle.laws.specs.Joined.{joined}
use Rattle.bits.specs.Layout.{Bytes}
use Rattle.model.specs.declared.order.Task.{Task}
use Rattle.model.specs.declared.order.Order.{Order}
use Rattle.model.specs.Kinds.{Answer}
use Rattle.model.specs.declared.answer.Refusal.TheVariants.{OfText}
use Rattle.model.specs.declared.answer.TextCause.TheVariants.{LineShape, LineNumber, LineCount}
use Rattle.model.specs.Answer.{OnlyCountedFront}
use Rattle.model.specs.Limits.{most_tasks, task_of}
use Rattle.model.specs.Layouts.{order_length}
use Rattle.model.specs.Rules.{RightAnswer, WithinLimits}
use Rattle.order.specs.Order.{order_at, order_bytes}
use Rattle.form.specs.Bytes.{zero_digit, line_feed, is_line_feed}
use Rattle.form.specs.Parts.{count}
use Rattle.form.specs.Numbers.{IsNumber}
use Rattle.form.specs.Times.{IsTime}
use Rattle.form.specs.Lines.{IsLine, NumbersFit}
use Rattle.form.specs.Text.{IsText, typed_line, finished_lines, line_count}
use Rattle.form.specs.Written.{numeral, order_text, most_text_bytes}
use Rattle.text.specs.Read.{Shaped, read_text_rules, read_text_answer, ReadsText}
use Rattle.text_out.specs.Write.{text_of, write_text_rules, write_text_answer, WritesText}

-- an order that is typed in a text, beside M, within the limits of the document's table
pub record Typed (processors : ℕ) (text : List ℕ) (o : Order) : Type 0 where
  pub typed : IsText text o
  pub beside : o.processors ≡ processors
  pub limits : WithinLimits o

-- correct and complete: a text is accepted exactly when it is such lines, at most 32, of such numbers within the limits, and there is room;
-- and then the order has just those numbers: nothing is skipped, nothing is tidied
abbrev pub TextAcceptedExactly : Type 0
TextAcceptedExactly = (processors : ℕ) (text output : List ℕ) (answer : Answer) (after : List ℕ) (count : ℕ)
    → ReadsText processors text output answer after
    → (answer ≡ Ok count) ↔ ((o : Order) × Typed processors text o × (count ≡ order_length 1 o.tasks) × (count ≤ length output) × (after ≡ order_bytes o ++ drop count output))

-- one meaning: of a number, of a time, of a line, and of a text
abbrev pub OneValue : Type 0
OneValue = (s : List ℕ) (one other : ℕ) → IsNumber s one → IsNumber s other → one ≡ other

abbrev pub OneTime : Type 0
OneTime = (s : List ℕ) (one other : ℕ) → IsTime s one → IsTime s other → one ≡ other

abbrev pub OneTask : Type 0
OneTask = (line : List ℕ) (one other : Task) → IsLine line one → IsLine line other → one ≡ other

abbrev pub OneText : Type 0
OneText = (text : List ℕ) (one other : Order) → IsText text one → IsText text other
    → (one.tasks ≡ other.tasks) × ((i : ℕ) → i < one.tasks → task_of one i ≡ task_of other i)

-- "each refusal for its cause and at its line only": one answer is right, by the rule that is broken first, and it is the reader's
abbrev pub OneTextReading : Type 0
OneTextReading = (processors : ℕ) (text : List ℕ) (room : ℕ) (answer : Answer)
    → (answer ≡ read_text_answer processors text room) ↔ RightAnswer (order_length 1 (line_count text)) (read_text_rules processors text room) answer

-- the lines of any bytes: the bytes are the finished lines, each ended by a line feed, and then the line that is left;
-- no line has a line feed in it, and the one that is left is counted exactly when it is not empty
pub record CutInLines (text : List ℕ) : Type 0 where
  pub bytes : text ≡ joined (λ i. typed_line text i ++ (line_feed ∷ [])) (finished_lines text) ++ typed_line text (finished_lines text)
  pub no_line_feed : (i : ℕ) → count is_line_feed (typed_line text i) ≡ 0
  pub not_counted : (line_count text ≡ finished_lines text) ↔ (typed_line text (finished_lines text) ≡ [])
  pub counted : (line_count text ≡ finished_lines text + 1) ↔ (typed_line text (finished_lines text) ≡ [] → ⊥)

abbrev pub LinesAre : Type 0
LinesAre = (text : List ℕ) → CutInLines text

-- there are at most 32 lines, line i is one of them, and each before it is of the shape, finished, and has no number over 1,048,575
pub record GoodBefore (text : List ℕ) (i : ℕ) : Type 0 where
  pub few : line_count text ≤ most_tasks
  pub there : i < line_count text
  pub each_shaped : (k : ℕ) → k < i → Shaped text k
  pub each_fits : (k : ℕ) → k < i → (t : Task) → IsLine (typed_line text k) t → NumbersFit t

-- 52 exactly when there are "more than 32 lines, an unfinished last one counted"
abbrev pub LinesRefusedExactly : Type 0
LinesRefusedExactly = (processors : ℕ) (text : List ℕ) (room : ℕ)
    → (read_text_answer processors text room ≡ Err (OfText LineCount)) ↔ (most_tasks < line_count text)

-- 50 at line i exactly when all before it is good, and it is "not of this shape or unfinished"
abbrev pub ShapeRefusedExactly : Type 0
ShapeRefusedExactly = (processors : ℕ) (text : List ℕ) (room i : ℕ)
    → (read_text_answer processors text room ≡ Err (OfText (LineShape i))) ↔ (GoodBefore text i × (Shaped text i → ⊥))

-- 51 at line i exactly when all before it is good, it is of the shape and finished, and the task typed in it has "a number over 1,048,575"
abbrev pub NumberRefusedExactly : Type 0
NumberRefusedExactly = (processors : ℕ) (text : List ℕ) (room i : ℕ)
    → (read_text_answer processors text room ≡ Err (OfText (LineNumber i))) ↔ (GoodBefore text i × Shaped text i × ((t : Task) × IsLine (typed_line text i) t × (NumbersFit t → ⊥)))

-- of the writer too, one answer is right
abbrev pub OneTextWriting : Type 0
OneTextWriting = (order : List ℕ) (room : ℕ) (answer : Answer)
    → (answer ≡ write_text_answer order room) ↔ RightAnswer (length (text_of order)) (write_text_rules order room) answer

-- what is written is a text of the order, and no longer than the header's constant
abbrev pub WrittenIsText : Type 0
WrittenIsText = (o : Order) → WithinLimits o → IsText (order_text o) o

abbrev pub WrittenIsShort : Type 0
WrittenIsShort = (o : Order) → WithinLimits o → length (order_text o) ≤ most_text_bytes

-- "no leading zeros but the one before the point": a number of more digits than one does not begin with 0
abbrev pub NoLeadingZeros : Type 0
NoLeadingZeros = (x : ℕ) → x < 2 ^ 32 → IsNumber (numeral x) x × (1 < length (numeral x) → get_or (numeral x) 0 zero_digit ≡ zero_digit → ⊥)

-- "reading it back gives the same order", byte for byte
abbrev pub TextReadBack : Type 0
TextReadBack = (order output : List ℕ) (written : Answer) (after : List ℕ) (count : ℕ)
    → Bytes order → WritesText order output written after → written ≡ Ok count
    → (room : List ℕ) (read : Answer) (back : List ℕ)
    → ReadsText (order_at order).processors (take count after) room read back → length order ≤ length room
    → (read ≡ Ok (length order)) × (back ≡ order ++ drop (length order) room)

-- "On refusal the output is unchanged; on success only the counted front changes."
abbrev pub ReadTextKeeps : Type 0
ReadTextKeeps = (processors : ℕ) (text output : List ℕ) (answer : Answer) (after : List ℕ)
    → ReadsText processors text output answer after → OnlyCountedFront answer output after

abbrev pub WriteTextKeeps : Type 0
WriteTextKeeps = (order output : List ℕ) (answer : Answer) (after : List ℕ) → WritesText order output answer after → OnlyCountedFront answer output after

-- one possible answer and content for every input
abbrev pub ReadTextUnique : Type 0
ReadTextUnique = (processors : ℕ) (text output : List ℕ) (one other : Answer) (after after' : List ℕ)
    → ReadsText processors text output one after → ReadsText processors text output other after' → (one ≡ other) × (after ≡ after')

abbrev pub WriteTextUnique : Type 0
WriteTextUnique = (order output : List ℕ) (one other : Answer) (after after' : List ℕ)
    → WritesText order output one after → WritesText order output other after' → (one ≡ other) × (after ≡ after')
