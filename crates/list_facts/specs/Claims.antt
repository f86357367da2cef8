-- Lists of processors read and written: correct, complete, and with one meaning; proved in proofs/.
-- What a list is, and what is wrong with a text that is none, stands in crates/list_form/specs.
use Rattle.std.specs.Prelude.{ℕ, ◌≤◌, ◌<◌, ◌≡◌, true, List, ◌↔◌, length, take, Ok, Err}
use Rattle.model.specs.Kinds.{Answer}
use Rattle.model.specs.declared.answer.Refusal.{Refusal}
use Rattle.model.specs.declared.answer.Refusal.TheVariants.{OfList}
use Rattle.model.specs.declared.answer.ListCause.{ListCause}
use Rattle.model.specs.declared.answer.ListCause.TheVariants.{ListShape, ListNumber, ListRange, ListLength}
use Rattle.model.specs.Answer.{OnlyCountedFront}
use Rattle.model.specs.Rules.{RightAnswer}
use Rattle.sets.specs.Sets.{IsSet, has}
use Rattle.list_form.specs.Items.{Item, IsList, ItemsRight, items_set}
use Rattle.list_form.specs.Offences.{BreaksAt, NumberOver, RangeFalls, SoundBelow}
use Rattle.list_form.specs.Runs.{runs_of, AllRuns, Rising, Listed}
use Rattle.list_form.specs.ListText.{list_text, most_list_bytes}
use Rattle.list.specs.declared.ListReading.{ListReading}
use Rattle.list.specs.Read.{most_list_text, list_answer, ReadsList}
use Rattle.list_out.specs.Write.{write_list_rules, write_list_answer, WritesList}

-- "a list of numbers to 63 without a falling range", in a text of at most 1,024 bytes
pub record Lists (text : List ℕ) (items : List Item) : Type 0 where
  pub short : length text ≤ most_list_text
  pub list : IsList text items
  pub right : ItemsRight items

-- a text is accepted exactly when it is such a list, and then its set is the union of its items
abbrev pub ListAcceptedExactly : Type 0
ListAcceptedExactly = (text : List ℕ) (reading : ListReading) (set : ℕ) → ReadsList text reading
    → (reading ≡ record { answer = Ok 0; set = set }) ↔ ((items : List Item) × Lists text items × (set ≡ items_set items))

-- a processor is in the set exactly when some item has it
abbrev pub SetIsListed : Type 0
SetIsListed = (items : List Item) → ItemsRight items → IsSet (items_set items) × ((k : ℕ) → (has (items_set items) k ≡ true) ↔ Listed items k)

-- one meaning
abbrev pub OneList : Type 0
OneList = (text : List ℕ) (one other : List Item) → IsList text one → IsList text other → one ≡ other

-- every answer is done with count 0, or for one of the list's own causes; "0 on refusal"
abbrev pub ListAnswers : Type 0
ListAnswers = (text : List ℕ) (count : ℕ) → list_answer text ≡ Ok count → count ≡ 0

abbrev pub ListRefuses : Type 0
ListRefuses = (text : List ℕ) (reading : ListReading) (refusal : Refusal) → ReadsList text reading → reading.answer ≡ Err refusal
    → ((cause : ListCause) × (refusal ≡ OfList cause)) × (reading.set ≡ 0)

-- 65 exactly when the text is too long
abbrev pub LengthRefusedExactly : Type 0
LengthRefusedExactly = (text : List ℕ) → (list_answer text ≡ Err (OfList ListLength)) ↔ (most_list_text < length text)

-- 60 at a place exactly when no list could have the byte there, or the text stops short there, and nothing is wrong below it
abbrev pub BreakRefusedExactly : Type 0
BreakRefusedExactly = (text : List ℕ) (at : ℕ) → (list_answer text ≡ Err (OfList (ListShape at))) ↔ ((length text ≤ most_list_text) × BreaksAt text at × SoundBelow text at)

-- 61 at a place exactly when a number over 63 has its first digit there, and nothing is wrong below it
abbrev pub OverRefusedExactly : Type 0
OverRefusedExactly = (text : List ℕ) (at : ℕ) → (list_answer text ≡ Err (OfList (ListNumber at))) ↔ ((length text ≤ most_list_text) × NumberOver text at × SoundBelow text at)

-- 62 at a place exactly when the second number of a range that falls stands there, and nothing is wrong below it
abbrev pub FallRefusedExactly : Type 0
FallRefusedExactly = (text : List ℕ) (at : ℕ) → (list_answer text ≡ Err (OfList (ListRange at))) ↔ ((length text ≤ most_list_text) × RangeFalls text at × SoundBelow text at)

-- what is written: the runs of the set, each as long as it can be, rising, each once, and every processor of it in one
pub record WrittenRuns (set : ℕ) (items : List Item) : Type 0 where
  pub runs : AllRuns set items
  pub rising : Rising 0 items
  pub all : (k : ℕ) → (has set k ≡ true) ↔ Listed items k

abbrev pub WritesRuns : Type 0
WritesRuns = (set : ℕ) → IsSet set → WrittenRuns set (runs_of set) × IsList (list_text set) (runs_of set)

-- there is one such row of runs
abbrev pub RunsOnce : Type 0
RunsOnce = (set : ℕ) (one other : List Item) → WrittenRuns set one → WrittenRuns set other → one ≡ other

-- no written list is longer than the header's constant; Cases.antt has one that is as long
abbrev pub WrittenListShort : Type 0
WrittenListShort = (set : ℕ) → IsSet set → length (list_text set) ≤ most_list_bytes

-- "Two sets give the same written bytes exactly when equal."
abbrev pub SameBytesExactly : Type 0
SameBytesExactly = (one other : ℕ) → IsSet one → IsSet other → (list_text one ≡ list_text other) ↔ (one ≡ other)

-- of the writer too, one answer is right
abbrev pub OneListWriting : Type 0
OneListWriting = (set room : ℕ) (answer : Answer) → (answer ≡ write_list_answer set room) ↔ RightAnswer (length (list_text set)) (write_list_rules set room) answer

-- "Read any such list back": reading what was written gives the set
abbrev pub ListReadBack : Type 0
ListReadBack = (set : ℕ) (output : List ℕ) (written : Answer) (after : List ℕ) (count : ℕ) (reading : ListReading)
    → IsSet set → WritesList set output written after → written ≡ Ok count → ReadsList (take count after) reading
    → reading ≡ record { answer = Ok 0; set = set }

-- "On refusal the output is unchanged; on success only the counted front changes."
abbrev pub WriteListKeeps : Type 0
WriteListKeeps = (set : ℕ) (output : List ℕ) (answer : Answer) (after : List ℕ) → WritesList set output answer after → OnlyCountedFront answer output after

-- one possible answer and content for every input
abbrev pub ReadListUnique : Type 0
ReadListUnique = (text : List ℕ) (one other : ListReading) → ReadsList text one → ReadsList text other → one ≡ other

abbrev pub WriteListUnique : Type 0
WriteListUnique = (set : ℕ) (output : List ℕ) (one other : Answer) (after after' : List ℕ)
    → WritesList set output one after → WritesList set output other after' → (one ≡ other) × (after ≡ after')
