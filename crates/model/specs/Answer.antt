-- "Every answer has a number, a place and a count": those of each case, and what an answer leaves in the caller's output.
use Rattle.std.specs.Prelude.{ℕ, ◌≡◌, List, ◌++◌, length, drop, Ok, Err}
use Rattle.model.specs.Kinds.{Answer, Refusal, OfOrder, OfCall, OfBuild, OfScript, OfText, OfList, OfLate, OrderCause, OrderShort, OrderVersion, Processors, Tasks, OrderLength, HeaderSpare, TaskSpare, Width, Period, Deadline, RunTime, CallCause, FirstFit, Output, Columns, BuildCause, BuildShort, BuildMismatch, BuildLength, BuildSpare, PartitionPlace, TaskPartition, Rank, Window, Start, Late, Response, ScriptCause, ScriptLength, RecordSpare, RecordTask, RecordOrder, JobLength, ReleaseGap, FinishPlaces, TextCause, LineShape, LineNumber, LineCount, ListCause, ListShape, ListNumber, ListRange, ListLength, LateCause, NotLate, ManyRecords}

-- "65,535 where none applies"
abbrev pub no_place : ℕ
no_place = 65535

-- the table "No., Cause", by the thing refused: each cause's number and its place
abbrev pub order_number : OrderCause → ℕ
order_number OrderShort = 1
order_number OrderVersion = 2
order_number Processors = 3
order_number Tasks = 4
order_number OrderLength = 5
order_number HeaderSpare = 6
order_number (TaskSpare task) = 6
order_number (Width task) = 7
order_number (Period task) = 8
order_number (Deadline task) = 9
order_number (RunTime task) = 10

abbrev pub order_place : OrderCause → ℕ
order_place OrderShort = no_place
order_place OrderVersion = no_place
order_place Processors = no_place
order_place Tasks = no_place
order_place OrderLength = no_place
order_place HeaderSpare = no_place
order_place (TaskSpare task) = task
order_place (Width task) = task
order_place (Period task) = task
order_place (Deadline task) = task
order_place (RunTime task) = task

abbrev pub call_number : CallCause → ℕ
call_number (FirstFit task) = 11
call_number Output = 12
call_number Columns = 13

abbrev pub call_place : CallCause → ℕ
call_place (FirstFit task) = task
call_place Output = no_place
call_place Columns = no_place

abbrev pub build_number : BuildCause → ℕ
build_number BuildShort = 20
build_number BuildMismatch = 21
build_number BuildLength = 22
build_number BuildSpare = 23
build_number (PartitionPlace partition) = 24
build_number (TaskPartition task) = 25
build_number (Rank task) = 26
build_number (Window task) = 27
build_number (Start task) = 28
build_number (Late task) = 29
build_number (Response task) = 30

abbrev pub build_place : BuildCause → ℕ
build_place BuildShort = no_place
build_place BuildMismatch = no_place
build_place BuildLength = no_place
build_place BuildSpare = no_place
build_place (PartitionPlace partition) = partition
build_place (TaskPartition task) = task
build_place (Rank task) = task
build_place (Window task) = task
build_place (Start task) = task
build_place (Late task) = task
build_place (Response task) = task

abbrev pub script_number : ScriptCause → ℕ
script_number ScriptLength = 40
script_number (RecordSpare release) = 41
script_number (RecordTask release) = 42
script_number (RecordOrder release) = 43
script_number (JobLength release) = 44
script_number (ReleaseGap release) = 45
script_number FinishPlaces = 46

abbrev pub script_place : ScriptCause → ℕ
script_place ScriptLength = no_place
script_place (RecordSpare release) = release
script_place (RecordTask release) = release
script_place (RecordOrder release) = release
script_place (JobLength release) = release
script_place (ReleaseGap release) = release
script_place FinishPlaces = no_place

-- "52 .. no place; then line by line, the line as place, 50 .., 51 .."
abbrev pub text_number : TextCause → ℕ
text_number (LineShape line) = 50
text_number (LineNumber line) = 51
text_number LineCount = 52

abbrev pub text_place : TextCause → ℕ
text_place (LineShape line) = line
text_place (LineNumber line) = line
text_place LineCount = no_place

-- "65 .. no place, first; 60 at the first byte .., 61 .. at its first digit; 62 .. at its second number"
abbrev pub list_number : ListCause → ℕ
list_number (ListShape at) = 60
list_number (ListNumber at) = 61
list_number (ListRange at) = 62
list_number ListLength = 65

abbrev pub list_place : ListCause → ℕ
list_place (ListShape at) = at
list_place (ListNumber at) = at
list_place (ListRange at) = at
list_place ListLength = no_place

-- "63 the build isn't refused 29, 64 more than 1,024 records"
abbrev pub late_number : LateCause → ℕ
late_number NotLate = 63
late_number ManyRecords = 64

abbrev pub late_place : LateCause → ℕ
late_place NotLate = no_place
late_place ManyRecords = no_place

abbrev pub cause_number : Refusal → ℕ
cause_number (OfOrder cause) = order_number cause
cause_number (OfCall cause) = call_number cause
cause_number (OfBuild cause) = build_number cause
cause_number (OfScript cause) = script_number cause
cause_number (OfText cause) = text_number cause
cause_number (OfList cause) = list_number cause
cause_number (OfLate cause) = late_number cause

abbrev pub cause_place : Refusal → ℕ
cause_place (OfOrder cause) = order_place cause
cause_place (OfCall cause) = call_place cause
cause_place (OfBuild cause) = build_place cause
cause_place (OfScript cause) = script_place cause
cause_place (OfText cause) = text_place cause
cause_place (OfList cause) = list_place cause
cause_place (OfLate cause) = late_place cause

-- "0 means done: place 65,535, count of bytes or finish ticks written"; "Refusals have count 0"
unfoldable pub answer_number : Answer → ℕ
answer_number (Ok count) = 0
answer_number (Err cause) = cause_number cause

unfoldable pub answer_place : Answer → ℕ
answer_place (Ok count) = no_place
answer_place (Err cause) = cause_place cause

unfoldable pub answer_count : Answer → ℕ
answer_count (Ok count) = count
answer_count (Err cause) = 0

-- what the output holds after an answer, where the front is what a done call writes
unfoldable pub output_after : Answer → List ℕ → List ℕ → List ℕ
output_after (Ok count) front output = front ++ drop count output
output_after (Err cause) front output = output

-- "On refusal the output is unchanged; on success only the counted front changes."
pub record OnlyCountedFront (answer : Answer) (before after : List ℕ) : Type 0 where
  pub same_length : length after ≡ length before
  pub rest_unchanged : drop (answer_count answer) after ≡ drop (answer_count answer) before
