-- Every cause's number is small.
use Prim.Native.Nat.{◌≤◌}
use native.Mathlib.Omega.{arith}
use Rattle.model.specs.declared.answer.Refusal.{Refusal}
use Rattle.model.specs.declared.answer.Refusal.TheVariants.{OfOrder, OfCall, OfBuild, OfScript, OfText, OfList, OfLate}
use Rattle.model.specs.declared.answer.OrderCause.{OrderCause}
use Rattle.model.specs.declared.answer.OrderCause.TheVariants.{OrderShort, OrderVersion, Processors, Tasks, OrderLength, HeaderSpare, TaskSpare, Width, Period, Deadline, RunTime}
use Rattle.model.specs.declared.answer.CallCause.{CallCause}
use Rattle.model.specs.declared.answer.CallCause.TheVariants.{FirstFit, Output, Columns}
use Rattle.model.specs.declared.answer.BuildCause.{BuildCause}
use Rattle.model.specs.declared.answer.BuildCause.TheVariants.{BuildShort, BuildMismatch, BuildLength, BuildSpare, PartitionPlace, TaskPartition, Rank, Window, Start, Late, Response}
use Rattle.model.specs.declared.answer.ScriptCause.{ScriptCause}
use Rattle.model.specs.declared.answer.ScriptCause.TheVariants.{ScriptLength, RecordSpare, RecordTask, RecordOrder, JobLength, ReleaseGap, FinishPlaces}
use Rattle.model.specs.declared.answer.TextCause.{TextCause}
use Rattle.model.specs.declared.answer.TextCause.TheVariants.{LineShape, LineNumber, LineCount}
use Rattle.model.specs.declared.answer.ListCause.{ListCause}
use Rattle.model.specs.declared.answer.ListCause.TheVariants.{ListShape, ListNumber, ListRange, ListLength}
use Rattle.model.specs.declared.answer.LateCause.{LateCause}
use Rattle.model.specs.declared.answer.LateCause.TheVariants.{NotLate, ManyRecords}
use Rattle.model.specs.Answer.{order_number, call_number, build_number, script_number, text_number, list_number, late_number, cause_number}

order_number_small : (cause : OrderCause) → order_number cause ≤ 65
order_number_small OrderShort = omega arith
order_number_small OrderVersion = omega arith
order_number_small Processors = omega arith
order_number_small Tasks = omega arith
order_number_small OrderLength = omega arith
order_number_small HeaderSpare = omega arith
order_number_small (TaskSpare place) = omega arith
order_number_small (Width place) = omega arith
order_number_small (Period place) = omega arith
order_number_small (Deadline place) = omega arith
order_number_small (RunTime place) = omega arith

call_number_small : (cause : CallCause) → call_number cause ≤ 65
call_number_small (FirstFit place) = omega arith
call_number_small Output = omega arith
call_number_small Columns = omega arith

build_number_small : (cause : BuildCause) → build_number cause ≤ 65
build_number_small BuildShort = omega arith
build_number_small BuildMismatch = omega arith
build_number_small BuildLength = omega arith
build_number_small BuildSpare = omega arith
build_number_small (PartitionPlace place) = omega arith
build_number_small (TaskPartition place) = omega arith
build_number_small (Rank place) = omega arith
build_number_small (Window place) = omega arith
build_number_small (Start place) = omega arith
build_number_small (Late place) = omega arith
build_number_small (Response place) = omega arith

script_number_small : (cause : ScriptCause) → script_number cause ≤ 65
script_number_small ScriptLength = omega arith
script_number_small (RecordSpare place) = omega arith
script_number_small (RecordTask place) = omega arith
script_number_small (RecordOrder place) = omega arith
script_number_small (JobLength place) = omega arith
script_number_small (ReleaseGap place) = omega arith
script_number_small FinishPlaces = omega arith

text_number_small : (cause : TextCause) → text_number cause ≤ 65
text_number_small (LineShape place) = omega arith
text_number_small (LineNumber place) = omega arith
text_number_small LineCount = omega arith

list_number_small : (cause : ListCause) → list_number cause ≤ 65
list_number_small (ListShape place) = omega arith
list_number_small (ListNumber place) = omega arith
list_number_small (ListRange place) = omega arith
list_number_small ListLength = omega arith

late_number_small : (cause : LateCause) → late_number cause ≤ 65
late_number_small NotLate = omega arith
late_number_small ManyRecords = omega arith

pub cause_number_small : (cause : Refusal) → cause_number cause ≤ 65
cause_number_small (OfOrder cause) = order_number_small cause
cause_number_small (OfCall cause) = call_number_small cause
cause_number_small (OfBuild cause) = build_number_small cause
cause_number_small (OfScript cause) = script_number_small cause
cause_number_small (OfText cause) = text_number_small cause
cause_number_small (OfList cause) = list_number_small cause
cause_number_small (OfLate cause) = late_number_small cause
