-- The declared kinds under one name each.
use Rattle.std.specs.Prelude.{ℕ, Result}
pub use Rattle.model.specs.declared.order.Task.{Task}
pub use Rattle.model.specs.declared.order.Order.{Order}
pub use Rattle.model.specs.declared.build.Partition.{Partition}
pub use Rattle.model.specs.declared.build.Member.{Member}
pub use Rattle.model.specs.declared.build.Build.{Build}
pub use Rattle.model.specs.declared.build.Release.{Release}
pub use Rattle.model.specs.declared.answer.Reading.{Reading}
pub use Rattle.model.specs.declared.answer.Refusal.{Refusal}
pub use Rattle.model.specs.declared.answer.Refusal.TheVariants.{OfOrder, OfCall, OfBuild, OfScript, OfText, OfList, OfLate}
pub use Rattle.model.specs.declared.answer.OrderCause.{OrderCause}
pub use Rattle.model.specs.declared.answer.OrderCause.TheVariants.{OrderShort, OrderVersion, Processors, Tasks, OrderLength, HeaderSpare, TaskSpare, Width, Period, Deadline, RunTime}
pub use Rattle.model.specs.declared.answer.CallCause.{CallCause}
pub use Rattle.model.specs.declared.answer.CallCause.TheVariants.{FirstFit, Output, Columns}
pub use Rattle.model.specs.declared.answer.BuildCause.{BuildCause}
pub use Rattle.model.specs.declared.answer.BuildCause.TheVariants.{BuildShort, BuildMismatch, BuildLength, BuildSpare, PartitionPlace, TaskPartition, Rank, Window, Start, Late, Response}
pub use Rattle.model.specs.declared.answer.ScriptCause.{ScriptCause}
pub use Rattle.model.specs.declared.answer.ScriptCause.TheVariants.{ScriptLength, RecordSpare, RecordTask, RecordOrder, JobLength, ReleaseGap, FinishPlaces}
pub use Rattle.model.specs.declared.answer.TextCause.{TextCause}
pub use Rattle.model.specs.declared.answer.TextCause.TheVariants.{LineShape, LineNumber, LineCount}
pub use Rattle.model.specs.declared.answer.ListCause.{ListCause}
pub use Rattle.model.specs.declared.answer.ListCause.TheVariants.{ListShape, ListNumber, ListRange, ListLength}
pub use Rattle.model.specs.declared.answer.LateCause.{LateCause}
pub use Rattle.model.specs.declared.answer.LateCause.TheVariants.{NotLate, ManyRecords}

-- "0 means done: .. count of bytes or finish ticks written"; or one refusal
abbrev pub Answer : Type 0
Answer = Result ℕ Refusal
