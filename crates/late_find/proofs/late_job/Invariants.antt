use Prim.Native.Nat.{◌-◌}
use Rattle.model.specs.Limits.{horizon}
use Rattle.asked.specs.Rows.{asked_by}
use Rattle.late_find.proofs.Jobs.{SoFar}
use Rattle.late_find.proofs.late_job.Given as goal

abbrev pub invariant-jobs : goal.invariant-jobs
invariant-jobs l = SoFar (asked_by l.rows l.count) l.blocking l.task l.number l.base l.release l.from

abbrev pub decreases-jobs : goal.decreases-jobs
decreases-jobs l = horizon - l.release
