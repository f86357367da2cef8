use Rattle.std.proofs.Common.{ℕ, ◌-◌, ◌≤◌}
use Rattle.model.specs.Limits.{horizon}
use Rattle.asked.specs.Rows.{row_task, asked_by}
use Rattle.verdict.proofs.InTurn.{Going}
use Rattle.verdict.proofs.jobs.Given as goal

abbrev pub invariant-loop-release : goal.invariant-loop-release
invariant-loop-release l = record {
  going : (q : ℕ) × Going (asked_by l.rows l.rank) l.blocking (row_task l.rows l.rank) q l.base l.release l.begin l.worst;
  near : l.begin ≤ 2_000_000;
}

abbrev pub decreases-loop-release : goal.decreases-loop-release
decreases-loop-release l = horizon - l.release
