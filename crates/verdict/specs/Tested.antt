-- What the test of one member answers, over the rows of the higher members.
use Rattle.std.specs.Prelude.{ℕ, ◌+◌, ◌≤◌, ◌≡◌, Bool, true, false, Some, None, Option, Ok, Err}
use Rattle.model.specs.declared.order.Task.{Task}
use Rattle.demand.specs.Verdict.{Verdict}
use Rattle.demand.specs.Test.{first_met}
use Rattle.demand.specs.Over.{window_over, verdict_over}
use Rattle.asked.specs.Rows.{row_task, asked_by}
use Rattle.asked.specs.Met.{UnmetBelow}
use Rattle.verdict.specs.declared.Tested.{Tested}
use Rattle.asked.specs.declared.rows.Rows.{Rows}

-- the verdict on the member of a rank, blocked so long
abbrev pub verdict_in : Rows → (rank blocking : ℕ) → Verdict
verdict_in rows rank blocking = verdict_over (asked_by rows rank) blocking (row_task rows rank)

-- the worst response of a member that passes
abbrev pub worst_of : Verdict → Option ℕ
worst_of (Ok worst) = Some worst
worst_of (Err failing) = None

-- the worst response if the verdict has one, and a tick before which no window closes
pub record TestedAs (rows : Rows) (rank blocking : ℕ) (r : Tested) : Type 0 where
  pub worst : r.worst ≡ worst_of (verdict_in rows rank blocking)
  pub near : r.last ≤ 2_000_000
  pub unmet : UnmetBelow (asked_by rows (rank + 1)) blocking r.last

abbrev pub is_there : Option ℕ → Bool
is_there (Some size) = true
is_there None = false

unfoldable pub window_of : (work : ℕ → ℕ) → (blocking : ℕ) → Task → Option ℕ
window_of work blocking task = first_met (window_over work blocking task) 1
