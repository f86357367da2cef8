-- Members as rows of numbers, and what they ask.
use Rattle.std.specs.Prelude.{ℕ, ◌+◌, ◌-◌, ◌*◌, ◌/◌, ◌≤◌, ◌<◌, ◌≡◌, List, get_or, set, replicate}
use Rattle.laws.specs.Sums.{sum, largest}
use Rattle.model.specs.declared.order.Task.{Task}
use Rattle.model.specs.Limits.{most_tasks, cost}
use Rattle.model.specs.Rules.{Sized}
use Rattle.demand.specs.Releases.{work_by}
use Rattle.asked.specs.declared.rows.Row.{Row}
use Rattle.asked.specs.declared.rows.Rows.{Rows}

-- a member's numbers by its rank
abbrev pub period_at : Rows → (rank : ℕ) → ℕ
period_at rows rank = get_or rows.periods rank 0

abbrev pub cost_at : Rows → (rank : ℕ) → ℕ
cost_at rows rank = get_or rows.costs rank 0

abbrev pub share_at : Rows → (rank : ℕ) → ℕ
share_at rows rank = get_or rows.shares rank 0

abbrev pub deadline_at : Rows → (rank : ℕ) → ℕ
deadline_at rows rank = get_or rows.deadlines rank 0

abbrev pub row_at : Rows → (rank : ℕ) → Row
row_at rows rank = record { period = period_at rows rank; cost = cost_at rows rank; share = share_at rows rank; deadline = deadline_at rows rank }

-- one row written over
abbrev pub row_put : Rows → (rank : ℕ) → Row → Rows
row_put rows rank row =
    record { periods = set rows.periods rank row.period; costs = set rows.costs rank row.cost; shares = set rows.shares rank row.share; deadlines = set rows.deadlines rank row.deadline }

abbrev pub no_numbers : List ℕ
no_numbers = replicate most_tasks 0

abbrev pub no_rows : Rows
no_rows = record { periods = no_numbers; costs = no_numbers; shares = no_numbers; deadlines = no_numbers }

-- the member of a rank, as the test reads it
abbrev pub row_task : Rows → (rank : ℕ) → Task
row_task rows rank = record { width = 0; period = period_at rows rank; deadline = deadline_at rows rank; run = cost_at rows rank }

-- the parts of a whole processor
abbrev pub whole : ℕ
whole = 3_491_888_400

-- the share of a processor that a task takes, in parts of the whole, rounded down
unfoldable pub share_of : Task → ℕ
share_of task = cost task * whole / task.period

-- so many members within the limits, with their shares
pub record RowsFit (rows : Rows) (count : ℕ) : Type 0 where
  pub few : count ≤ most_tasks
  pub each : (r : ℕ) → r < count → Sized (row_task rows r)
  pub shares : (r : ℕ) → r < count → share_at rows r ≡ share_of (row_task rows r)

-- what they ask by w
unfoldable pub asked_by : Rows → (count w : ℕ) → ℕ
asked_by rows count w = sum (λ r. work_by (row_task rows r) w) count

-- how long the member of a rank is blocked by those after it
unfoldable pub blocking_in : Rows → (count rank : ℕ) → ℕ
blocking_in rows count rank = largest (λ s. cost_at rows (rank + 1 + s)) (count - (rank + 1)) - 1
