-- The rows of tasks by number, and of lined tasks by place.
use Rattle.std.specs.Prelude.{ℕ, ◌<◌, ◌≡◌, List, length}
use Rattle.model.specs.declared.order.Task.{Task}
use Rattle.model.specs.declared.order.Order.{Order}
use Rattle.model.specs.Limits.{most_tasks, task_of, cost}
use Rattle.asked.specs.declared.rows.Rows.{Rows}
use Rattle.asked.specs.Rows.{period_at, cost_at, share_at, deadline_at, row_at, share_of}
use Rattle.roster.specs.Keys.{number_at}

-- a place for each of 32 tasks
pub record RowPlaces (rows : Rows) : Type 0 where
  pub periods : length rows.periods ≡ most_tasks
  pub costs : length rows.costs ≡ most_tasks
  pub shares : length rows.shares ≡ most_tasks
  pub deadlines : length rows.deadlines ≡ most_tasks

-- row i holds a task's period, cost, share and deadline
pub record RowOf (rows : Rows) (i : ℕ) (task : Task) : Type 0 where
  pub period : period_at rows i ≡ task.period
  pub cost_is : cost_at rows i ≡ cost task
  pub share : share_at rows i ≡ share_of task
  pub deadline : deadline_at rows i ≡ task.deadline

-- each of the first n tasks of an order has its row
pub record RowsByNumber (o : Order) (n : ℕ) (rows : Rows) : Type 0 where
  pub places : RowPlaces rows
  pub each : (i : ℕ) → i < n → RowOf rows i (task_of o i)

-- each of the lined tasks has its row, copied from a table by number
pub record RowsInLine (table : Rows) (keys : List ℕ) (count : ℕ) (rows : Rows) : Type 0 where
  pub places : RowPlaces rows
  pub each : (r : ℕ) → r < count → row_at rows r ≡ row_at table (number_at keys r)
