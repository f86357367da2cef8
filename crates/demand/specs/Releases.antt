-- How often a task is released, and how long those jobs take.
use Rattle.std.specs.Prelude.{ℕ, ◌+◌, ◌-◌, ◌*◌, ◌/◌}
use Rattle.model.specs.declared.order.Task.{Task}
use Rattle.model.specs.declared.order.Order.{Order}
use Rattle.model.specs.Limits.{task_of, cost}

abbrev pub period_of : Order → ℕ → ℕ
period_of o i = (task_of o i).period

abbrev pub cost_of : Order → ℕ → ℕ
cost_of o i = cost (task_of o i)

-- t / T rounded up
unfoldable pub ceil_div : ℕ → ℕ → ℕ
ceil_div t T = (t + (T - 1)) / T

-- "ceil(t/T)": the releases of a task within t ticks
unfoldable pub releases_in : Task → ℕ → ℕ
releases_in task t = ceil_div t task.period

-- "floor(w/T)+1": those from a tick to the tick w later, both counted
unfoldable pub releases_by : Task → ℕ → ℕ
releases_by task w = w / task.period + 1

-- "ceil(t/T)·C" and "(floor(w/T)+1)·C": the work of those releases
unfoldable pub work_in : Task → ℕ → ℕ
work_in task t = releases_in task t * cost task

unfoldable pub work_by : Task → ℕ → ℕ
work_by task w = releases_by task w * cost task

-- "q = 0, 1, .. with q·T < L": how many q there are, as `jobs_are` of proofs/Releases.antt says
unfoldable pub jobs : Task → ℕ → ℕ
jobs task L = ceil_div L task.period
