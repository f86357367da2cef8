-- The test over what it needs to know of the higher members: the work that they release by w. Inner definitions; Test.antt has the document's.
use Rattle.std.specs.Prelude.{ℕ, ◌+◌, ◌-◌, ◌*◌, Option}
use Rattle.model.specs.declared.order.Task.{Task}
use Rattle.model.specs.Limits.{cost}
use Rattle.demand.specs.Releases.{work_by, jobs}
use Rattle.demand.specs.Test.{Verdict, first_met, response_from, largest_found, verdict_by}

-- what is asked of a start at w over a base of B + q·C
unfoldable pub start_over : (work : ℕ → ℕ) → (base w : ℕ) → ℕ
start_over work base w = base + work w

module _ (work : ℕ → ℕ) (blocking : ℕ) (task : Task) where
  -- what is asked of a window of t ticks, by its last tick
  unfoldable pub window_over : ℕ → ℕ
  window_over t = blocking + work_by task (t - 1) + work (t - 1)

  -- what is asked of the start of job q
  abbrev pub job_base : ℕ → ℕ
  job_base q = blocking + q * cost task

  unfoldable pub response_over : ℕ → Option ℕ
  response_over q = response_from (first_met (start_over work (job_base q)) 0) (cost task) (q * task.period)

  unfoldable pub verdict_over : Verdict
  verdict_over = verdict_by (first_met window_over 1) (λ L. largest_found response_over (jobs task L)) task.deadline
