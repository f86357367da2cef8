-- "The response test", line by line, for member i of a partition of an order's tasks.
use Rattle.std.specs.Prelude.{Bool, true, false, ◌||◌, ℕ, zero, suc, ◌+◌, ◌-◌, ◌*◌, max, leb, eqb, Some, None, Option, Ok, Err}
use Rattle.laws.specs.Choice.{pick}
use Rattle.laws.specs.Sums.{only, sum, largest}
use Rattle.model.specs.declared.order.Order.{Order}
use Rattle.model.specs.Limits.{horizon, task_of}
use Rattle.search.specs.Smallest.{smallest}
pub use Rattle.demand.specs.Verdict.{Verdict}
pub use Rattle.demand.specs.declared.Failing.TheVariants.{NoWindow, NoStart, TooLate}
use Rattle.demand.specs.Priority.{Members, deadline_of, higher, lower}
use Rattle.demand.specs.Releases.{period_of, cost_of, work_in, work_by, jobs}

-- "the smallest t from .. to H with .. ≤ t", of what is asked of t
unfoldable pub first_met : (ℕ → ℕ) → ℕ → Option ℕ
first_met asked least = smallest (λ t. leb (asked t) t) least horizon

module _ (o : Order) (member : Members) (i : ℕ) where
  -- "Blocking B is the largest C among lower-priority members, less 1; 0 if there are none."
  unfoldable pub blocking : ℕ
  blocking = largest (λ j. only (lower o member i j) (cost_of o j)) o.tasks - 1

  -- "B + the sum over i and higher members of ceil(t/T)·C"
  unfoldable pub window_demand : ℕ → ℕ
  window_demand t = blocking + sum (λ j. only (eqb j i || higher o member i j) (work_in (task_of o j) t)) o.tasks

  -- "Window L is the smallest t from 1 to H with .. ≤ t."
  unfoldable pub window : Option ℕ
  window = first_met window_demand 1

  -- "the sum over higher members of (floor(w/T)+1)·C"
  unfoldable pub higher_work : ℕ → ℕ
  higher_work w = sum (λ j. only (higher o member i j) (work_by (task_of o j) w)) o.tasks

  -- "B + q·C_i + the sum over higher members of (floor(w/T)+1)·C"
  unfoldable pub start_demand : ℕ → ℕ → ℕ
  start_demand q w = blocking + q * cost_of o i + higher_work w

  -- "start w_q is the smallest w from 0 to H with .. ≤ w"
  unfoldable pub start : ℕ → Option ℕ
  start q = first_met (start_demand q) 0

-- "w_q + C_i − q·T_i"; nothing without a start
abbrev pub response_from : Option ℕ → ℕ → ℕ → Option ℕ
response_from None cost before = None
response_from (Some w) cost before = Some (w + cost - before)

-- the larger of two; nothing if one is missing
abbrev pub larger_found : Option ℕ → Option ℕ → Option ℕ
larger_found None y = None
larger_found (Some x) None = None
larger_found (Some x) (Some y) = Some (max x y)

-- the largest of the first k; nothing if one is missing
unfoldable pub largest_found : (ℕ → Option ℕ) → ℕ → Option ℕ
largest_found f zero = Some 0
largest_found f (suc k) = larger_found (largest_found f k) (f k)

-- "Member i passes if it is at most D_i"
abbrev pub judged : ℕ → Option ℕ → Verdict
judged deadline None = Err NoStart
judged deadline (Some worst) = pick (leb worst deadline) (Ok worst) (Err TooLate)

-- "without a window or one of its starts it does not pass"
abbrev pub verdict_by : Option ℕ → (ℕ → Option ℕ) → ℕ → Verdict
verdict_by None worst deadline = Err NoWindow
verdict_by (Some L) worst deadline = judged deadline (worst L)

module _ (o : Order) (member : Members) (i : ℕ) where
  -- "Its response is w_q + C_i − q·T_i."
  unfoldable pub response : ℕ → Option ℕ
  response q = response_from (start o member i q) (cost_of o i) (q * period_of o i)

  -- "For each q = 0, 1, .. with q·T_i < L": "The worst response is the largest of these."
  unfoldable pub worst : ℕ → Option ℕ
  worst L = largest_found response (jobs (task_of o i) L)

  unfoldable pub verdict : Verdict
  verdict = verdict_by (window o member i) worst (deadline_of o i)

-- it passes
abbrev pub does_pass : Verdict → Bool
does_pass (Ok worst) = true
does_pass (Err NoWindow) = false
does_pass (Err NoStart) = false
does_pass (Err TooLate) = false

-- the worst response of a member that passes, 0 of another
abbrev pub response_of : Verdict → ℕ
response_of (Ok worst) = worst
response_of (Err NoWindow) = 0
response_of (Err NoStart) = 0
response_of (Err TooLate) = 0
