-- The script of R-3: the pattern up to the named task's "first late job".
use Rattle.std.specs.Prelude.{ℕ, ◌+◌, ◌*◌, ◌≤◌, ◌<◌, Bool, false, List, ltb, Some, None, Option}
use Rattle.model.specs.declared.order.Order.{Order}
use Rattle.model.specs.declared.build.Release.{Release}
use Rattle.model.specs.Limits.{horizon}
use Rattle.search.specs.Smallest.{smallest, number_found}
use Rattle.demand.specs.Priority.{Members, deadline_of}
use Rattle.demand.specs.Releases.{period_of, cost_of}
use Rattle.demand.specs.Test.{start, response}
use Rattle.demand.specs.Meaning.{IsStart}
use Rattle.critical.specs.Pattern.{critical_script}

-- a response over D
abbrev pub is_over : (deadline : ℕ) → Option ℕ → Bool
is_over deadline (Some response) = ltb deadline response
is_over deadline None = false

module _ (o : Order) (member : Members) (i : ℕ) where
  -- the number of "its first late job"
  unfoldable pub late_job : ℕ
  late_job = number_found (smallest (λ q. is_over (deadline_of o i) (response o member i q)) 0 horizon)

  -- how long after the begin that job starts
  unfoldable pub late_start : ℕ
  late_start = number_found (start o member i late_job)

  abbrev pub late_script : List Release
  late_script = critical_script o member i late_job late_start

  -- what those two are: job q starts at w and ends past its deadline, and every earlier one in time
  pub record FirstLate (q w : ℕ) : Type 0 where
    pub starts : IsStart o member i q w
    pub late : q * period_of o i + deadline_of o i < w + cost_of o i
    pub earlier : (p : ℕ) → p < q → (v : ℕ) × (IsStart o member i p v) × (v + cost_of o i ≤ p * period_of o i + deadline_of o i)
