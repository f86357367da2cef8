-- Tasks that come every T, from one tick up to another, every length C.
use Rattle.std.specs.Prelude.{ℕ, ◌+◌, ◌-◌, ◌/◌, ◌%◌, Bool, ◌&&◌, ltb, eqb}
use Rattle.laws.specs.Choice.{within}
use Rattle.laws.specs.Sums.{only, sum}
use Rattle.model.specs.declared.order.Order.{Order}
use Rattle.demand.specs.Releases.{period_of}
use Rattle.machine.specs.Step.{Pattern}
use Rattle.machine.specs.Pattern.{run_of}

-- which tasks come, and each of them from which tick up to which
pub record Comings : Type 0 where
  pub takes_part : ℕ → Bool
  pub first : ℕ → ℕ
  pub last : ℕ → ℕ

module _ (o : Order) (c : Comings) where
  -- "comes every T up to": a task comes at a tick
  unfoldable pub comes_at : (tick task : ℕ) → Bool
  comes_at tick task = c.takes_part task && (within (c.first task) (c.last task) tick && eqb ((tick - c.first task) % period_of o task) 0)

  -- "every length is C"
  unfoldable pub coming_pattern : Pattern
  coming_pattern tick task = only (ltb task o.tasks && comes_at tick task) (run_of o task)

  -- how often the tasks come, together
  unfoldable pub coming_count : ℕ
  coming_count = sum (λ task. only (c.takes_part task) ((c.last task - c.first task) / period_of o task + 1)) o.tasks
