-- The pattern of R-3, up to job q of task i, which starts w ticks after the begin.
use Rattle.std.specs.Prelude.{ℕ, suc, ◌+◌, ◌-◌, ◌*◌, Bool, false, ◌&&◌, ◌||◌, List, ltb, eqb, Some, None, Option}
use Rattle.laws.specs.Choice.{pick}
use Rattle.model.specs.declared.order.Order.{Order}
use Rattle.model.specs.declared.build.Release.{Release}
use Rattle.search.specs.Smallest.{smallest}
use Rattle.demand.specs.Priority.{Members, higher, lower}
use Rattle.demand.specs.Releases.{period_of, cost_of}
use Rattle.demand.specs.Test.{blocking}
use Rattle.machine.specs.Step.{Pattern}
use Rattle.comings.specs.Comings.{Comings, coming_pattern}
use Rattle.comings.specs.Listed.{script_before}

module _ (o : Order) (member : Members) (i : ℕ) where
  -- "the lower member with the largest C, lowest number among equals": B is that C less 1
  unfoldable pub longest_lower : Option ℕ
  longest_lower = smallest (λ j. lower o member i j && eqb (cost_of o j) (suc (blocking o member i))) 0 (o.tasks - 1)

  abbrev pub is_at : Option ℕ → ℕ → Bool
  is_at (Some number) j = eqb j number
  is_at None j = false

  -- "if B is over 0" it comes
  unfoldable pub blocks : ℕ → Bool
  blocks j = ltb 0 (blocking o member i) && is_at longest_lower j

  -- "the rest begin at tick 1, else at 0"
  unfoldable pub begin : ℕ
  begin = pick (ltb 0 (blocking o member i)) 1 0

  module _ (q w : ℕ) where
    -- "comes once at tick 0 and the rest begin at tick 1": from which tick on a task comes
    unfoldable pub comes_from : ℕ → ℕ
    comes_from j = pick (blocks j) 0 begin

    -- "the named task comes every T up to its first late job, the higher members every T up to the tick at which that job starts"
    unfoldable pub comes_up_to : ℕ → ℕ
    comes_up_to j = pick (eqb j i) (begin + q * period_of o i) (pick (higher o member i j) (begin + w) 0)

    abbrev pub critical_comings : Comings
    critical_comings = record { takes_part = λ j. eqb j i || (higher o member i j || blocks j); first = comes_from; last = comes_up_to }

    abbrev pub critical_pattern : Pattern
    critical_pattern = coming_pattern o critical_comings

    -- its records by tick, then task
    abbrev pub critical_script : List Release
    critical_script = script_before critical_pattern (suc (begin + w))
