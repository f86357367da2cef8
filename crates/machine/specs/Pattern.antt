-- Which releases are legal: those of a pattern, and those of a script, a list of records (tick, task, length).
use Rattle.std.specs.Prelude.{ℕ, ◌+◌, ◌≤◌, ◌<◌, ◌≡◌, ◌&&◌, List, [], ◌∷◌, ◌⊎◌, eqb, length, get_or}
use Rattle.laws.specs.Choice.{pick}
use Rattle.model.specs.declared.order.Order.{Order}
use Rattle.model.specs.declared.build.Release.{Release}
use Rattle.model.specs.Limits.{task_of, zero_release}
use Rattle.model.specs.Rules.{InRange}
use Rattle.demand.specs.Releases.{period_of}
use Rattle.machine.specs.Step.{Pattern}

-- the longest that a job of the task may be: "its own length, 1 to C"
abbrev pub run_of : Order → ℕ → ℕ
run_of o task = (task_of o task).run

-- a legal pattern of an order's tasks
pub record LegalPattern (o : Order) (releases : Pattern) : Type 0 where
  pub known : (tick task : ℕ) → 0 < releases tick task → task < o.tasks
  -- "lengths are 1 to C"
  pub durations : (tick task : ℕ) → 0 < releases tick task → releases tick task ≤ run_of o task
  -- "releases of one task are at least T apart"
  pub apart : (earlier later task : ℕ) → 0 < releases earlier task → 0 < releases later task → earlier < later → earlier + period_of o task ≤ later

-- record i of a script
abbrev pub record_of : List Release → ℕ → Release
record_of script i = get_or script i zero_release

-- the tick at which a record's job joins
unfoldable pub joins_at : Release → ℕ
joins_at r = r.tick

-- "by tick, then task"
abbrev pub Before : Release → Release → Type 0
Before r s = (r.tick < s.tick) ⊎ ((r.tick ≡ s.tick) × (r.task < s.task))

-- "A script is legal if ..", of an order's tasks
pub record LegalScript (o : Order) (script : List Release) : Type 0 where
  pub known : (i : ℕ) → i < length script → (record_of script i).task < o.tasks
  -- "its records rise strictly by tick, then task"
  pub rise : (i j : ℕ) → i < j → j < length script → Before (record_of script i) (record_of script j)
  -- "its lengths are 1 to C"
  pub durations : (i : ℕ) → i < length script → InRange 1 (run_of o (record_of script i).task) (record_of script i).duration
  -- "and releases of one task are at least T apart"
  pub apart : (i j : ℕ) → i < j → j < length script → (record_of script i).task ≡ (record_of script j).task
      → (record_of script i).tick + period_of o (record_of script i).task ≤ (record_of script j).tick

-- the pattern that a script gives: the length of the record that joins at this tick for this task, 0 if there is none
unfoldable pub pattern_of : List Release → Pattern
pattern_of [] tick task = 0
pattern_of (r ∷ script) tick task = pick (eqb (joins_at r) tick && eqb r.task task) r.duration (pattern_of script tick task)
