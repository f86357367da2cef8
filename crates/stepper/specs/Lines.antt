-- The records of a script in line: those of one task, and those of a group of tasks.
use Rattle.std.specs.Prelude.{ℕ, suc, ◌≤◌, ◌<◌, ◌≡◌, List, [], ◌∷◌, length}
use Rattle.model.specs.declared.build.Release.{Release}
use Rattle.model.specs.Limits.{most_records}
use Rattle.machine.specs.Step.{Job, job}
use Rattle.machine.specs.Pattern.{record_of, joins_at}

-- the task of record i
abbrev pub record_task : List Release → ℕ → ℕ
record_task script i = (record_of script i).task

-- the tick at which record i joins
abbrev pub record_joins : List Release → ℕ → ℕ
record_joins script i = joins_at (record_of script i)

-- r is the first record from i on of a group of tasks, or most_records if there is none
pub record NextOf (group : ℕ → ℕ) (script : List Release) (g i r : ℕ) : Type 0 where
  pub from : i ≤ r
  pub upto : r ≤ most_records
  pub there : r < most_records → r < length script
  pub own : r < most_records → group (record_task script r) ≡ g
  pub between : (x : ℕ) → i ≤ x → x < r → x < length script → group (record_task script x) ≡ g → ⊥

-- the jobs are those of the records of a task from i on that joined before a tick, the oldest first
abbrev pub JobsInLine : List Release → (task i : ℕ) → List Job → (tick : ℕ) → Type 0
JobsInLine script task i [] tick = (x : ℕ) → i ≤ x → x < length script → record_task script x ≡ task → tick ≤ record_joins script x
JobsInLine script task i (j ∷ younger) tick =
    (r : ℕ) × (i ≤ r) × (r < length script) × (record_task script r ≡ task) × ((x : ℕ) → i ≤ x → x < r → record_task script x ≡ task → ⊥)
    × (j ≡ job (record_joins script r) (record_of script r).duration) × (record_joins script r < tick) × JobsInLine script task (suc r) younger tick
