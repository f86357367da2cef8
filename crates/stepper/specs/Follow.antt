-- The machine is the partition of crate machine before a tick.
use Rattle.std.specs.Prelude.{ℕ, suc, ◌≤◌, ◌<◌, ◌≡◌, List, ◌⊎◌, length, get_or}
use Rattle.model.specs.declared.order.Order.{Order}
use Rattle.model.specs.declared.build.Build.{Build}
use Rattle.model.specs.declared.build.Release.{Release}
use Rattle.model.specs.Limits.{most_tasks, most_records, member_of, home_of}
use Rattle.demand.specs.Priority.{members_of, rank}
use Rattle.machine.specs.Step.{Running, free, runs}
use Rattle.machine.specs.Pattern.{pattern_of, LegalScript}
use Rattle.machine.specs.Box.{box_before}
use Rattle.script.specs.Held.{Held}
use Rattle.stepper.specs.declared.Machine.{Machine}
use Rattle.stepper.specs.Ranks.{rank_bit}
use Rattle.stepper.specs.Lines.{record_task, record_joins, NextOf, JobsInLine}

-- the rank that a build records for task k
abbrev pub rank_of : Build → ℕ → ℕ
rank_of b k = (member_of b k).rank

-- the machine's oldest record of task k
abbrev pub oldest_of : Build → Machine → ℕ → ℕ
oldest_of b m k = get_or m.oldest (rank_of b k) 0

-- before record h all of a task's have joined, and started; h is one of its own, or most_records
pub record Heads (script : List Release) (tick task h : ℕ) : Type 0 where
  pub there : h < most_records → h < length script
  pub own : h < length script → record_task script h ≡ task
  pub before : (i : ℕ) → i < h → i < length script → record_task script i ≡ task → record_joins script i < tick

-- what the partition runs
abbrev pub ShowsRunning : List Release → Machine → Running → Type 0
ShowsRunning script m free = (m.job ≡ most_records) × (m.left ≡ 0)
ShowsRunning script m (runs task release left) =
    (m.left ≡ left) × (m.job < length script) × (record_task script m.job ≡ task) × (record_joins script m.job ≡ release)

-- the ranks are those of partition p's members of which a job has joined before a tick and has not started; each member's oldest such record is known
pub record Marks (o : Order) (b : Build) (script : List Release) (p : ℕ) (oldest : ℕ → ℕ) (tick ranks : ℕ) : Type 0 where
  pub waits : (k : ℕ) → k < o.tasks → home_of b k ≡ p → oldest k < most_records → record_joins script (oldest k) < tick → rank_bit ranks (rank_of b k) ≡ 1
  pub only_they : (r : ℕ) → rank_bit ranks r ≡ 1
      → (k : ℕ) × (k < o.tasks) × (home_of b k ≡ p) × (rank_of b k ≡ r) × (oldest k < most_records) × (record_joins script (oldest k) < tick)

-- partition p before the machine's tick, as the definition has it
pub record Follows (o : Order) (b : Build) (script : List Release) (p : ℕ) (m : Machine) : Type 0 where
  pub sized : length m.oldest ≡ most_tasks
  pub heads : (k : ℕ) → k < o.tasks → home_of b k ≡ p → Heads script m.tick k (oldest_of b m k)
  pub line : (k : ℕ) → k < o.tasks → home_of b k ≡ p
      → JobsInLine script k (oldest_of b m k) ((box_before o b (pattern_of script) m.tick p).waiting k) m.tick
  pub marks : Marks o b script p (oldest_of b m) m.tick m.waiting
  pub runs_so : ShowsRunning script m (box_before o b (pattern_of script) m.tick p).running

-- from one machine to the next at most the job that then runs has started
abbrev pub StartsOne : Order → Build → List Release → (p : ℕ) → (m then : Machine) → Type 0
StartsOne o b script p m then = (k i : ℕ) → k < o.tasks → home_of b k ≡ p → i < length script → record_task script i ≡ k → i < oldest_of b then k
    → (i < oldest_of b m k) ⊎ (i ≡ then.job)

-- the ranks are those of partition p's members that have a record which joins from one tick on and before another
pub record ReleasedIn (b : Build) (script : List Release) (p from until ranks : ℕ) : Type 0 where
  pub all : (i : ℕ) → i < length script → home_of b (record_task script i) ≡ p → from ≤ record_joins script i → record_joins script i < until
      → rank_bit ranks (rank_of b (record_task script i)) ≡ 1
  pub only : (r : ℕ) → rank_bit ranks r ≡ 1
      → (i : ℕ) × (i < length script) × (home_of b (record_task script i) ≡ p) × (from ≤ record_joins script i) × (record_joins script i < until) × (rank_of b (record_task script i) ≡ r)

-- an order's tasks with their ranks in a build, and a legal script for them
pub record LegalRun (o : Order) (b : Build) (script : List Release) : Type 0 where
  pub few : o.tasks ≤ most_tasks
  pub ranked : (k : ℕ) → k < o.tasks → rank_of b k ≡ rank o (members_of b (home_of b k)) k
  pub legal : LegalScript o script
  pub few_records : length script ≤ most_records

-- the arrays stand for a script, each record with the next of its task
pub record Chained (script : List Release) (keys durations next : List ℕ) : Type 0 where
  pub held : Held script keys durations
  pub places : length next ≡ most_records
  pub next_at : (i : ℕ) → i < length script → NextOf (λ k. k) script (record_task script i) (suc i) (get_or next i 0)

-- so far the machine follows the definition, and these are the releases of its tick
pub record Ready (m : Machine) (releases : ℕ) (keys durations next : List ℕ) : Type 0 where
  pub order : Order
  pub build : Build
  pub script : List Release
  pub partition : ℕ
  pub legal_run : LegalRun order build script
  pub laid : Chained script keys durations next
  pub follows : Follows order build script partition m
  pub due : ReleasedIn build script partition m.tick (suc m.tick) releases
  pub soon : m.tick < 4_294_967_295
