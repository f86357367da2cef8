-- A partition's records in the order in which they join, and what is gathered from them.
use Rattle.std.specs.Prelude.{ℕ, zero, suc, ◌%◌, ◌≤◌, ◌<◌, ◌≡◌, List, eqb, length, get_or, set, replicate}
use Rattle.laws.specs.Choice.{pick}
use Rattle.model.specs.declared.order.Order.{Order}
use Rattle.model.specs.declared.build.Build.{Build}
use Rattle.model.specs.declared.build.Release.{Release}
use Rattle.model.specs.Limits.{most_tasks, most_records, home_of}
use Rattle.stepper.specs.Lines.{record_task, record_joins, NextOf}
use Rattle.stepper.specs.Follow.{rank_of, LegalRun, ReleasedIn, Chained}
use Rattle.course.specs.declared.turns.Gathered.{Gathered}

-- record a is partition p's first that joins at a tick or later, or most_records if there is none
pub record Ahead (b : Build) (script : List Release) (p tick a : ℕ) : Type 0 where
  pub upto : a ≤ most_records
  pub there : a < most_records → a < length script
  pub own : a < most_records → home_of b (record_task script a) ≡ p
  pub late : a < most_records → tick ≤ record_joins script a
  pub before : (i : ℕ) → i < a → i < length script → home_of b (record_task script i) ≡ p → record_joins script i < tick

-- a script's keys, with the group of each record's task
pub record Grouped (records : ℕ) (keys groups : List ℕ) : Type 0 where
  pub script : List Release
  pub group : ℕ → ℕ
  pub count : records ≡ length script
  pub few : length script ≤ most_records
  pub key_places : length keys ≡ most_records
  pub group_places : length groups ≡ most_tasks
  pub key_task : (i : ℕ) → i < length script → get_or keys i 0 % 32 ≡ record_task script i
  pub known : (i : ℕ) → i < length script → record_task script i < most_tasks
  pub group_at : (i : ℕ) → i < length script → get_or groups (record_task script i) 0 ≡ group (record_task script i)
  pub within : (i : ℕ) → i < length script → group (record_task script i) < most_tasks

-- each group's first record, and each record's next of its group
pub record LinedUp (group : ℕ → ℕ) (script : List Release) (first next : List ℕ) : Type 0 where
  pub first_places : length first ≡ most_tasks
  pub places : length next ≡ most_records
  pub first_at : (g : ℕ) → g < most_tasks → NextOf group script g 0 (get_or first g 0)
  pub next_at : (i : ℕ) → i < length script → NextOf group script (group (record_task script i)) (suc i) (get_or next i 0)

-- the arrays stand for an order, a build and a legal script: each task's rank, each record's next of its task and of its partition
pub record RunArrays (o : Order) (b : Build) (script : List Release) (keys durations ranks next after : List ℕ) : Type 0 where
  pub legal_run : LegalRun o b script
  pub laid : Chained script keys durations next
  pub rank_places : length ranks ≡ most_tasks
  pub rank_at : (k : ℕ) → k < o.tasks → get_or ranks k 0 ≡ rank_of b k
  pub after_places : length after ≡ most_records
  pub after_at : (i : ℕ) → i < length script → NextOf (home_of b) script (home_of b (record_task script i)) (suc i) (get_or after i 0)

-- each task's first record, its partition and its rank
pub record HeadsFrom (first homes ranks : List ℕ) (tasks : ℕ) : Type 0 where
  pub few : tasks ≤ most_tasks
  pub first_places : length first ≡ most_tasks
  pub home_places : length homes ≡ most_tasks
  pub rank_places : length ranks ≡ most_tasks
  pub rank_few : (k : ℕ) → k < tasks → get_or ranks k 0 < most_tasks

-- by rank, the first record of each task below k that is in partition p
unfoldable pub heads_of : (first homes ranks : List ℕ) → (p k : ℕ) → List ℕ
heads_of first homes ranks p zero = replicate most_tasks 0
heads_of first homes ranks p (suc k) = pick (eqb (get_or homes k 0) p) (set (heads_of first homes ranks p k) (get_or ranks k 0) (get_or first k 0)) (heads_of first homes ranks p k)

-- from a partition's first record that joins at a tick or later, up to another tick
pub record Gathers (keys ranks after : List ℕ) (from until : ℕ) : Type 0 where
  pub order : Order
  pub build : Build
  pub script : List Release
  pub partition : ℕ
  pub tick : ℕ
  pub durations : List ℕ
  pub next : List ℕ
  pub lined : RunArrays order build script keys durations ranks next after
  pub ahead : Ahead build script partition tick from
  pub on : tick ≤ until

-- what was gathered joins in between, and what is ahead joins later
pub record GatheredSo (b : Build) (script : List Release) (p tick until : ℕ) (r : Gathered) : Type 0 where
  pub due : ReleasedIn b script p tick until r.ranks
  pub rest : Ahead b script p until r.ahead
