-- What the run needs to know, and what it writes.
use Rattle.std.specs.Prelude.{ℕ, ◌+◌, ◌/◌, ◌≤◌, ◌<◌, ◌≡◌, Bool, ◌||◌, List, ltb, length, get_or, set}
use Rattle.laws.specs.Choice.{pick}
use Rattle.model.specs.declared.order.Order.{Order}
use Rattle.model.specs.declared.build.Build.{Build}
use Rattle.model.specs.declared.build.Release.{Release}
use Rattle.model.specs.Limits.{most_tasks, most_partitions, most_records, home_of}
use Rattle.demand.specs.Priority.{members_of, rank}
use Rattle.machine.specs.Pattern.{LegalScript}
use Rattle.script.specs.Held.{Held}
use Rattle.finish.specs.Finish.{finish_of}
use Rattle.finish.specs.Claims.{Short, latest}
use Rattle.stepper.specs.declared.Machine.{Machine}
use Rattle.stepper.specs.Lines.{record_task}
use Rattle.stepper.specs.Follow.{rank_of, oldest_of, Follows, StartsOne}
use Rattle.course.specs.Ahead.{Ahead, RunArrays}

-- a job runs, or a record is still to join
unfoldable pub goes_on : Machine → Bool
goes_on m = ltb m.job most_records || ltb m.ahead most_records

-- the tick at which what runs ends; in a free partition, at which the next record joins
unfoldable pub event_of : Machine → List ℕ → ℕ
event_of m keys = pick (ltb m.job most_records) (m.tick + m.left) (get_or keys m.ahead 0 / 32)

-- with the finish tick of what runs
unfoldable pub noted : Machine → List ℕ → List ℕ
noted m out = pick (ltb m.job most_records) (set out m.job (m.tick + m.left)) out

-- so far the machine follows the definition, and what is ahead of it is known
pub record Courses (o : Order) (b : Build) (script : List Release) (p : ℕ) (m : Machine) : Type 0 where
  pub follows : Follows o b script p m
  pub ahead : Ahead b script p m.tick m.ahead
  pub soon : m.tick ≤ latest + 1

-- a machine in its course, with the arrays that it reads
pub record Turns (m : Machine) (keys durations ranks next after : List ℕ) : Type 0 where
  pub order : Order
  pub build : Build
  pub script : List Release
  pub partition : ℕ
  pub lined : RunArrays order build script keys durations ranks next after
  pub short : Short script
  pub so_far : Courses order build script partition m

-- on to a later tick
pub record Turned (o : Order) (b : Build) (script : List Release) (p : ℕ) (m then : Machine) : Type 0 where
  pub so_far : Courses o b script p then
  pub starts : StartsOne o b script p m then
  pub later : m.tick < then.tick

-- a partition's machine before its first tick, with a place for each finish tick
pub record Begins (m : Machine) (keys durations ranks next after : List ℕ) (places : ℕ) : Type 0 where
  pub turns : Turns m keys durations ranks next after
  pub none_started : (i : ℕ) → i < length turns.script → home_of turns.build (record_task turns.script i) ≡ turns.partition
      → i < oldest_of turns.build m (record_task turns.script i) → ⊥
  pub room : length turns.script ≤ places

-- the finish ticks of partition p's records are written, and nothing else is changed
pub record FinishesNoted (o : Order) (b : Build) (script : List Release) (p : ℕ) (out then : List ℕ) : Type 0 where
  pub places : length then ≡ length out
  pub own : (i : ℕ) → i < length script → home_of b (record_task script i) ≡ p → get_or then i 0 ≡ finish_of o b script i
  pub others : (i : ℕ) → (i < length script → home_of b (record_task script i) ≡ p → ⊥) → get_or then i 0 ≡ get_or out i 0

-- an accepted order and build, and a legal script of so many records with its numbers and a place for each finish tick
pub record Runnable (o : Order) (b : Build) (records : ℕ) (keys durations : List ℕ) (places : ℕ) : Type 0 where
  pub script : List Release
  pub few : o.tasks ≤ most_tasks
  pub few_partitions : b.partitions ≤ most_partitions
  pub homes : (k : ℕ) → k < o.tasks → home_of b k < b.partitions
  pub ranked : (k : ℕ) → k < o.tasks → rank_of b k ≡ rank o (members_of b (home_of b k)) k
  pub legal : LegalScript o script
  pub short : Short script
  pub held : Held script keys durations
  pub count : records ≡ length script
  pub room : length script ≤ places
