-- What is known of the placed tasks while first fit goes on. Inner definitions; those of the document stand in fitting.
use Rattle.std.specs.Prelude.{ℕ, ◌+◌, ◌≤◌, ◌<◌, ◌≡◌, true, false, not, List, length, get_or, set, replicate, Some, None, Option, Ok, Err, Result}
use Rattle.laws.specs.Joined.{overlaid}
use Rattle.model.specs.declared.order.Order.{Order}
use Rattle.model.specs.Limits.{most_tasks, task_of}
use Rattle.model.specs.Rules.{WithinLimits}
use Rattle.search.specs.Smallest.{first_of}
use Rattle.demand.specs.Priority.{Members, deadline_of}
use Rattle.demand.specs.Releases.{work_by}
use Rattle.demand.specs.Test.{blocking, higher_work, verdict}
use Rattle.asked.specs.Met.{UnmetBelow}
use Rattle.asked.specs.declared.rows.Rows.{Rows}
use Rattle.roster.specs.Keys.{key_of, with_key}
use Rattle.roster.specs.Rows.{RowsByNumber}
use Rattle.roster.specs.Lined.{Lined, PartFrom, part_size}
use Rattle.turns.specs.Turns.{Homes, unplaced, home_at, is_unplaced}
use Rattle.fitting.specs.Steps.{living_in, accepts}
use Rattle.trial.specs.Known.{no_results}
use Rattle.trial.specs.declared.Results.{Results}
use Rattle.placing.specs.declared.TaskLine.{TaskLine}

-- no window of member i closes before a tick
abbrev pub OpenUntil : Order → Members → (i last : ℕ) → Type 0
OpenUntil o member i last = UnmetBelow (λ w. higher_work o member i w + work_by (task_of o i) w) (blocking o member i) last

-- of each placed task a tick before which its window does not close, and its worst response; of a waiting one no tick
pub record Known (o : Order) (homes : Homes) (results : Results ℕ) : Type 0 where
  pub last_places : length results.lasts ≡ most_tasks
  pub worst_places : length results.worsts ≡ most_tasks
  pub homes_there : (j : ℕ) → j < o.tasks → is_unplaced homes j ≡ false → home_at homes j ≡ unplaced → ⊥
  pub waiting : (j : ℕ) → j < o.tasks → is_unplaced homes j ≡ true → get_or results.lasts j 0 ≡ 0
  pub near : (j : ℕ) → j < o.tasks → get_or results.lasts j 0 ≤ 2_000_000
  pub unclosed : (j : ℕ) → j < o.tasks → is_unplaced homes j ≡ false → OpenUntil o (living_in homes (home_at homes j)) j (get_or results.lasts j 0)
  pub passing : (j : ℕ) → j < o.tasks → is_unplaced homes j ≡ false → verdict o (living_in homes (home_at homes j)) j ≡ Ok (get_or results.worsts j 0)

-- the placed tasks stand in line
abbrev pub InLine : Order → (homes : Homes) (keys : List ℕ) → (placed : ℕ) → Type 0
InLine o homes keys placed = Lined o (λ j. not (is_unplaced homes j)) (home_at homes) keys placed

-- nobody is placed
abbrev pub no_line : TaskLine
no_line = record { keys = replicate most_tasks 0; placed = 0; results = no_results 0 }

-- one more in line, by its key
abbrev pub seated : TaskLine → (key : ℕ) → TaskLine
seated line key = record { keys = overlaid (with_key key line.keys line.placed) (line.placed + 1) line.keys; placed = line.placed + 1; results = line.results }

-- a waiting task is to be tried
pub record Trying (table : Rows) (line : TaskLine) (task : ℕ) : Type 0 where
  pub order : Order
  pub limits : WithinLimits order
  pub homes : Homes
  pub places : length homes ≡ most_tasks
  pub rows : RowsByNumber order order.tasks table
  pub known_task : task < order.tasks
  pub waits : is_unplaced homes task ≡ true
  pub room : line.placed < most_tasks
  pub in_line : InLine order homes line.keys line.placed
  pub known : Known order homes line.results

-- in partition k, by its key there, beside the members from a place of the line on
pub record TryingIn (table : Rows) (line : TaskLine) (first key : ℕ) : Type 0 where
  pub task : ℕ
  pub partition : ℕ
  pub few : partition < 32
  pub trying : Trying table line task
  pub key_is : key ≡ key_of partition (deadline_of trying.order task) task
  pub members : PartFrom line.keys line.placed first partition

-- what comes of it: the line stands as it did, and where the task is not taken nothing has changed
pub record TriedIn (table : Rows) (line : TaskLine) (first key : ℕ) (so : TryingIn table line first key) (r : Result (Unit {0}) ℕ) (after : TaskLine) : Type 0 where
  pub same_line : (after.keys ≡ line.keys) × (after.placed ≡ line.placed)
  pub takes : r ≡ Ok tt → accepts so.trying.order so.trying.homes so.task so.partition ≡ true
  pub taken : r ≡ Ok tt → Known so.trying.order (set so.trying.homes so.task (Some so.partition)) after.results
  pub refuses : (size : ℕ) → r ≡ Err size → accepts so.trying.order so.trying.homes so.task so.partition ≡ false
  pub refused : (size : ℕ) → r ≡ Err size → after ≡ line
  pub members : (size : ℕ) → r ≡ Err size → size ≡ part_size line.keys line.placed first so.partition

-- what comes of it where all opened partitions are tried in turn
pub record Lowest (table : Rows) (line : TaskLine) (task : ℕ) (so : Trying table line task) (opened : ℕ) (r : Option ℕ) (after : TaskLine) : Type 0 where
  pub answer : r ≡ first_of (accepts so.order so.homes task) 0 opened
  pub same_line : (after.keys ≡ line.keys) × (after.placed ≡ line.placed)
  pub taken : (k : ℕ) → r ≡ Some k → Known so.order (set so.homes task (Some k)) after.results
  pub refused : r ≡ None → after ≡ line
