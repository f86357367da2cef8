-- What the search for the late script's numbers gives. Inner definitions; the pattern and the first late job are `critical`'s.
use Rattle.std.specs.Prelude.{ℕ, ◌+◌, ◌*◌, ◌≤◌, ◌<◌, ◌≡◌, Bool, true, false, ◌&&◌, List, ltb, eqb, length, get_or, Err, Option, Some, None}
use Rattle.laws.specs.Choice.{pick}
use Rattle.laws.specs.Sums.{only, sum, largest}
use Rattle.model.specs.declared.order.Task.{Task}
use Rattle.model.specs.declared.order.Order.{Order}
use Rattle.model.specs.declared.build.Build.{Build}
use Rattle.model.specs.Limits.{most_tasks, home_of, cost}
use Rattle.model.specs.Rules.{WithinLimits}
use Rattle.demand.specs.declared.Failing.TheVariants.{TooLate}
use Rattle.demand.specs.Priority.{Members, members_of, deadline_of}
use Rattle.demand.specs.Test.{verdict}
use Rattle.demand.specs.Meaning.{FirstMetAt}
use Rattle.demand.specs.Over.{start_over, window_over, job_base}
use Rattle.asked.specs.Rows.{cost_at}
use Rattle.roster.specs.Keys.{key_of, home_in, key_at}
use Rattle.inspect_members.specs.Line.{HomesFew}
use Rattle.comings_out.specs.declared.Coming.{Coming}
use Rattle.comings.specs.Comings.{coming_pattern}
use Rattle.comings_out.specs.Times.{coming_of, comings_in, TimesFit}
use Rattle.critical.specs.Pattern.{critical_pattern}
use Rattle.critical.specs.Late.{late_job, late_start}
use Rattle.late_find.specs.declared.Longest.{Longest}
use Rattle.late_find.specs.declared.Late.{Late}
use Rattle.asked.specs.declared.rows.Rows.{Rows}

-- each of the first so many tasks has its key at its number
pub record KeysByNumber (o : Order) (b : Build) (tasks : ℕ) (keys : List ℕ) : Type 0 where
  pub places : length keys ≡ most_tasks
  pub each : (j : ℕ) → j < tasks → key_at keys j ≡ key_of (home_of b j) (deadline_of o j) j

-- by their keys the one task is a higher member of the other's partition
abbrev pub above : (one other : ℕ) → Bool
above one other = pick (eqb (home_in one) (home_in other)) (ltb one other) false

-- the cost of the longest, 0 if there is none, and its number as the blocker
abbrev pub longest_cost : Option Longest → ℕ
longest_cost (Some longest) = longest.cost
longest_cost None = 0

abbrev pub blocker_of : Option Longest → Option ℕ
blocker_of (Some longest) = Some longest.number
blocker_of None = None

-- over the cost of the longest so far, or the first
abbrev pub is_longer : (cost : ℕ) → Option Longest → Bool
is_longer cost (Some longest) = ltb longest.cost cost
is_longer cost None = true

-- the largest cost among the members below the named one, and the lowest number of a task that has it
pub record LongestBelow (table : Rows) (keys : List ℕ) (tasks named : ℕ) (r : Option Longest) : Type 0 where
  pub cost_is : longest_cost r ≡ largest (λ j. only (above (key_at keys named) (key_at keys j)) (cost_at table j)) tasks
  pub its_cost : (longest : Longest) → r ≡ Some longest
      → (longest.number < tasks) × (above (key_at keys named) (key_at keys longest.number) ≡ true) × (cost_at table longest.number ≡ longest.cost)
  pub lowest : (longest : Longest) → r ≡ Some longest → (j : ℕ) → j < longest.number → above (key_at keys named) (key_at keys j) ≡ true → cost_at table j < longest.cost
  pub none : r ≡ None → (j : ℕ) → j < tasks → above (key_at keys named) (key_at keys j) ≡ false

-- the numbers of the members above the named one, each once
pub record HigherNumbers (keys : List ℕ) (tasks named : ℕ) (numbers : List ℕ) (count : ℕ) : Type 0 where
  pub places : length numbers ≡ most_tasks
  pub few : count ≤ tasks
  pub within : (r : ℕ) → r < count → get_or numbers r 0 < tasks
  pub sums : (f : ℕ → ℕ) → sum (λ r. f (get_or numbers r 0)) count ≡ sum (λ j. only (above (key_at keys j) (key_at keys named)) (f j)) tasks

-- there is a start, and it is no earlier than this tick
pub record StartsFrom (work : ℕ → ℕ) (base from : ℕ) : Type 0 where
  pub start : ℕ
  pub starts : FirstMetAt (start_over work base) 0 start
  pub not_before : from ≤ start

module _ (work : ℕ → ℕ) (blocking : ℕ) (task : Task) where
  -- job q starts at w
  abbrev pub JobStarts : (q w : ℕ) → Type 0
  JobStarts q w = FirstMetAt (start_over work (job_base work blocking task q)) 0 w

  -- a window, all its starts, and one from which the job ends past its deadline
  pub record LateOver : Type 0 where
    pub size : ℕ
    pub window : FirstMetAt (window_over work blocking task) 1 size
    pub each : (q : ℕ) → q * task.period < size → (w : ℕ) × JobStarts q w
    pub late : (q : ℕ) × (q * task.period < size) × ((w : ℕ) × (JobStarts q w) × (q * task.period + task.deadline < w + cost task))

  -- job q is the first of them
  pub record FirstLateOver (q w : ℕ) : Type 0 where
    pub starts : JobStarts q w
    pub late : q * task.period + task.deadline < w + cost task
    pub earlier : (p : ℕ) → p < q → (v : ℕ) × (JobStarts p v) × (v + cost task ≤ p * task.period + task.deadline)

-- whether a task is the blocker
abbrev pub is_blocker : Option ℕ → (task : ℕ) → Bool
is_blocker (Some blocker) task = eqb task blocker
is_blocker None task = false

-- when a task comes, if it does
abbrev pub coming_by : (keys : List ℕ) → Late → (task : ℕ) → Option Coming
coming_by keys late task =
    pick (eqb task late.named) (Some (record { first = late.begin; last = late.last }))
    (pick (above (key_at keys task) (key_at keys late.named)) (Some (record { first = late.begin; last = late.start }))
    (pick (is_blocker late.blocker task && ltb 0 late.begin) (Some (record { first = 0; last = 0 })) None))

pub record TimedBy (keys : List ℕ) (tasks : ℕ) (late : Late) (times : List (Option Coming)) : Type 0 where
  pub places : length times ≡ most_tasks
  pub each : (j : ℕ) → j < tasks → coming_of times j ≡ coming_by keys late j

-- the members of a task's partition
abbrev pub besides : Build → ℕ → Members
besides b i = members_of b (home_of b i)

-- the test says that a task is late
pub record NamedLate (o : Order) (b : Build) (i : ℕ) : Type 0 where
  pub limits : WithinLimits o
  pub homes : HomesFew o b
  pub known : i < o.tasks
  pub late : verdict o (besides b i) i ≡ Err TooLate

-- the times are those of the pattern that shows it
pub record LateTimes (o : Order) (b : Build) (i : ℕ) (times : List (Option Coming)) : Type 0 where
  pub fit : TimesFit o times
  pub are : (tick task : ℕ) → coming_pattern o (comings_in times) tick task
      ≡ critical_pattern o (besides b i) i (late_job o (besides b i) i) (late_start o (besides b i) i) tick task
