-- What holds of the step machine, for every order, every build and every pattern, legal or not; proved in proofs/.
use Rattle.std.specs.Prelude.{ℕ, suc, ◌+◌, ◌-◌, ◌≤◌, ◌<◌, ◌≡◌, true, List, length}
use Rattle.std.proofs.Math.Option.{some}
use Rattle.model.specs.declared.order.Order.{Order}
use Rattle.model.specs.declared.build.Build.{Build}
use Rattle.model.specs.declared.build.Release.{Release}
use Rattle.model.specs.Limits.{task_of, place_of, home_of}
use Rattle.model.specs.Processors.{volume_of, processor_of, OfPartition}
use Rattle.demand.specs.Priority.{Members, members_of}
use Rattle.machine.specs.Step.{Pattern, Running, free, runs, State, ended, lowered, step, state_before}
use Rattle.machine.specs.Pattern.{LegalPattern, LegalScript, record_of, joins_at, pattern_of}
use Rattle.machine.specs.Box.{records_of, box_before, Finishes, RunsAt, Occupies, Serves}

-- a job finishes at one tick at most
abbrev pub FinishesOnce : Type 0
FinishesOnce = (o : Order) (b : Build) (releases : Pattern) (task release f g : ℕ)
    → Finishes o b releases task release f → Finishes o b releases task release g → f ≡ g

-- "a job whose time is used up ends, with finish tick t": its partition is free then
abbrev pub FreeAtFinish : Type 0
FreeAtFinish = (o : Order) (b : Build) (releases : Pattern) (task release finish : ℕ)
    → Finishes o b releases task release finish → ended (box_before o b releases finish (home_of b task)).running ≡ free

-- two patterns agree on some members
abbrev pub AgreeOn : Members → Pattern → Pattern → Type 0
AgreeOn member one other = (tick task : ℕ) → member task ≡ true → one tick task ≡ other tick task

-- a tick takes each partition on by its own step, whatever the other partitions hold and whatever is released to them
pub record StepsApart (o : Order) (b : Build) (p : ℕ) : Type 0 where
  pub own_step : (releases : Pattern) (tick : ℕ) → box_before o b releases (suc tick) p ≡ step o (members_of b p) releases tick (box_before o b releases tick p)
  pub own_releases : (one other : Pattern) (tick : ℕ) → ((task : ℕ) → home_of b task ≡ p → one tick task ≡ other tick task) → (before : State)
      → step o (members_of b p) one tick before ≡ step o (members_of b p) other tick before

abbrev pub EachStepsApart : Type 0
EachStepsApart = (o : Order) (b : Build) (p : ℕ) → StepsApart o b p

-- "Two accepted runs .. whose records for one partition's tasks agree give those records equal finish ticks, whatever else is released."
abbrev pub Isolation : Type 0
Isolation = (o : Order) (b : Build) (one other : Pattern) (task release finish : ℕ)
    → AgreeOn (members_of b (home_of b task)) one other → Finishes o b one task release finish → Finishes o b other task release finish

-- the same of two scripts
abbrev pub ScriptIsolation : Type 0
ScriptIsolation = (o : Order) (b : Build) (one other : List Release) (task release finish : ℕ)
    → records_of b (home_of b task) one ≡ records_of b (home_of b task) other
    → Finishes o b (pattern_of one) task release finish → Finishes o b (pattern_of other) task release finish

-- what runs has at least so many ticks left
unfoldable pub Lasts : ℕ → Running → Type 0
Lasts ticks free = Unit {0}
Lasts ticks (runs task release left) = ticks ≤ left

-- a state so many ticks on, in which nothing joined, ended or started: only the time left falls
abbrev pub quietly : ℕ → State → State
quietly ticks state = record { waiting = state.waiting; running = lowered ticks state.running; last = state.last }

-- while for so many ticks nothing is released to the members and nothing ends, nothing can start
abbrev pub QuietTicks : Type 0
QuietTicks = (o : Order) (member : Members) (releases : Pattern) (tick ticks : ℕ)
    → ((later task : ℕ) → tick ≤ later → later < tick + ticks → member task ≡ true → releases later task ≡ 0)
    → Lasts ticks (state_before o member releases tick).running
    → state_before o member releases (tick + ticks) ≡ quietly ticks (state_before o member releases tick)

-- "It runs unbroken": what runs at a tick runs on until its time is used up, whatever is released
abbrev pub RunsUnbroken : Type 0
RunsUnbroken = (o : Order) (member : Members) (releases : Pattern) (tick ticks task release left : ℕ)
    → (state_before o member releases tick).running ≡ runs task release left → ticks ≤ left
    → (state_before o member releases (tick + ticks)).running ≡ runs task release (left - ticks)

-- what runs was started last
abbrev pub RanLast : Type 0
RanLast = (o : Order) (member : Members) (releases : Pattern) (tick task release left : ℕ)
    → (state_before o member releases tick).running ≡ runs task release left → (state_before o member releases tick).last ≡ some task

-- a legal script is a legal pattern, and its records are that pattern's jobs
pub record ScriptAsPattern (o : Order) (script : List Release) : Type 0 where
  pub legal : LegalPattern o (pattern_of script)
  pub records : (i : ℕ) → i < length script → pattern_of script (joins_at (record_of script i)) (record_of script i).task ≡ (record_of script i).duration
  pub no_others : (tick task : ℕ) → 0 < pattern_of script tick task
      → (i : ℕ) × (i < length script) × (joins_at (record_of script i) ≡ tick) × ((record_of script i).task ≡ task)

abbrev pub LegalScriptIsLegal : Type 0
LegalScriptIsLegal = (o : Order) (script : List Release) → LegalScript o script → ScriptAsPattern o script

-- a job that runs is one of the partition's own tasks' and of the n tasks', and it was released, by then
pub record OwnJob (o : Order) (b : Build) (releases : Pattern) (p tick task release : ℕ) : Type 0 where
  pub its_partition : home_of b task ≡ p
  pub known : task < o.tasks
  pub was_released : 0 < releases release task
  pub by_then : release ≤ tick

abbrev pub RunsOwnJobs : Type 0
RunsOwnJobs = (o : Order) (b : Build) (releases : Pattern) (tick task release : ℕ)
    → (r : RunsAt o b releases tick task release) → OwnJob o b releases r.partition tick task release

-- partitions that tasks are in are wide enough for them and share no processor
pub record WideAndApart (o : Order) (b : Build) : Type 0 where
  pub wide : (task : ℕ) → task < o.tasks → (task_of o task).width ≤ volume_of (place_of b (home_of b task))
  pub apart : (one other x : ℕ) → one < o.tasks → other < o.tasks → OfPartition (place_of b (home_of b one)) x
      → OfPartition (place_of b (home_of b other)) x → home_of b one ≡ home_of b other

-- then no processor serves two jobs
abbrev pub ServesOne : Type 0
ServesOne = (o : Order) (b : Build) → WideAndApart o b → (releases : Pattern) (tick x task release task' release' : ℕ)
    → Serves o b releases tick x task release → Serves o b releases tick x task' release' → (task ≡ task') × (release ≡ release')

-- a job occupies processors of its own partition
abbrev pub OccupiesOwn : Type 0
OccupiesOwn = (o : Order) (b : Build) → WideAndApart o b
    → (task x : ℕ) → task < o.tasks → Occupies o b task x → OfPartition (place_of b (home_of b task)) x

-- as many different ones as its width
abbrev pub OccupiesWidth : Type 0
OccupiesWidth = (o : Order) (b : Build) (task k : ℕ) → k < (task_of o task).width
    → Occupies o b task (processor_of (place_of b (home_of b task)) k)
    × ((l : ℕ) → l < volume_of (place_of b (home_of b task)) → processor_of (place_of b (home_of b task)) k ≡ processor_of (place_of b (home_of b task)) l → k ≡ l)
