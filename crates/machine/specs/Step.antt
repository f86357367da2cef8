-- The step machine of one partition, in the order and the words of document 01, "The step machine".
use Rattle.std.specs.Prelude.{ℕ, zero, suc, ◌-◌, ◌≡◌, List, [], ◌∷◌, ◌++◌, eqb}
use Rattle.std.proofs.Math.Option.{Option, none, some}
use Rattle.laws.specs.Choice.{pick}
use Rattle.laws.specs.Sums.{only}
use Rattle.model.specs.declared.order.Order.{Order}
use Rattle.demand.specs.Priority.{Members, outranks}

-- the length of the job that a task releases at a tick, 0 for none: any such function, so it may go on for ever
abbrev pub Pattern : Type 0
Pattern = (tick task : ℕ) → ℕ

-- a released job that has not started: when it was released, and its length
pub record Job : Type 0 where
  pub release : ℕ
  pub duration : ℕ

abbrev pub job : ℕ → ℕ → Job
job release duration = record { release = release; duration = duration }

-- the jobs of each task that wait, oldest first
abbrev pub Waiting : Type 0
Waiting = (task : ℕ) → List Job

-- "Each partition has at most one running job": its task, its release tick and its time left
pub data Running : Type 0 where
  free : Running
  runs : (task release left : ℕ) → Running

-- what a partition holds before a tick: what waits, what runs, and the task of the last job started
pub record State : Type 0 where
  pub waiting : Waiting
  pub running : Running
  pub last : Option ℕ

-- nothing waits or runs, and no job has started
abbrev pub idle : State
idle = record { waiting = λ task. []; running = free; last = none }

-- "a job whose time is used up ends"
unfoldable pub ended : Running → Running
ended free = free
ended (runs task release zero) = free
ended (runs task release (suc left)) = runs task release (suc left)

unfoldable pub released : (tick duration : ℕ) → List Job
released tick zero = []
released tick (suc duration) = job tick (suc duration) ∷ []

-- "all releases of tick t join"
unfoldable pub joining : Pattern → ℕ → Waiting → Waiting
joining releases tick waiting task = waiting task ++ released tick (releases tick task)

unfoldable pub replaced : Waiting → ℕ → List Job → Waiting
replaced waiting changed jobs task = pick (eqb task changed) jobs (waiting task)

-- the tick is over: what runs has one tick less to run
unfoldable pub passed : Running → Running
passed free = free
passed (runs task release left) = runs task release (left - 1)

-- what runs, with so many ticks less left
unfoldable pub lowered : ℕ → Running → Running
lowered ticks free = free
lowered ticks (runs task release left) = runs task release (left - ticks)

-- how long a job of a task occupies the partition, where the last job started there was of that task: "It runs unbroken for its own length"
unfoldable pub occupancy : Order → (task : ℕ) → (last : Option ℕ) → Job → ℕ
occupancy o task last j = j.duration

-- the scheduler of one partition of an order's tasks: "uniprocessor, non-preemptive, fixed-priority"
module _ (o : Order) where
  -- of the chosen task and a further one, the one that has jobs waiting and outranks the other
  unfoldable pub better : ℕ → List Job → Option ℕ → Option ℕ
  better task [] chosen = chosen
  better task (oldest ∷ younger) none = some task
  better task (oldest ∷ younger) (some chosen) = some (pick (outranks o task chosen) task chosen)

  -- "the highest-priority waiting job": its task, among those below n
  unfoldable pub highest : Waiting → (n : ℕ) → Option ℕ
  highest waiting zero = none
  highest waiting (suc task) = better task (waiting task) (highest waiting task)

  -- "the oldest first within a task"
  unfoldable pub oldest_starts : Waiting → Option ℕ → ℕ → List Job → State
  oldest_starts waiting last task [] = record { waiting = waiting; running = free; last = last }
  oldest_starts waiting last task (oldest ∷ younger) =
      record { waiting = replaced waiting task younger; running = runs task oldest.release (occupancy o task last oldest); last = some task }

  unfoldable pub starts : Waiting → (last chosen : Option ℕ) → State
  starts waiting last none = record { waiting = waiting; running = free; last = last }
  starts waiting last (some task) = oldest_starts waiting last task (waiting task)

  -- "if the partition is free, the highest-priority waiting job starts"
  unfoldable pub starts_if_free : Waiting → Option ℕ → Running → State
  starts_if_free waiting last (runs task release left) = record { waiting = waiting; running = runs task release left; last = last }
  starts_if_free waiting last free = starts waiting last (highest waiting o.tasks)

  module _ (member : Members) where
    -- what the members release
    unfoldable pub of_members : Pattern → Pattern
    of_members releases tick task = only (member task) (releases tick task)

    -- "At tick t, in this order": it ends, they join, one starts. This is what the partition holds while the tick lasts.
    unfoldable pub during_tick : Pattern → ℕ → State → State
    during_tick releases tick before = starts_if_free (joining (of_members releases) tick before.waiting) before.last (ended before.running)

    -- "Each tick takes the machine's state to the next state."
    unfoldable pub step : Pattern → ℕ → State → State
    step releases tick before =
        let during = during_tick releases tick before in
        record { waiting = during.waiting; running = passed during.running; last = during.last }

    -- the state before a tick; nothing waits or runs before tick 0
    unfoldable pub state_before : Pattern → ℕ → State
    state_before releases zero = idle
    state_before releases (suc tick) = step releases tick (state_before releases tick)

    -- "a job whose time is used up ends, with finish tick t": the job of a task that was released at a tick ends at this one
    abbrev pub Ends : Pattern → (task release finish : ℕ) → Type 0
    Ends releases task release finish = (state_before releases finish).running ≡ runs task release 0
