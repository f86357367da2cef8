-- The box that an order and a build make: each partition has a step machine of its own.
use Rattle.std.specs.Prelude.{ℕ, ◌≡◌, List, [], ◌∷◌}
use Rattle.laws.specs.Choice.{pick}
use Rattle.model.specs.declared.order.Order.{Order}
use Rattle.model.specs.declared.build.Build.{Build}
use Rattle.model.specs.declared.build.Release.{Release}
use Rattle.model.specs.Limits.{task_of, place_of, home_of}
use Rattle.model.specs.Processors.{AmongLowest}
use Rattle.demand.specs.Priority.{members_of}
use Rattle.machine.specs.Step.{Pattern, runs, State, during_tick, state_before, Ends}

-- a script's "records for one partition's tasks"
unfoldable pub records_of : Build → (p : ℕ) → List Release → List Release
records_of b p [] = []
records_of b p (r ∷ script) = pick (members_of b p r.task) (r ∷ records_of b p script) (records_of b p script)

module _ (o : Order) (b : Build) (releases : Pattern) where
  -- partition p before a tick
  abbrev pub box_before : (tick p : ℕ) → State
  box_before tick p = state_before o (members_of b p) releases tick

  -- partition p while a tick lasts: a job has ended, releases have joined, a job has started
  abbrev pub box_during : (tick p : ℕ) → State
  box_during tick p = during_tick o (members_of b p) releases tick (box_before tick p)

  -- the finish tick of the job that a task released at a tick
  unfoldable pub Finishes : (task release finish : ℕ) → Type 0
  Finishes task release finish = Ends o (members_of b (home_of b task)) releases task release finish

  -- that job runs, in some partition, while a tick lasts
  pub record RunsAt (tick task release : ℕ) : Type 0 where
    pub partition : ℕ
    pub left : ℕ
    pub running : (box_during tick partition).running ≡ runs task release left

-- "It occupies as many of the partition's processors as its width, lowest first."
abbrev pub Occupies : Order → Build → (task x : ℕ) → Type 0
Occupies o b task x = AmongLowest (place_of b (home_of b task)) (task_of o task).width x

-- processor x serves the job that a task released at a tick, while this tick lasts
pub record Serves (o : Order) (b : Build) (releases : Pattern) (tick x task release : ℕ) : Type 0 where
  pub runs_then : RunsAt o b releases tick task release
  pub on : Occupies o b task x
