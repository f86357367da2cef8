-- "The build records the final ranks and worst responses."
use Rattle.std.specs.Prelude.{◌≡◌, ℕ, Result, Ok, Err}
use Rattle.laws.specs.Joined.{filled}
use Rattle.model.specs.declared.order.Order.{Order}
use Rattle.model.specs.declared.build.Member.{Member}
use Rattle.model.specs.declared.build.Build.{Build}
use Rattle.model.specs.declared.answer.Refusal.{Refusal}
use Rattle.model.specs.Limits.{most_tasks, zero_member, empty_build}
use Rattle.demand.specs.Priority.{rank}
use Rattle.demand.specs.Test.{verdict, response_of}
use Rattle.turns.specs.Turns.{Homes, home_at}
use Rattle.fitting.specs.declared.Placing.{Placing}
use Rattle.fitting.specs.Steps.{told, living_in, first_fit}

-- task i with its partition, its rank there and its worst response
unfoldable pub recorded_as : Order → Homes → ℕ → Member
recorded_as o homes i =
    let members = living_in homes (home_at homes i) in
    record { partition = home_at homes i; rank = rank o members i; response = response_of (verdict o members i) }

unfoldable pub build_of : Order → Placing → Build
build_of o s =
    record {
      processors = o.processors;
      tasks = o.tasks;
      partitions = s.opened;
      places = s.places;
      members = filled (recorded_as o s.homes) zero_member most_tasks o.tasks;
    }

-- the build of a placing that went on to the end, or the refusal of the task where it stopped
unfoldable pub recorded : Order → Result Placing Refusal → Result Build Refusal
recorded o answer = elim answer [ Ok s ↦ Ok (build_of o s) | Err cause ↦ Err cause ]

unfoldable pub fitted_of : Order → Result Build Refusal
fitted_of o = recorded o (told (first_fit o))

-- the build, an empty one where a task was refused
abbrev pub build_in : Result Build Refusal → Build
build_in (Ok build) = build
build_in (Err cause) = empty_build

-- what first fit promises
abbrev pub FitsFirst : Order → Result Build Refusal → Type 0
FitsFirst o answer = answer ≡ fitted_of o
