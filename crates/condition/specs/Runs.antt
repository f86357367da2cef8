-- What condition 3 says of a run: "every finish tick that an accepted run writes is within the deadline and the recorded response".
use Rattle.std.specs.Prelude.{ℕ, ◌+◌, ◌≤◌, ◌<◌, ◌≡◌, List, get_or, Ok}
use Rattle.model.specs.Kinds.{Answer}
use Rattle.model.specs.declared.build.Release.{Release}
use Rattle.model.specs.Limits.{member_of}
use Rattle.order.specs.Order.{order_at}
use Rattle.build.specs.Build.{build_at}
use Rattle.demand.specs.Priority.{deadline_of}
use Rattle.machine.specs.Pattern.{record_of}
use Rattle.script.specs.Script.{script_of}
use Rattle.run.specs.Run.{Ran}

-- the finish tick of a record is in time, for an order and a build
pub record FinishedInTime (order build : List ℕ) (release : Release) (finish : ℕ) : Type 0 where
  pub by_deadline : finish ≤ release.tick + deadline_of (order_at order) release.task
  pub within-response : finish ≤ release.tick + (member_of (build_at build) release.task).response

abbrev pub RunsInTime : Type 0
RunsInTime = (order build script output : List ℕ) (answer : Answer) (after : List ℕ) (count : ℕ)
    → Ran order build script output answer after → answer ≡ Ok count
    → (i : ℕ) → i < count → FinishedInTime order build (record_of (script_of script) i) (get_or after i 0)
