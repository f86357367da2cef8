-- What the response test's verdict on a task means for the step machine: a task that passes meets its response and its deadline.
use Rattle.std.specs.Prelude.{ℕ, ◌+◌, ◌≤◌, ◌<◌, ◌≡◌, true, List, length, Ok}
use Rattle.model.specs.declared.order.Order.{Order}
use Rattle.model.specs.declared.build.Build.{Build}
use Rattle.model.specs.declared.build.Release.{Release}
use Rattle.model.specs.Limits.{home_of}
use Rattle.model.specs.Rules.{WithinLimits}
use Rattle.demand.specs.Priority.{Members, members_of, deadline_of}
use Rattle.demand.specs.Test.{verdict}
use Rattle.machine.specs.Step.{Pattern, Ends}
use Rattle.machine.specs.Pattern.{LegalPattern, LegalScript, record_of, pattern_of}

-- the job that a task released at a tick finishes, within a response and within its deadline
pub record FinishesInTime (o : Order) (member : Members) (releases : Pattern) (task release response : ℕ) : Type 0 where
  pub finish : ℕ
  pub finishes : Ends o member releases task release finish
  pub after : release < finish
  pub in_response : finish ≤ release + response
  pub in_deadline : finish ≤ release + deadline_of o task

-- For an order within the limits, any members and any legal pattern: every released job of a member that passes does so.
abbrev pub PassingIsInTime : Type 0
PassingIsInTime = (o : Order) (member : Members) (task response : ℕ) → WithinLimits o → task < o.tasks → member task ≡ true
    → verdict o member task ≡ Ok response → (releases : Pattern) → LegalPattern o releases
    → (release : ℕ) → 0 < releases release task → FinishesInTime o member releases task release response

-- and every record of a legal script whose task passes in the partition that a build records for it
abbrev pub RecordsAreInTime : Type 0
RecordsAreInTime = (o : Order) (b : Build) (script : List Release) → WithinLimits o → LegalScript o script
    → (i response : ℕ) → i < length script
    → verdict o (members_of b (home_of b (record_of script i).task)) (record_of script i).task ≡ Ok response
    → FinishesInTime o (members_of b (home_of b (record_of script i).task)) (pattern_of script) (record_of script i).task (record_of script i).tick response
