-- How exact the test is: "late in the test means late in the box". It stops at 27: where no window closes by H, nothing is said of the box.
use Rattle.std.specs.Prelude.{ℕ, ◌+◌, ◌≤◌, ◌<◌, ◌≡◌, List, ◌↔◌}
use Rattle.model.specs.declared.order.Order.{Order}
use Rattle.model.specs.declared.build.Build.{Build}
use Rattle.model.specs.declared.build.Release.{Release}
use Rattle.model.specs.Limits.{member_of, home_of}
use Rattle.order.specs.Order.{order_at}
use Rattle.build.specs.Build.{build_at}
use Rattle.demand.specs.Priority.{Members, members_of, deadline_of, rank}
use Rattle.machine.specs.Step.{Pattern, Ends}
use Rattle.machine.specs.Pattern.{LegalPattern, LegalScript, pattern_of}
use Rattle.machine.specs.Box.{Finishes}
use Rattle.inspect_places.specs.Rules.{PartitionRight}
use Rattle.inspect_members.specs.Rules.{WideEnough}
use Rattle.inspect_tests.specs.Rules.{WindowThere, InTime, IsWorst}
use Rattle.inspect.specs.Claims.{OrderRight, LayoutRight}
use Rattle.critical.specs.Claims.{IsMember}

-- of a member: every job of every legal pattern finishes within so many ticks, and a job of a legal script takes them all
pub record ExactResponse (o : Order) (member : Members) (i worst : ℕ) : Type 0 where
  pub never_more : (releases : Pattern) → LegalPattern o releases → (release : ℕ) → 0 < releases release i
      → (finish : ℕ) × (Ends o member releases i release finish) × (finish ≤ release + worst)
  pub script : List Release
  pub legal : LegalScript o script
  pub release : ℕ
  pub comes : 0 < pattern_of script release i
  pub attained : Ends o member (pattern_of script) i release (release + worst)

-- the worst response of the test is exact, of members that pass and of late ones
abbrev pub WorstIsExact : Type 0
WorstIsExact = (o : Order) (member : Members) (i worst : ℕ) → IsMember o member i → IsWorst o member i worst → ExactResponse o member i worst

-- of a box: every job of a task finishes by its deadline, whatever is legally released
abbrev pub NeverMisses : Order → Build → (task : ℕ) → Type 0
NeverMisses o b task = (releases : Pattern) → LegalPattern o releases → (release : ℕ) → 0 < releases release task
    → (finish : ℕ) × (Finishes o b releases task release finish) × (finish ≤ release + deadline_of o task)

-- "a build that is right in all but the responses": 1 to 10 and 20 to 26 hold
pub record RightButResponses (order build : List ℕ) : Type 0 where
  pub order_right : OrderRight order
  pub layout_right : LayoutRight (order_at order) build
  pub places : (p : ℕ) → p < (build_at build).partitions → PartitionRight (order_at order).processors (build_at build) p
  pub widths : (i : ℕ) → i < (order_at order).tasks → WideEnough (order_at order) (build_at build) i
  pub ranks : (i : ℕ) → i < (order_at order).tasks → (member_of (build_at build) i).rank ≡ rank (order_at order) (members_of (build_at build) (home_of (build_at build) i)) i

-- 27 and 29 of a task
abbrev pub HasWindow : Order → Build → ℕ → Type 0
HasWindow o b i = WindowThere o (members_of b (home_of b i)) i

abbrev pub TestedInTime : Order → Build → ℕ → Type 0
TestedInTime o b i = InTime o (members_of b (home_of b i)) i

-- of such a build, where the window of a task closes by H: no legal pattern misses it exactly where 29 does not name it
abbrev pub ExactWhereWindowsClose : Type 0
ExactWhereWindowsClose = (order build : List ℕ) → RightButResponses order build
    → (i : ℕ) → i < (order_at order).tasks → HasWindow (order_at order) (build_at build) i
    → NeverMisses (order_at order) (build_at build) i ↔ TestedInTime (order_at order) (build_at build) i
