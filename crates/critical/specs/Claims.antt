-- What the pattern of R-3 does in the step machine, for every order within the limits and any members; proved in proofs/.
use Rattle.std.specs.Prelude.{ℕ, suc, ◌+◌, ◌*◌, ◌≤◌, ◌<◌, ◌≡◌, true, List, Err}
use Rattle.model.specs.declared.order.Order.{Order}
use Rattle.model.specs.declared.build.Release.{Release}
use Rattle.model.specs.Rules.{WithinLimits}
use Rattle.demand.specs.declared.Failing.TheVariants.{TooLate}
use Rattle.demand.specs.Priority.{Members, deadline_of, lower}
use Rattle.demand.specs.Releases.{period_of, cost_of}
use Rattle.demand.specs.Test.{blocking, verdict}
use Rattle.demand.specs.Meaning.{IsWindow, IsStart}
use Rattle.machine.specs.Step.{Pattern, Ends}
use Rattle.machine.specs.Pattern.{LegalPattern, LegalScript, pattern_of}
use Rattle.comings.specs.Listed.{EndsBefore}
use Rattle.critical.specs.Pattern.{blocks, begin, critical_pattern, critical_script}
use Rattle.critical.specs.Late.{late_job, late_start, late_script, FirstLate}

-- a member of an order within the limits
pub record IsMember (o : Order) (member : Members) (i : ℕ) : Type 0 where
  pub limits : WithinLimits o
  pub known : i < o.tasks
  pub its_own : member i ≡ true

-- where B is over 0 there is one blocker: a lower member, its C is B + 1, no lower member has a larger, and none of a lower number has the same
pub record OneBlocker (o : Order) (member : Members) (i j : ℕ) : Type 0 where
  pub known : j < o.tasks
  pub is_lower : lower o member i j ≡ true
  pub cost_is : cost_of o j ≡ suc (blocking o member i)
  pub largest : (k : ℕ) → k < o.tasks → lower o member i k ≡ true → cost_of o k ≤ cost_of o j
  pub lowest : (k : ℕ) → k < j → lower o member i k ≡ true → cost_of o k < cost_of o j
  pub only_it : (k : ℕ) → blocks o member i k ≡ true → k ≡ j

abbrev pub BlockerIsThere : Type 0
BlockerIsThere = (o : Order) (member : Members) (i : ℕ) → 0 < blocking o member i → (j : ℕ) × (blocks o member i j ≡ true) × OneBlocker o member i j

-- a job of the window: its number, and its start
pub record JobInWindow (o : Order) (member : Members) (i q w : ℕ) : Type 0 where
  pub size : ℕ
  pub window : IsWindow o member i size
  pub inside : q * period_of o i < size
  pub starts : IsStart o member i q w

-- the pattern up to such a job is legal, and all of it comes by the tick at which the job starts
pub record LegalToTheStart (o : Order) (member : Members) (i q w : ℕ) : Type 0 where
  pub pattern : LegalPattern o (critical_pattern o member i q w)
  pub script : LegalScript o (critical_script o member i q w)
  pub ends : EndsBefore (critical_pattern o member i q w) (suc (begin o member i + w))
  pub same : (tick task : ℕ) → pattern_of (critical_script o member i q w) tick task ≡ critical_pattern o member i q w tick task

abbrev pub CriticalIsLegal : Type 0
CriticalIsLegal = (o : Order) (member : Members) (i q w : ℕ) → IsMember o member i → JobInWindow o member i q w → LegalToTheStart o member i q w

-- and in it the step machine gives every job of task i up to that one the response of the test, to the tick
abbrev pub CriticalIsExact : Type 0
CriticalIsExact = (o : Order) (member : Members) (i q w : ℕ) → IsMember o member i → JobInWindow o member i q w
    → (p v : ℕ) → p ≤ q → IsStart o member i p v
    → Ends o member (pattern_of (critical_script o member i q w)) i (begin o member i + p * period_of o i) (begin o member i + v + cost_of o i)

-- a member that is late in the test has a first late job, in its window
pub record HasFirstLate (o : Order) (member : Members) (i : ℕ) : Type 0 where
  pub first : FirstLate o member i (late_job o member i) (late_start o member i)
  pub in_window : JobInWindow o member i (late_job o member i) (late_start o member i)

abbrev pub TooLateHasFirst : Type 0
TooLateHasFirst = (o : Order) (member : Members) (i : ℕ) → IsMember o member i → verdict o member i ≡ Err TooLate → HasFirstLate o member i

-- a script misses task i: its last job comes at a tick, and finishes after its deadline
pub record Misses (o : Order) (member : Members) (i : ℕ) (script : List Release) : Type 0 where
  pub release : ℕ
  pub finish : ℕ
  pub comes : 0 < pattern_of script release i
  pub its_last : (later : ℕ) → release < later → pattern_of script later i ≡ 0
  pub finishes : Ends o member (pattern_of script) i release finish
  pub late : release + deadline_of o i < finish

-- "late in the test means late in the box"
pub record LateScriptMisses (o : Order) (member : Members) (i : ℕ) : Type 0 where
  pub legal : LegalScript o (late_script o member i)
  pub misses : Misses o member i (late_script o member i)
  -- "its first late job": in the machine too every earlier job of the task is in time
  pub earlier : (release : ℕ) → release < misses.release → 0 < pattern_of (late_script o member i) release i
      → (finish : ℕ) × (Ends o member (pattern_of (late_script o member i)) i release finish) × (finish ≤ release + deadline_of o i)

abbrev pub TooLateMisses : Type 0
TooLateMisses = (o : Order) (member : Members) (i : ℕ) → IsMember o member i → verdict o member i ≡ Err TooLate → LateScriptMisses o member i

-- whatever window and starts a member has: every job of every legal pattern finishes within a response that all starts keep to
abbrev pub WithinAnyWorst : Type 0
WithinAnyWorst = (o : Order) (member : Members) (i size worst : ℕ) → IsMember o member i → IsWindow o member i size
    → ((q : ℕ) → q * period_of o i < size → (w : ℕ) × (IsStart o member i q w) × (w + cost_of o i ≤ q * period_of o i + worst))
    → (releases : Pattern) → LegalPattern o releases → (release : ℕ) → 0 < releases release i
    → (finish : ℕ) × (Ends o member releases i release finish) × (finish ≤ release + worst)
