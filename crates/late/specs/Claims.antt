-- What showing the late job promises beyond its definition; proved in proofs/.
use Rattle.std.specs.Prelude.{ℕ, ◌+◌, ◌≤◌, ◌<◌, ◌≡◌, List, ◌++◌, ◌↔◌, ◌≢◌, length, take, drop, Ok}
use Rattle.model.specs.declared.order.Order.{Order}
use Rattle.model.specs.declared.build.Build.{Build}
use Rattle.model.specs.Kinds.{Answer}
use Rattle.model.specs.Answer.{OnlyCountedFront}
use Rattle.model.specs.Layouts.{script_length}
use Rattle.model.specs.Limits.{most_records}
use Rattle.model.specs.Rules.{RightAnswer}
use Rattle.order.specs.Order.{order_at}
use Rattle.build.specs.Build.{build_at}
use Rattle.demand.specs.Priority.{deadline_of}
use Rattle.machine.specs.Pattern.{LegalScript, record_of, pattern_of}
use Rattle.machine.specs.Box.{Finishes}
use Rattle.finish.specs.Finish.{finish_of}
use Rattle.script.specs.Script.{records_in, script_of, script_bytes}
use Rattle.script.specs.Claims.{ScriptAccepted}
use Rattle.late.specs.Shown.{RefusedLate, script_showing, shown_script, late_rules, late_answer, ShowsLate}

-- a script is shown exactly for a build that the check refuses 29, where it has few enough records and room
abbrev pub ShownExactly : Type 0
ShownExactly = (order build output : List ℕ) (answer : Answer) (after : List ℕ) (count : ℕ) → ShowsLate order build output answer after
    → (answer ≡ Ok count)
    ↔ (((task : ℕ) × RefusedLate order build task) × (length (shown_script order build) ≤ most_records) × (count ≡ script_length 1 (length (shown_script order build)))
    × (count ≤ length output) × (after ≡ script_bytes (shown_script order build) ++ drop count output))

-- it is that of the task which the check names
abbrev pub ShowsTheNamed : Type 0
ShowsTheNamed = (order build : List ℕ) (task : ℕ) → RefusedLate order build task → shown_script order build ≡ script_showing (order_at order) (build_at build) task

-- one answer is right, by the rule that is broken first
abbrev pub OneLateAnswer : Type 0
OneLateAnswer = (order build : List ℕ) (room : ℕ) (answer : Answer)
    → (answer ≡ late_answer order build room) ↔ RightAnswer (script_length 1 (length (shown_script order build))) (late_rules order build room) answer

-- "On refusal the output is unchanged; on success only the counted front changes."
abbrev pub ShowsOnlyFront : Type 0
ShowsOnlyFront = (order build output : List ℕ) (answer : Answer) (after : List ℕ) → ShowsLate order build output answer after → OnlyCountedFront answer output after

-- one possible answer and content for every input
abbrev pub ShowingUnique : Type 0
ShowingUnique = (order build output : List ℕ) (one other : Answer) (after after' : List ℕ) → ShowsLate order build output one after → ShowsLate order build output other after'
    → (one ≡ other) × (after ≡ after')

-- "a legal script, of any length, exists in which a job of the named task finishes after its deadline in that partition"
pub record LateInTheBox (o : Order) (b : Build) (task : ℕ) : Type 0 where
  pub legal : LegalScript o (script_showing o b task)
  pub release : ℕ
  pub finish : ℕ
  pub comes : 0 < pattern_of (script_showing o b task) release task
  pub finishes : Finishes o b (pattern_of (script_showing o b task)) task release finish
  pub late : release + deadline_of o task < finish
  -- "its first late job": the task's earlier ones finish in time
  pub earlier : (before : ℕ) → before < release → 0 < pattern_of (script_showing o b task) before task
      → (end : ℕ) × (Finishes o b (pattern_of (script_showing o b task)) task before end) × (end ≤ before + deadline_of o task)

-- "Whenever the check answers 29"
abbrev pub RefusedLateIsLate : Type 0
RefusedLateIsLate = (order build : List ℕ) (task : ℕ) → RefusedLate order build task → LateInTheBox (order_at order) (build_at build) task

-- bytes as a script: 40 to 45 hold, and the machine's finish tick of the named task's last record is after its deadline
pub record LateInBytes (o : Order) (b : Build) (task : ℕ) (s : List ℕ) : Type 0 where
  pub accepted : ScriptAccepted o s (records_in s)
  pub is_shown : script_of s ≡ script_showing o b task
  pub last : ℕ
  pub inside : last < records_in s
  pub of_task : (record_of (script_of s) last).task ≡ task
  pub none_later : (j : ℕ) → last < j → j < records_in s → (record_of (script_of s) j).task ≢ task
  pub late : (record_of (script_of s) last).tick + deadline_of o task < finish_of o b (script_of s) last

-- what is written is such bytes
abbrev pub WrittenIsLate : Type 0
WrittenIsLate = (order build output : List ℕ) (count : ℕ) (after : List ℕ) → ShowsLate order build output (Ok count) after
    → (task : ℕ) × (RefusedLate order build task) × LateInBytes (order_at order) (build_at build) task (take count after)
