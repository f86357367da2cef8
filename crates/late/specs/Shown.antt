-- "Refusals: after the order's 1 to 10, 63 the build isn't refused 29, 64 more than 1,024 records, 12 output too short.", and the script's bytes.
use Rattle.std.specs.Prelude.{ℕ, ◌≡◌, List, ◌∷◌, ◌++◌, length, Ok, Err, Some, None, Option}
use Rattle.model.specs.declared.order.Order.{Order}
use Rattle.model.specs.declared.build.Build.{Build}
use Rattle.model.specs.declared.build.Release.{Release}
use Rattle.model.specs.Kinds.{Answer}
use Rattle.model.specs.declared.answer.Refusal.{Refusal}
use Rattle.model.specs.declared.answer.Refusal.TheVariants.{OfOrder, OfCall, OfBuild, OfScript, OfText, OfList, OfLate}
use Rattle.model.specs.declared.answer.BuildCause.{BuildCause}
use Rattle.model.specs.declared.answer.BuildCause.TheVariants.{BuildShort, BuildMismatch, BuildLength, BuildSpare, PartitionPlace, TaskPartition, Rank, Window, Start, Late, Response}
use Rattle.model.specs.declared.answer.LateCause.TheVariants.{NotLate, ManyRecords}
use Rattle.model.specs.Answer.{output_after}
use Rattle.model.specs.Layouts.{script_length}
use Rattle.model.specs.Limits.{most_records, home_of}
use Rattle.model.specs.Rules.{Rule, rule, at_most, first_broken, room_rules}
use Rattle.order.specs.Order.{order_at, order_rules}
use Rattle.build.specs.Build.{build_at}
use Rattle.search.specs.Smallest.{number_found}
use Rattle.verdict.specs.Tested.{is_there}
use Rattle.demand.specs.Priority.{members_of}
use Rattle.inspect.specs.Rules.{check_answer}
use Rattle.script.specs.Script.{script_bytes}
use Rattle.critical.specs.Late.{late_script}

-- the task that an answer names late, if it is 29
abbrev pub late_in_build : BuildCause → Option ℕ
late_in_build BuildShort = None
late_in_build BuildMismatch = None
late_in_build BuildLength = None
late_in_build BuildSpare = None
late_in_build (PartitionPlace partition) = None
late_in_build (TaskPartition task) = None
late_in_build (Rank task) = None
late_in_build (Window task) = None
late_in_build (Start task) = None
late_in_build (Late task) = Some task
late_in_build (Response task) = None

abbrev pub late_in_refusal : Refusal → Option ℕ
late_in_refusal (OfOrder cause) = None
late_in_refusal (OfCall cause) = None
late_in_refusal (OfBuild cause) = late_in_build cause
late_in_refusal (OfScript cause) = None
late_in_refusal (OfText cause) = None
late_in_refusal (OfList cause) = None
late_in_refusal (OfLate cause) = None

abbrev pub late_task : Answer → Option ℕ
late_task (Ok count) = None
late_task (Err cause) = late_in_refusal cause

-- the check's one answer is 29, for this task
abbrev pub RefusedLate : (order build : List ℕ) → (task : ℕ) → Type 0
RefusedLate order build task = check_answer order build ≡ Err (OfBuild (Late task))

-- the script that shows a task of a build late
abbrev pub script_showing : Order → Build → (task : ℕ) → List Release
script_showing o b task = late_script o (members_of b (home_of b task)) task

-- the script that is shown for an order and a build: that of the task which the check names
unfoldable pub shown_script : (order build : List ℕ) → List Release
shown_script order build = script_showing (order_at order) (build_at build) (number_found (late_task (check_answer order build)))

-- 64, then 12, of a script
unfoldable pub show_rules : List Release → (room : ℕ) → List Rule
show_rules script room = rule (at_most (length script) most_records) (OfLate ManyRecords) ∷ room_rules (script_length 1 (length script)) room

unfoldable pub late_rules : (order build : List ℕ) → (room : ℕ) → List Rule
late_rules order build room =
    order_rules order
    ++ (rule (record { says = (task : ℕ) × RefusedLate order build task; test = is_there (late_task (check_answer order build)) }) (OfLate NotLate)
    ∷ show_rules (shown_script order build) room)

-- "0 means done: .. count of bytes .. written"
unfoldable pub late_answer : (order build : List ℕ) → (room : ℕ) → Answer
late_answer order build room = first_broken (script_length 1 (length (shown_script order build))) (late_rules order build room)

-- 64 and 12 of the script that shows a task late, and its bytes where they hold
pub record ShowsScript (o : Order) (b : Build) (task : ℕ) (output : List ℕ) (answer : Answer) (after : List ℕ) : Type 0 where
  pub answers : answer ≡ first_broken (script_length 1 (length (script_showing o b task))) (show_rules (script_showing o b task) (length output))
  pub leaves : after ≡ output_after answer (script_bytes (script_showing o b task)) output

-- what showing the late job promises: the answer, and all that the output holds
pub record ShowsLate (order build output : List ℕ) (answer : Answer) (after : List ℕ) : Type 0 where
  pub answered : answer ≡ late_answer order build (length output)
  pub written : after ≡ output_after answer (script_bytes (shown_script order build)) output
