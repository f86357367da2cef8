-- Of each function of the C surface: one possible outcome for every input, and a word that tells the answer; proved in proofs/Claims.antt.
use Rattle.std.specs.Prelude.{ℕ, ◌≡◌, List, length}
use Rattle.order.specs.Order.{read_order}
use Rattle.order_out.specs.Write.{TaskColumns, write_answer}
use Rattle.plan.specs.Plan.{plan_answer}
use Rattle.inspect.specs.Rules.{check_answer}
use Rattle.run.specs.Run.{run_answer}
use Rattle.text.specs.Read.{read_text_answer}
use Rattle.text_out.specs.Write.{write_text_answer}
use Rattle.sets.specs.Sets.{IsSet}
use Rattle.list.specs.Read.{read_list}
use Rattle.list_out.specs.Write.{write_list_answer}
use Rattle.partition_sets.specs.Given.{sets_answer}
use Rattle.late.specs.Shown.{late_answer}
use Rattle.jefkantu.specs.Word.{TellsAnswer}
use Rattle.jefkantu.specs.Surface.{ReadsOrder, WritesColumns}
use Rattle.jefkantu.specs.Builds.{PlansBuild, ChecksBuild}
use Rattle.jefkantu.specs.Runs.{RunsScript}
use Rattle.jefkantu.specs.Texts.{ReadsForm, WritesForm}
use Rattle.jefkantu.specs.Lists.{WritesSet, ReadsSet, GivesPartitionSets}
use Rattle.jefkantu.specs.Late.{ShowsLateScript}

-- "the statement leaves one possible number, place, count and content of the caller's memory"
unfoldable pub ReadUnique : Type 0
ReadUnique = (order numbers : List ℕ) (word other : ℕ) (after others : List ℕ) → ReadsOrder order numbers word after → ReadsOrder order numbers other others →
    (word ≡ other) × (after ≡ others)

unfoldable pub WriteUnique : Type 0
WriteUnique = (processors : ℕ) (c : TaskColumns) (output : List ℕ) (word other : ℕ) (after others : List ℕ) →
    WritesColumns processors c output word after → WritesColumns processors c output other others →
    (word ≡ other) × (after ≡ others)

unfoldable pub PlanUnique : Type 0
PlanUnique = (order output : List ℕ) (word other : ℕ) (after others : List ℕ) → PlansBuild order output word after → PlansBuild order output other others →
    (word ≡ other) × (after ≡ others)

-- the check is handed no memory to write
unfoldable pub CheckUnique : Type 0
CheckUnique = (order build : List ℕ) (word other : ℕ) → ChecksBuild order build word → ChecksBuild order build other → word ≡ other

unfoldable pub RunUnique : Type 0
RunUnique = (order build script output : List ℕ) (word other : ℕ) (after others : List ℕ) →
    RunsScript order build script output word after → RunsScript order build script output other others → (word ≡ other) × (after ≡ others)

unfoldable pub ReadFormUnique : Type 0
ReadFormUnique = (processors : ℕ) (text output : List ℕ) (word other : ℕ) (after others : List ℕ) →
    ReadsForm processors text output word after → ReadsForm processors text output other others →
    (word ≡ other) × (after ≡ others)

unfoldable pub WriteFormUnique : Type 0
WriteFormUnique = (order output : List ℕ) (word other : ℕ) (after others : List ℕ) → WritesForm order output word after → WritesForm order output other others →
    (word ≡ other) × (after ≡ others)

unfoldable pub WriteSetUnique : Type 0
WriteSetUnique = (set : ℕ) (output : List ℕ) (word other : ℕ) (after others : List ℕ) → WritesSet set output word after → WritesSet set output other others →
    (word ≡ other) × (after ≡ others)

unfoldable pub ReadSetUnique : Type 0
ReadSetUnique = (text : List ℕ) (set word other after others : ℕ) → ReadsSet text set word after → ReadsSet text set other others → (word ≡ other) × (after ≡ others)

unfoldable pub PartitionSetsUnique : Type 0
PartitionSetsUnique = (order build output : List ℕ) (word other : ℕ) (after others : List ℕ) →
    GivesPartitionSets order build output word after → GivesPartitionSets order build output other others → (word ≡ other) × (after ≡ others)

unfoldable pub LateUnique : Type 0
LateUnique = (order build output : List ℕ) (word other : ℕ) (after others : List ℕ) →
    ShowsLateScript order build output word after → ShowsLateScript order build output other others → (word ≡ other) × (after ≡ others)

-- "Every answer has a number, a place and a count": all three come out of the word, whatever the input
unfoldable pub ReadTells : Type 0
ReadTells = (order numbers : List ℕ) (word : ℕ) (after : List ℕ) → ReadsOrder order numbers word after → TellsAnswer word (read_order order).answer

unfoldable pub WriteTells : Type 0
WriteTells = (processors : ℕ) (c : TaskColumns) (output : List ℕ) (word : ℕ) (after : List ℕ) →
    WritesColumns processors c output word after → TellsAnswer word (write_answer processors c (length output))

unfoldable pub PlanTells : Type 0
PlanTells = (order output : List ℕ) (word : ℕ) (after : List ℕ) → PlansBuild order output word after → TellsAnswer word (plan_answer order (length output))

unfoldable pub CheckTells : Type 0
CheckTells = (order build : List ℕ) (word : ℕ) → ChecksBuild order build word → TellsAnswer word (check_answer order build)

unfoldable pub RunTells : Type 0
RunTells = (order build script output : List ℕ) (word : ℕ) (after : List ℕ) →
    RunsScript order build script output word after → TellsAnswer word (run_answer order build script (length output))

unfoldable pub ReadFormTells : Type 0
ReadFormTells = (processors : ℕ) (text output : List ℕ) (word : ℕ) (after : List ℕ) →
    ReadsForm processors text output word after → TellsAnswer word (read_text_answer processors text (length output))

unfoldable pub WriteFormTells : Type 0
WriteFormTells = (order output : List ℕ) (word : ℕ) (after : List ℕ) → WritesForm order output word after → TellsAnswer word (write_text_answer order (length output))

unfoldable pub WriteSetTells : Type 0
WriteSetTells = (set : ℕ) (output : List ℕ) (word : ℕ) (after : List ℕ) → IsSet set → WritesSet set output word after → TellsAnswer word (write_list_answer set (length output))

unfoldable pub ReadSetTells : Type 0
ReadSetTells = (text : List ℕ) (set word after : ℕ) → ReadsSet text set word after → TellsAnswer word (read_list text).answer

unfoldable pub PartitionSetsTell : Type 0
PartitionSetsTell = (order build output : List ℕ) (word : ℕ) (after : List ℕ) →
    GivesPartitionSets order build output word after → TellsAnswer word (sets_answer order build (length output))

unfoldable pub LateTells : Type 0
LateTells = (order build output : List ℕ) (word : ℕ) (after : List ℕ) →
    ShowsLateScript order build output word after → TellsAnswer word (late_answer order build (length output))
