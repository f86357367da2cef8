-- "The run: the check, 40, 46, then record by record 41 to 45 with the record as place."
use Rattle.std.specs.Prelude.{ℕ, ◌≡◌, List, ◌++◌, length}
use Rattle.model.specs.declared.order.Order.{Order}
use Rattle.model.specs.declared.build.Build.{Build}
use Rattle.model.specs.Kinds.{Answer}
use Rattle.model.specs.Answer.{output_after}
use Rattle.model.specs.Rules.{Rule, first_broken}
use Rattle.order.specs.Order.{order_at}
use Rattle.build.specs.Build.{build_at}
use Rattle.inspect.specs.Rules.{check_rules}
use Rattle.script.specs.Script.{records_in, script_of, script_rules}
use Rattle.finish.specs.Finish.{finish_ticks}

unfoldable pub run_rules : (order build script : List ℕ) → (places : ℕ) → List Rule
run_rules order build script places = check_rules order build ++ script_rules (order_at order) script places

-- "0 means done: .. count of .. finish ticks written"
unfoldable pub run_answer : (order build script : List ℕ) → (places : ℕ) → Answer
run_answer order build script places = first_broken (records_in script) (run_rules order build script places)

-- the finish ticks of an accepted run
unfoldable pub run_ticks : (order build script : List ℕ) → List ℕ
run_ticks order build script = finish_ticks (order_at order) (build_at build) (script_of script)

-- "On refusal the output is unchanged; on success only the counted front changes."
unfoldable pub run_output : (order build script output : List ℕ) → List ℕ
run_output order build script output = output_after (run_answer order build script (length output)) (run_ticks order build script) output

-- 40 to 46 of an order and a build that the check accepts, and the finish ticks where they hold
pub record RanScript (o : Order) (b : Build) (script output : List ℕ) (answer : Answer) (after : List ℕ) : Type 0 where
  pub script_answer : answer ≡ first_broken (records_in script) (script_rules o script (length output))
  pub script_output : after ≡ output_after answer (finish_ticks o b (script_of script)) output

-- what a run promises
pub record Ran (order build script output : List ℕ) (answer : Answer) (after : List ℕ) : Type 0 where
  pub answers : answer ≡ run_answer order build script (length output)
  pub leaves : after ≡ run_output order build script output
