-- What the run promises beyond its definition: claims, proved in proofs/.
use Rattle.std.specs.Prelude.{ℕ, ◌<◌, ◌≡◌, List, [], ◌↔◌, get_or, Ok}
use Rattle.model.specs.Kinds.{Answer}
use Rattle.model.specs.Answer.{OnlyCountedFront}
use Rattle.model.specs.Limits.{home_of}
use Rattle.model.specs.Rules.{RightAnswer}
use Rattle.order.specs.Order.{order_at}
use Rattle.build.specs.Build.{build_at}
use Rattle.inspect.specs.Rules.{check_answer}
use Rattle.inspect.specs.Claims.{EveryRule}
use Rattle.machine.specs.Pattern.{record_of}
use Rattle.machine.specs.Box.{records_of}
use Rattle.script.specs.Script.{records_in, script_of}
use Rattle.script.specs.Claims.{ScriptAccepted}
use Rattle.finish.specs.Claims.{FinishesAt}
use Rattle.run.specs.Run.{run_rules, run_answer, Ran}

-- a run is done, with a finish tick for each record, exactly when every rule of the check holds and the script is accepted
abbrev pub RunDoneExactly : Type 0
RunDoneExactly = (order build script : List ℕ) (places : ℕ) →
    (run_answer order build script places ≡ Ok (records_in script)) ↔ (EveryRule order build × ScriptAccepted (order_at order) script places)

-- "the statement leaves one possible number, place, count": one answer is right, by the rule that is broken first, and it is the run's
abbrev pub OneRunAnswer : Type 0
OneRunAnswer = (order build script : List ℕ) (places : ℕ) (answer : Answer) →
    (answer ≡ run_answer order build script places) ↔ RightAnswer (records_in script) (run_rules order build script places) answer

-- one possible answer and content for every input
abbrev pub RunningUnique : Type 0
RunningUnique = (order build script output : List ℕ) (one other : Answer) (after after' : List ℕ)
    → Ran order build script output one after → Ran order build script output other after' → (one ≡ other) × (after ≡ after')

-- "On refusal the output is unchanged; on success only the counted front changes."
abbrev pub RunsOnlyFront : Type 0
RunsOnlyFront = (order build script output : List ℕ) (answer : Answer) (after : List ℕ) → Ran order build script output answer after → OnlyCountedFront answer output after

-- "writes one 32-bit finish tick per record": the one that the machine's definition gives that job
pub record EachFinish (order build script : List ℕ) (count : ℕ) (after : List ℕ) : Type 0 where
  pub counts : count ≡ records_in script
  pub finishes : (i : ℕ) → i < records_in script → FinishesAt (order_at order) (build_at build) (script_of script) i (get_or after i 0)

abbrev pub WritesFinishes : Type 0
WritesFinishes = (order build script output : List ℕ) (count : ℕ) (after : List ℕ) → Ran order build script output (Ok count) after → EachFinish order build script count after

-- "Two accepted runs of one order and build whose records for one partition's tasks agree give those records equal finish ticks, whatever else is released."
abbrev pub RunsIsolated : Type 0
RunsIsolated = (order build one other output output' : List ℕ) (count count' : ℕ) (after after' : List ℕ)
    → Ran order build one output (Ok count) after → Ran order build other output' (Ok count') after'
    → (p : ℕ) → records_of (build_at build) p (script_of one) ≡ records_of (build_at build) p (script_of other)
    → (i j : ℕ) → i < records_in one → j < records_in other → record_of (script_of one) i ≡ record_of (script_of other) j → home_of (build_at build) (record_of (script_of one) i).task ≡ p
    → get_or after i 0 ≡ get_or after' j 0

-- "A script may be empty."
abbrev pub EmptyScript : Type 0
EmptyScript = (order build : List ℕ) (places : ℕ) → check_answer order build ≡ Ok 0 → run_answer order build [] places ≡ Ok 0
