-- The run's parts in turn: the check stops it, or the script's rules go on.
use Rattle.std.specs.Prelude.{Ok, Err, Result}
use Prim.Native.Nat.{ℕ}
use mathlib.Core.Path.{◌≡◌, sym, ap, ◌∙◌, subst}
use mathlib.Core.List.{List}
use lib.ListN.{length}
use Rattle.model.specs.declared.order.Order.{Order}
use Rattle.model.specs.declared.build.Build.{Build}
use Rattle.model.specs.Kinds.{Answer}
use Rattle.model.specs.declared.answer.Refusal.{Refusal}
use Rattle.model.specs.Answer.{output_after}
use Rattle.model.specs.Rules.{first_broken}
use Rattle.model.proofs.Output.{after_refused}
use Rattle.model.proofs.Rules.{done_pass, pass_on, pass_kept, stop, any_count}
use Rattle.order.specs.Order.{order_at}
use Rattle.build.specs.Build.{build_at}
use Rattle.inspect.specs.declared.Accepted.{Accepted}
use Rattle.inspect.specs.Rules.{check_rules, check_answer, ChecksBoth}
use Rattle.inspect.proofs.Answers.{says_no, says_yes}
use Rattle.inspect.proofs.Handed.{check_passes, handed_order, handed_build}
use Rattle.script.specs.Script.{records_in, script_of, script_rules}
use Rattle.script.specs.Claims.{ScriptAccepted}
use Rattle.script.proofs.Accepted.{rules_accepted}
use Rattle.script.proofs.Tells.{script_tells}
use Rattle.finish.specs.Finish.{finish_ticks}
use Rattle.run.specs.Run.{run_rules, run_answer, run_ticks, run_output, RanScript, Ran}

-- a script that is not refused is accepted
pub script_accepted : (o : Order) (script : List ℕ) (places : ℕ) {count : ℕ} → first_broken (records_in script) (script_rules o script places) ≡ Ok count → ScriptAccepted o script places
script_accepted o script places e =
    rules_accepted o script places (pass_kept (script_rules o script places) (script_tells o script places) (done_pass (records_in script) (script_rules o script places) e))

module _ (order build : List ℕ) where
  module _ (script : List ℕ) (places : ℕ) where
    pub check_stops : {cause : Refusal} → check_answer order build ≡ Err cause → run_answer order build script places ≡ Err cause
    unfolding check_answer run_answer run_rules
    check_stops {cause} e =
        stop (records_in script) (check_rules order build) (script_rules (order_at order) script places) cause (any_count 0 (records_in script) (check_rules order build) cause e)

    pub script_next : {count : ℕ} → check_answer order build ≡ Ok count → run_answer order build script places ≡ first_broken (records_in script) (script_rules (order_at order) script places)
    unfolding run_answer run_rules
    script_next e = pass_on (records_in script) (check_rules order build) (script_rules (order_at order) script places) (check_passes order build e)

module _ (order build script output : List ℕ) where
  -- a run that the check refuses
  pub ran_refused : {cause : Refusal} → check_answer order build ≡ Err cause → Ran order build script output (Err cause) output
  unfolding run_output
  ran_refused {cause} e =
      let stops = check_stops order build script (length output) e in
      record { answers = sym stops; leaves = rw stops (sym (after_refused cause (run_ticks order build script) output)) }

  -- a run that it lets pass
  pub ran_on : {count : ℕ} {answer : Answer} {after : List ℕ} → check_answer order build ≡ Ok count → RanScript (order_at order) (build_at build) script output answer after
      → Ran order build script output answer after
  unfolding run_output run_ticks
  ran_on done ran =
      let answers = ran.script_answer ∙ sym (script_next order build script (length output) done) in
      record {
        answers = answers;
        leaves = ran.script_output ∙ ap (λ (x : Answer). output_after x (finish_ticks (order_at order) (build_at build) (script_of script)) output) answers;
      }

-- the same, from the check that hands on what it read
module _ (order build script output : List ℕ) {checked : Result Accepted Refusal} (so : ChecksBoth order build checked) where
  pub ran_not : {refusal : Refusal} → checked ≡ Err refusal → Ran order build script output (Err refusal) output
  ran_not e = ran_refused order build script output (says_no order build so e)

  pub ran_handed : {accepted : Accepted} {answer : Answer} {after : List ℕ} → checked ≡ Ok accepted → RanScript accepted.order accepted.build script output answer after
      → Ran order build script output answer after
  ran_handed {accepted} {answer} {after} done ran =
      ran_on order build script output (says_yes order build so done)
      (subst (λ (b : Build). RanScript (order_at order) b script output answer after) (handed_build order build so done)
      (subst (λ (o : Order). RanScript o accepted.build script output answer after) (handed_order order build so done) ran))
