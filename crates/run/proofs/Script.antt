-- The script of an accepted order and build: what the course of the machines needs, and what was written after it.
use Rattle.std.specs.Prelude.{Ok, Err}
use Prim.Native.Nat.{ℕ}
use mathlib.Core.Path.{◌≡◌, sym, ◌∙◌}
use mathlib.Core.List.{List, ◌++◌}
use native.Mathlib.Omega.{arith}
use lib.ListN.{length, drop}
use Rattle.model.specs.declared.order.Order.{Order}
use Rattle.model.specs.declared.build.Build.{Build}
use Rattle.model.specs.Kinds.{Answer}
use Rattle.model.specs.declared.answer.Refusal.{Refusal}
use Rattle.model.proofs.Output.{after_refused, after_done}
use Rattle.model.proofs.Rules.{done_count}
use Rattle.script.specs.Script.{records_in, script_of, script_rules}
use Rattle.script.specs.Judged.{JudgesScript}
use Rattle.script.proofs.Bytes.{accepted_short}
use Rattle.script.proofs.Records.{script_length_lem}
use Rattle.finish.specs.Finish.{finish_ticks}
use Rattle.course.specs.Course.{Runnable}
use Rattle.inspect.specs.Claims.{AcceptedBuild}
use Rattle.run.specs.Run.{RanScript}
use Rattle.run.proofs.Chain.{script_accepted}

module _ (o : Order) (b : Build) (script output keys durations : List ℕ) {answer : Answer} (judged : JudgesScript o script (length output) keys durations answer) where
  -- a script that is refused leaves the output
  pub ran_none : {cause : Refusal} → answer ≡ Err cause → RanScript o b script output (Err cause) output
  ran_none {cause} e = record { script_answer = sym e ∙ judged.answer_is; script_output = sym (after_refused cause (finish_ticks o b (script_of script)) output) }

  -- one that is not is run
  pub runnable : {count : ℕ} → AcceptedBuild o b → answer ≡ Ok count → Runnable o b count keys durations (length output)
  runnable {count} build-accepted e =
      let passed = sym judged.answer_is ∙ e in
      let accepted = script_accepted o script (length output) passed in
      let same : count ≡ records_in script = done_count (records_in script) (script_rules o script (length output)) passed in
      record {
        script = script_of script;
        few = build-accepted.limits.tasks.1;
        few_partitions = build-accepted.partitions.1;
        homes = λ k below. (build-accepted.widths k below).there;
        ranked = build-accepted.ranks;
        legal = accepted.legal;
        short = accepted_short o script (length output) accepted;
        held = judged.numbers_held count e;
        count = same ∙ sym (script_length_lem script);
        room = omega (arith, script_length_lem script, accepted.room);
      }

  pub ran_all : {count : ℕ} {after : List ℕ} (build-accepted : AcceptedBuild o b) (e : answer ≡ Ok count)
      → after ≡ finish_ticks o b (runnable build-accepted e).script ++ drop count output → RanScript o b script output (Ok count) after
  unfolding runnable
  ran_all {count} build-accepted e written = record { script_answer = sym e ∙ judged.answer_is; script_output = written ∙ sym (after_done count (finish_ticks o b (script_of script)) output) }
