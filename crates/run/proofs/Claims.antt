-- The run does as specs/Claims.antt says.
use Rattle.std.specs.Prelude.{Ok}
use Prim.Native.Nat.{ℕ, ◌<◌}
use mathlib.Core.Path.{◌≡◌, refl, sym, ap, ◌∙◌, subst}
use mathlib.Core.List.{List, [], ◌++◌}
use native.Mathlib.Omega.{arith}
use lib.ListN.{length, get_or, drop, get_or-append}
use Rattle.laws.proofs.Joined.{length-listed, get_or-listed}
use Rattle.model.specs.Kinds.{Answer}
use Rattle.model.specs.Answer.{output_after, OnlyCountedFront}
use Rattle.model.specs.Rules.{Rule, OneRightAnswer}
use Rattle.model.proofs.Output.{after_done, only_counted_front}
use Rattle.model.proofs.Rules.{AllPass, pass_done, done_pass, done_count, pass_append, pass_front, pass_rest, pass_kept, kept_pass, tell_append, one_right_answer}
use Rattle.order.specs.Order.{order_at}
use Rattle.build.specs.Build.{build_at}
use Rattle.inspect.specs.Rules.{check_rules, check_answer}
use Rattle.inspect.proofs.Claims.{done_exactly}
use Rattle.inspect.proofs.Turn.{check_tells}
use Rattle.script.specs.Script.{records_in, script_of, script_rules}
use Rattle.script.specs.Claims.{ScriptAccepted}
use Rattle.script.proofs.Accepted.{rules_accepted, accepted_rules}
use Rattle.script.proofs.Bytes.{accepted_short}
use Rattle.script.proofs.Records.{script_length_lem}
use Rattle.script.proofs.Tells.{script_tells}
use Rattle.finish.specs.Finish.{finish_of, finish_ticks}
use Rattle.finish.specs.Claims.{FinishesAt}
use Rattle.finish.proofs.Finish.{every_job_finishes}
use Rattle.finish.proofs.Apart.{runs_apart}
use Rattle.run.specs.Run.{run_rules, run_answer, run_ticks, run_output, Ran}
use Rattle.run.specs.Claims.{RunDoneExactly, OneRunAnswer, RunningUnique, RunsOnlyFront, EachFinish, WritesFinishes, RunsIsolated, EmptyScript}
use Rattle.inspect.proofs.Handed.{check_passes}

module _ (order build script : List ℕ) (places : ℕ) where
  abbrev mine : List Rule
  mine = script_rules (order_at order) script places

  run_passes : {count : ℕ} → run_answer order build script places ≡ Ok count → AllPass (run_rules order build script places)
  unfolding run_answer
  run_passes e = done_pass (records_in script) (run_rules order build script places) e

  -- the count is the number of records
  pub counted : {count : ℕ} → run_answer order build script places ≡ Ok count → count ≡ records_in script
  unfolding run_answer
  counted e = done_count (records_in script) (run_rules order build script places) e

  -- a run that is done: the check says yes, and the script is accepted
  pub done_parts : {count : ℕ} → run_answer order build script places ≡ Ok count → (check_answer order build ≡ Ok 0) × ScriptAccepted (order_at order) script places
  unfolding run_rules check_answer
  done_parts e =
      let all = run_passes e in (
        pass_done 0 (check_rules order build) (pass_front (check_rules order build) mine all),
        rules_accepted (order_at order) script places (pass_kept mine (script_tells (order_at order) script places) (pass_rest (check_rules order build) mine all)),
      )

  parts_done : (check_answer order build ≡ Ok 0) × ScriptAccepted (order_at order) script places → run_answer order build script places ≡ Ok (records_in script)
  unfolding run_answer run_rules
  parts_done (yes-said, accepted) =
      pass_done (records_in script) (check_rules order build ++ mine)
      (pass_append (check_rules order build) mine (check_passes order build yes-said) (kept_pass mine (script_tells (order_at order) script places) (accepted_rules (order_at order) script places accepted)))

pub run_done_exactly : RunDoneExactly
run_done_exactly order build script places = (
  λ e. (let parts = done_parts order build script places e in ((done_exactly order build).0 parts.0, parts.1)),
  λ parts. parts_done order build script places ((done_exactly order build).1 parts.0, parts.1),
)

pub one_run_answer : OneRunAnswer
unfolding run_answer run_rules OneRightAnswer
one_run_answer order build script places answer =
    one_right_answer (records_in script) (check_rules order build ++ script_rules (order_at order) script places)
    (tell_append (check_rules order build) (script_rules (order_at order) script places) (check_tells order build) (λ all. script_tells (order_at order) script places)) answer

pub running_unique : RunningUnique
running_unique order build script output one other after after' a b = (a.answers ∙ sym b.answers, a.leaves ∙ sym b.leaves)

ticks_length : (order build script : List ℕ) → length (run_ticks order build script) ≡ records_in script
unfolding run_ticks finish_ticks
ticks_length order build script = length-listed _ (length (script_of script)) ∙ script_length_lem script

pub runs_only_front : RunsOnlyFront
unfolding run_output
runs_only_front order build script output answer after ran =
    subst (λ (x : List ℕ). OnlyCountedFront answer output x) (sym (ran.leaves ∙ ap (λ (x : Answer). output_after x (run_ticks order build script) output) (sym ran.answers)))
    (only_counted_front answer (run_ticks order build script) output (λ count e.
    (let done = sym ran.answers ∙ e in
    let same = counted order build script (length output) done in
    (ticks_length order build script ∙ sym same, rw same (done_parts order build script (length output) done).1.room))))

module _ (order build script output : List ℕ) (count : ℕ) (after : List ℕ) (ran : Ran order build script output (Ok count) after) where
  done : run_answer order build script (length output) ≡ Ok count
  done = sym ran.answers

  -- what stands at a record's place
  pub tick_at : (i : ℕ) → i < records_in script → get_or after i 0 ≡ finish_of (order_at order) (build_at build) (script_of script) i
  unfolding run_output run_ticks finish_ticks
  tick_at i l =
      let f = finish_of (order_at order) (build_at build) (script_of script) in
      let below : i < length (script_of script) = omega (arith, script_length_lem script) in
      let left = ran.leaves ∙ (ap (λ (x : Answer). output_after x (run_ticks order build script) output) done ∙ after_done count (run_ticks order build script) output) in
      ap (λ (x : List ℕ). get_or x i 0) left
      ∙ (get_or-append (run_ticks order build script) (drop count output) 0 i (rw (ticks_length order build script) l) ∙ get_or-listed f 0 (length (script_of script)) i below)

  each_finish : EachFinish order build script count after
  each_finish =
      let accepted = (done_parts order build script (length output) done).1 in
      record {
        counts = counted order build script (length output) done;
        finishes = λ i l.
            (let below : i < length (script_of script) = omega (arith, script_length_lem script) in
            let ends = every_job_finishes (order_at order) (build_at build) (script_of script) accepted.legal (accepted_short (order_at order) script (length output) accepted) i below in
            subst (FinishesAt (order_at order) (build_at build) (script_of script) i) (sym (tick_at i l)) ends.finishes);
      }

pub writes_finishes : WritesFinishes
writes_finishes order build script output count after ran = each_finish order build script output count after ran

pub runs_isolated : RunsIsolated
runs_isolated order build one other output output' count count' after after' ran ran' p same i j l l' equal home =
    tick_at order build one output count after ran i l
    ∙ (runs_apart (order_at order) (build_at build) p (script_of one) (script_of other) same i j equal home
    ∙ sym (tick_at order build other output' count' after' ran' j l'))

pub empty_script : EmptyScript
unfolding records_in
empty_script order build places e =
    let none : length (script_of []) ≡ 0 = script_length_lem [] in
    parts_done order build [] places (
      e,
      record {
        whole = refl;
        few = omega arith;
        room = omega arith;
        spares = λ i l. absurd (omega arith);
        legal = record {
          known = λ i l. absurd (omega arith);
          rise = λ i j g l. absurd (omega arith);
          durations = λ i l. absurd (omega arith);
          apart = λ i j g l. absurd (omega arith);
        };
      },
    )
