-- P9: the machine, computed; the build passes the check because it is the one that is planned.
use Rattle.std.specs.Prelude.{Ok}
use Prim.Native.Nat.{ℕ, ◌≤◌}
use mathlib.Core.Path.{◌≡◌, refl, sym, ap, subst}
use mathlib.Core.List.{List, ◌++◌}
use native.Mathlib.Omega.{arith}
use borrow.Author.Tests.{le-leb}
use lib.ListN.{length, drop}
use Rattle.laws.specs.Joined.{joined as laid}
use Rattle.search.specs.Smallest.{smallest, first_of}
use Rattle.bits.specs.Field.{bit_at, field}
use Rattle.bits.specs.Layout.{numbers_at}
use Rattle.model.specs.Answer.{output_after}
use Rattle.model.specs.Rules.{first_broken}
use Rattle.order.specs.Order.{order_at, read_order}
use Rattle.demand.specs.Priority.{members_of, outranks}
use Rattle.build.specs.Build.{build_header_of, partition_fields, member_fields, build_at}
use Rattle.machine.specs.Step.{ended, released, of_members, joining, better, highest, replaced, oldest_starts, starts, starts_if_free, during_tick, passed, occupancy, step, state_before}
use Rattle.machine.specs.Pattern.{joins_at, pattern_of, LegalScript}
use Rattle.plan.specs.Plan.{Plans}
use Rattle.inspect.specs.Rules.{check_answer}
use Rattle.agree.proofs.Agree.{planned_is_accepted}
use Rattle.script.specs.Script.{release_fields, records_in, script_of, comes_before, after_previous, earliest, release_rules, script_rules}
use Rattle.finish.specs.Finish.{used_up, finish_found, finish_of, finish_ticks}
use Rattle.run.specs.Run.{Ran}
use Rattle.run.proofs.Chain.{script_accepted, ran_on}
use Rattle.points.specs.Sample.{sample_on, sample_order, sample_build_on, sample_build, sample_releases, sample_script, sample_finishes}
use Rattle.points.specs.Points.{P9}
use Rattle.points.proofs.Gives.{done_is, order_is}

build_read : build_at sample_build ≡ sample_build_on 4
unfolding build_at build_header_of partition_fields member_fields numbers_at laid field bit_at
build_read = refl

script_read : script_of sample_script ≡ sample_releases
unfolding script_of records_in release_fields numbers_at laid field bit_at
script_read = refl

finish : finish_ticks (sample_on 4) (sample_build_on 4) sample_releases ≡ sample_finishes
unfolding finish_ticks finish_of finish_found used_up smallest first_of state_before step during_tick starts_if_free ended passed starts oldest_starts occupancy highest better joining released of_members replaced members_of outranks pattern_of joins_at laid
finish = refl

-- 40 to 46 hold
script_done : (places : ℕ) → 3 ≤ places → first_broken 3 (script_rules (sample_on 4) sample_script places) ≡ Ok 3
unfolding first_broken script_rules release_rules comes_before after_previous earliest records_in release_fields numbers_at laid field bit_at
script_done places room = rw (le-leb 3 places room)

legal : LegalScript (sample_on 4) sample_releases
unfolding records_in
legal = subst (LegalScript (sample_on 4)) script_read (script_accepted (sample_on 4) sample_script 3 (script_done 3 (omega arith))).legal

-- the sample order read, and planned
module _ (reads : read_order sample_order ≡ record { answer = Ok 0; order = sample_on 4 }) (plans : Plans sample_order sample_build (Ok 19) sample_build) where
  checked : check_answer sample_order sample_build ≡ Ok 0
  checked = planned_is_accepted sample_order sample_build (Ok 19) sample_build 19 plans refl

  ran : (output : List ℕ) → 3 ≤ length output → Ran sample_order sample_build sample_script output (Ok 3) (sample_finishes ++ drop 3 output)
  unfolding records_in output_after
  ran output room =
      let o : order_at sample_order ≡ sample_on 4 = order_is sample_order (sample_on 4) reads in
      let answer : Ok 3 ≡ first_broken 3 (script_rules (order_at sample_order) sample_script (length output)) = rw o (sym (script_done (length output) room)) in
      let written : finish_ticks (order_at sample_order) (build_at sample_build) (script_of sample_script) ≡ sample_finishes = rw (o, build_read, script_read) finish in
      ran_on sample_order sample_build sample_script output checked
      (record { script_answer = answer; script_output = ap (λ (front : List ℕ). output_after (Ok 3) front output) (sym written) })

  pub p9 : P9
  p9 =
      record {
        build_read = build_read;
        script_read = script_read;
        legal = legal;
        finish = finish;
        runs = λ output room. record { answer = Ok 3; ran = ran output room; answer_is = done_is 3 };
      }
