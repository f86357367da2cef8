-- Every job of a legal script has one finish tick, and `finish_of` is it.
use Rattle.std.specs.Prelude.{Some}
use Prim.Native.Nat.{ℕ, ◌+◌, ◌≤◌, ◌<◌}
use mathlib.Core.Path.{◌≡◌, refl, sym, ap, subst}
use mathlib.Core.Bool.{true}
use mathlib.Core.List.{List}
use native.Mathlib.Nat.{mul-le-mul_right}
use native.Mathlib.Omega.{arith}
use lib.Dec.{eqb}
use lib.ListN.{length}
use borrow.Author.Tests.{eq-eqb, eqb-true}
use Rattle.laws.proofs.Choice.{refuted}
use Rattle.laws.proofs.Every.{clash, and_both, both_and}
use Rattle.search.specs.Smallest.{number_found}
use Rattle.search.proofs.Smallest.{smallest_at}
use Rattle.model.specs.declared.order.Order.{Order}
use Rattle.model.specs.declared.build.Build.{Build}
use Rattle.model.specs.declared.build.Release.{Release}
use Rattle.model.specs.Limits.{home_of}
use Rattle.demand.specs.Priority.{members_of}
use Rattle.machine.specs.Step.{Pattern, Running, free, runs}
use Rattle.machine.specs.Pattern.{record_of, pattern_of, LegalScript}
use Rattle.machine.specs.Box.{box_before, Finishes}
use Rattle.machine.proofs.Work.{theirs, theirs_of}
use Rattle.machine.proofs.Isolation.{home_member}
use Rattle.machine.proofs.Script.{record_released}
use Rattle.machine.proofs.Box.{finishes_once}
use Rattle.finish.specs.Finish.{used_up, most_tick, finish_found, finish_of}
use Rattle.finish.specs.Claims.{Short, FinishesAt, latest, EveryJobFinishes, FinishTickIsOne}
use Rattle.finish.proofs.Grid.{total, total_most, released_most}
use Rattle.finish.proofs.Rest.{rests}
use Rattle.finish.proofs.Ends.{ended_by}

-- the test of the end
used_up_lem : (k a : ℕ) (r : Running) → r ≡ runs k a 0 → used_up k a r ≡ true
unfolding used_up
used_up_lem k a r e = rw e (both_and _ _ (eq-eqb k k refl) (both_and _ _ (eq-eqb a a refl) refl))

up_used : (k a : ℕ) (r : Running) → used_up k a r ≡ true → r ≡ runs k a 0
unfolding used_up
up_used k a free e = clash e
up_used k a (runs j b l) e =
    let p = and_both (eqb j k) _ e in
    let q = and_both _ (eqb l 0) p.1 in
    cc (eqb-true j k p.0, eqb-true b a q.0, eqb-true l 0 q.1)

module _ (o : Order) (b : Build) where
  -- the only tick is the smallest
  found_at : (releases : Pattern) (task release finish : ℕ) → finish ≤ most_tick → Finishes o b releases task release finish → finish_found o b releases task release ≡ Some finish
  unfolding finish_found Finishes
  found_at releases task release finish small ends =
      smallest_at (λ tick. used_up task release (box_before o b releases tick (home_of b task)).running) 0 most_tick finish (omega arith) small
      (used_up_lem task release _ ends)
      (λ s from below. refuted _ (λ e. let same = finishes_once o b releases task release s finish (up_used task release _ e) ends in omega arith))

pub finish_tick_is_one : FinishTickIsOne
unfolding finish_of
finish_tick_is_one o b script i finish small ends = ap number_found (found_at o b (pattern_of script) (record_of script i).task (record_of script i).tick finish small ends)

module _ (o : Order) (b : Build) (script : List Release) (legal : LegalScript o script) (short : Short script) where
  work_most : total script ≤ 1_073_740_800
  work_most = omega (arith, total_most 1_048_575 script (λ i l. omega (arith, short.brief i l)), mul-le-mul_right 1_048_575 short.few)

  finishes_by : (i : ℕ) → i < length script → (f : ℕ) × (f ≤ latest) × FinishesAt o b script i f
  unfolding Finishes
  finishes_by i l =
      let k = (record_of script i).task in
      let a = (record_of script i).tick in
      let member = members_of b (home_of b k) in
      let r = rests o member (pattern_of script) 1_073_740_800 1_048_575 (omega (arith, released_most script o.tasks (1_048_575 + 1_073_740_801), work_most)) in
      let some : 0 < theirs o member (pattern_of script) a k = rw (theirs_of o member (pattern_of script) a k (home_member b (home_of b k) k refl)) (record_released o script legal i l) in
      let f = ended_by o member (pattern_of script) r.0 k a (legal.known i l) r.3 (omega (arith, r.1, short.early i l)) some in
      (f.0, omega (arith, f.1, r.2), f.2)

pub every_job_finishes : EveryJobFinishes
every_job_finishes o b script legal short i l =
    let f = finishes_by o b script legal short i l in
    let e = finish_tick_is_one o b script i f.0 (omega (arith, f.1)) f.2 in
    record { finishes = subst (FinishesAt o b script i) (sym e) f.2; in_time_lem = omega (arith, f.1) }
