use borrow.Author.Rules.{rules}
use Prim.Native.Nat.{ℕ}
use mathlib.Core.Path.{sym, ap, ◌∙◌}
use mathlib.Core.List.{List, ◌++◌}
use native.Mathlib.Omega.{arith}
use lib.ListN.{get_or, drop}
use Rattle.model.specs.Limits.{zero_member, home_of}
use Rattle.finish.specs.Finish.{finish_ticks}
use Rattle.stepper.specs.Lines.{record_task}
use Rattle.stepper.specs.Follow.{rank_of}
use Rattle.course.proofs.Prepared.{OfEach, by_number, by_home_so, prepared, first_machine, heads_from, begins, ran_none, ran_more, ran_all}
use Rattle.course.proofs.run_all.Goals as goal

pub line_up-oldest-requires-clause-grouped : goal.line_up-oldest-requires-clause-grouped
line_up-oldest-requires-clause-grouped c =
    by_number c.requires (c.from_fn-own.ensures.items.long, λ k below. (let called = c.from_fn-own.ensures.items.at k 0 below in search rules))

pub line_up-first-requires-clause-grouped : goal.line_up-first-requires-clause-grouped
line_up-first-requires-clause-grouped c =
    by_home_so c.requires (c.map-homes.ensures.items.long, λ k below. (let called = c.map-homes.ensures.items.at k zero_member 0 below in search rules))

pub loop-partition-init : goal.loop-partition-init
loop-partition-init c = λ so.
    let housed : OfEach so c.map-homes.result (home_of c.args.build) = (c.map-homes.ensures.items.long, λ k below. (let called = c.map-homes.ensures.items.at k zero_member 0 below in search rules)) in
    let ranked : OfEach so c.map-ranks.result (rank_of c.args.build) = (c.map-ranks.ensures.items.long, λ k below. (let called = c.map-ranks.ensures.items.at k zero_member 0 below in search rules)) in
    let numbered : OfEach so c.from_fn-own.result (λ k. k) = (c.from_fn-own.ensures.items.long, λ k below. (let called = c.from_fn-own.ensures.items.at k 0 below in search rules)) in
    (prepared so housed ranked (c.line_up-oldest.ensures (by_number so numbered)) (c.line_up-first.ensures (by_home_so so housed)), ran_none c.args.order c.args.build so.script c.args.out.now)

pub oldest_of-heads-requires : goal.oldest_of-heads-requires
oldest_of-heads-requires c = heads_from (c.loop-partition.invariant c.requires).0

pub run-requires : goal.run-requires
run-requires c =
    let so = c.requires in
    let was = c.loop-partition.invariant so in
    begins was.0 c.loop-partition.partition c.loop-partition-test.true c.begin.result (c.begin.ensures ∙ ap (λ (xs : List ℕ). first_machine xs (get_or c.line_up-first.result c.loop-partition.partition 0)) c.oldest_of-heads.ensures) _ was.1.places

pub loop-partition-preserved : goal.loop-partition-preserved
loop-partition-preserved c = λ so.
    let was = c.loop-partition.invariant so in
    let begun = begins was.0 c.loop-partition.partition c.loop-partition-test.true c.begin.result (c.begin.ensures ∙ ap (λ (xs : List ℕ). first_machine xs (get_or c.line_up-first.result c.loop-partition.partition 0)) c.oldest_of-heads.ensures) _ was.1.places in
    (was.0, ran_more c.args.order c.args.build so.script c.args.out.now c.loop-partition.partition c.loop-partition.out _ was.1 (c.run.ensures begun))

pub returns : goal.returns
returns c = λ so.
    let a = c.args in
    let was = c.loop-partition.invariant so in
    ran_all a.order a.build so.script a.out.now c.loop-partition.partition c.loop-partition.out so.room
    (λ i there. omega (arith, so.homes (record_task so.script i) (so.legal.known i there), c.loop-partition-test.false)) was.1
    ∙ ap (λ (n : ℕ). finish_ticks a.order a.build so.script ++ drop n a.out.now) (sym so.count)
