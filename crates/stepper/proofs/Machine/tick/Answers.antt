use borrow.Author.Rules.{rules}
use Prim.Native.Nat.{◌<◌}
use mathlib.Core.Path.{refl}
use native.Mathlib.Numerals.{add-one}
use native.Mathlib.Omega.{arith}
use lib.ListN.{get_or}
use Rattle.stepper.proofs.Ranks.{bit_within}
use Rattle.stepper.proofs.Ready.{ready_goes_on, ready_rests, ready_few, ready_lasts, ready_starts}
use Rattle.stepper.proofs.Machine.tick.Goals as goal

pub returns-then-self-gt0 : goal.returns-then-self-gt0
returns-then-self-gt0 c = (λ so. let a = c.args in ready_goes_on a.self a.releases a.keys.now a.durations.now a.next.now so c.if-self-gt0.true, add-one _, refl)

pub returns-then-self-eq0 : goal.returns-then-self-eq0
returns-then-self-eq0 c = (λ so. let a = c.args in ready_rests a.self a.releases a.keys.now a.durations.now a.next.now so c.if-self-gt0.false c.if-self-eq0.true, add-one _, refl)

pub lowest-rank-requires : goal.lowest-rank-requires
lowest-rank-requires c = omega (arith, c.if-self-eq0.false)

pub overflow_cast-job : goal.overflow_cast-job
overflow_cast-job c = search (rules, c.lowest-rank.ensures.0)

pub bounds-self-rank : goal.bounds-self-rank
bounds-self-rank c = c.lowest-rank.ensures.0

pub offset_bounds-next-job : goal.offset_bounds-next-job
offset_bounds-next-job c = let few : get_or c.args.self.oldest c.lowest-rank.result 0 < 1024 = let a = c.args in ready_few a.self a.releases a.keys.now a.durations.now a.next.now c.requires _ c.lowest-rank.ensures.1 in record { fits = omega (arith, few) }

pub bounds-next-job : goal.bounds-next-job
bounds-next-job c = let a = c.args in ready_few a.self a.releases a.keys.now a.durations.now a.next.now c.requires _ c.lowest-rank.ensures.1

pub bounds-self-rank-2 : goal.bounds-self-rank-2
bounds-self-rank-2 c = c.lowest-rank.ensures.0

pub joined-requires : goal.joined-requires
joined-requires c = c.requires.laid.held.sizes.0

pub unless_stays-requires : goal.unless_stays-requires
unless_stays-requires c = (c.lowest-rank.ensures.0, bit_within _ _ c.lowest-rank.ensures.1.inside)

pub offset_bounds-durations-job : goal.offset_bounds-durations-job
offset_bounds-durations-job c = let few : get_or c.args.self.oldest c.lowest-rank.result 0 < 1024 = let a = c.args in ready_few a.self a.releases a.keys.now a.durations.now a.next.now c.requires _ c.lowest-rank.ensures.1 in record { fits = omega (arith, few) }

pub bounds-durations-job : goal.bounds-durations-job
bounds-durations-job c = let a = c.args in ready_few a.self a.releases a.keys.now a.durations.now a.next.now c.requires _ c.lowest-rank.ensures.1

pub overflow_sub-self-2 : goal.overflow_sub-self-2
overflow_sub-self-2 c = let a = c.args in ready_lasts a.self a.releases a.keys.now a.durations.now a.next.now c.requires _ c.lowest-rank.ensures.1

pub returns : goal.returns
returns c = (λ so. let a = c.args in ready_starts a.self a.releases a.keys.now a.durations.now a.next.now so _ c.lowest-rank.ensures.1 c.if-self-gt0.false _ refl _ c.joined.ensures _ c.unless_stays.ensures, add-one _, refl)
