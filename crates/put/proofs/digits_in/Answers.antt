use native.Mathlib.Omega.{arith}
use Rattle.put.proofs.Counted.{counted_none, counted_more, counted_all}
use Rattle.put.proofs.digits_in.Goals as goal

pub loop-left-init : goal.loop-left-init
loop-left-init c = counted_none _ (omega (arith, c.ranges.number))

pub loop-left-preserved : goal.loop-left-preserved
loop-left-preserved c = counted_more _ _ _ c.loop-left-test.true c.loop-left.invariant

pub returns-clause-counted : goal.returns-clause-counted
returns-clause-counted c = counted_all _ _ _ c.loop-left-test.false c.loop-left.invariant
