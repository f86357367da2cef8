use Rattle.bits.proofs.Records.{written_none, written_more, written_all}
use Rattle.bits.proofs.put_number.Goals as goal

pub loop-i-init : goal.loop-i-init
loop-i-init c = written_none _ _ _ c.requires

pub loop-i-preserved : goal.loop-i-preserved
loop-i-preserved c = written_more _ _ _ c.requires _ _ _ c.loop-i-test.true c.loop-i.auto.i c.loop-i.invariant

pub returns : goal.returns
returns c = written_all _ _ _ c.requires _ _ _ c.loop-i-test.false c.loop-i.invariant
