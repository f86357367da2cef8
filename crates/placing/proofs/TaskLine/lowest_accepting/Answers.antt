use Rattle.std.proofs.Common.{arith}
use Rattle.placing.proofs.Seeking.{next_trying, found_here, not_here, found_nowhere}
use Rattle.placing.proofs.TaskLine.lowest_accepting.Goals as goal

pub try_partition-requires : goal.try_partition-requires
try_partition-requires c =
    next_trying _ _ _ _ _ _ _ c.loop-partition.invariant (omega (arith, c.loop-partition-test.true, c.requires.1)) c.key_of-key.ensures c.requires.0

pub returns-in-Ok : goal.returns-in-Ok
returns-in-Ok c = λ so.
    found_here _ _ _ _ _ _ _ c.loop-partition.invariant (omega (arith, c.loop-partition-test.true, c.requires.1)) c.key_of-key.ensures _ _ c.try_partition.ensures _ c.loop-partition-test.true c.in-Ok.is so

-- this partition does not take it
pub overflow_add-first : goal.overflow_add-first
overflow_add-first c =
    let further = not_here _ _ _ _ _ _ _ c.loop-partition.invariant (omega (arith, c.loop-partition-test.true, c.requires.1)) c.key_of-key.ensures _ _ c.try_partition.ensures c.requires.0 c.in-Err.is in
    omega (arith, further.members.upto, c.requires.0.room)

pub loop-partition-preserved : goal.loop-partition-preserved
loop-partition-preserved c =
    not_here _ _ _ _ _ _ _ c.loop-partition.invariant (omega (arith, c.loop-partition-test.true, c.requires.1)) c.key_of-key.ensures _ _ c.try_partition.ensures c.requires.0 c.in-Err.is

pub returns : goal.returns
returns c = λ so. found_nowhere _ _ _ _ _ _ _ c.loop-partition.invariant c.loop-partition-test.false so
