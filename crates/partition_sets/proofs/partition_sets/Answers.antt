use Rattle.model.proofs.Rules.{handed_on}
use Rattle.inspect.proofs.Handed.{handed_accepted}
use Rattle.partition_sets.proofs.Given.{partitions_fit, given_not, no_room, given}
use Rattle.partition_sets.proofs.partition_sets.Goals as goal

pub returns-in_err-accepted : goal.returns-in_err-accepted
returns-in_err-accepted c =
    rw (handed_on _ c.from_residual.ensures.1) (given_not c.args.order.now c.args.build.now c.args.out.now c.check_both.ensures c.in_err-accepted.was)

pub returns-then-out-partitions : goal.returns-then-out-partitions
returns-then-out-partitions c =
    no_room c.args.order.now c.args.build.now c.args.out.now c.check_both.ensures c.in_ok-accepted.was c.if-out-partitions.true

pub put_sets-requires-clause-fit : goal.put_sets-requires-clause-fit
put_sets-requires-clause-fit c =
    partitions_fit _ _ (handed_accepted c.args.order.now c.args.build.now c.check_both.ensures c.in_ok-accepted.was)

pub put_sets-requires-clause-room : goal.put_sets-requires-clause-room
put_sets-requires-clause-room c = c.if-out-partitions.false

pub returns : goal.returns
returns c =
    given c.args.order.now c.args.build.now c.args.out.now c.check_both.ensures c.in_ok-accepted.was c.if-out-partitions.false c.put_sets.ensures
