use Rattle.stepper.proofs.Ranks.{one_shifted}
use Rattle.stepper.proofs.unless_stays.Goals as goal

pub overflow_sub-result : goal.overflow_sub-result
overflow_sub-result c = rw (one_shifted c.args.rank c.requires.0) c.requires.1

pub returns-then-stays : goal.returns-then-stays
returns-then-stays c = rw c.if-stays.true

pub returns-else-stays : goal.returns-else-stays
returns-else-stays c = rw (c.if-stays.false, one_shifted c.args.rank c.requires.0)
