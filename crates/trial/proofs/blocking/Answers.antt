use Rattle.std.proofs.Common.{arith}
use Rattle.asked.specs.Rows.{blocking_in}
use Rattle.trial.proofs.blocking.Goals as goal

pub returns : goal.returns
unfolding blocking_in
returns c = omega arith
