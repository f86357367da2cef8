use mathlib.Core.Path.{ap}
use lib.Bits.{bit_or}
use Rattle.stepper.proofs.Ranks.{one_shifted}
use Rattle.stepper.proofs.with_rank.Goals as goal

pub returns : goal.returns
returns c = ap (bit_or c.args.ranks) (one_shifted c.args.rank c.requires)
