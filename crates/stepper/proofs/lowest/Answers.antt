use Rattle.stepper.proofs.Ranks.{trailing}
use Rattle.stepper.proofs.lowest.Goals as goal

pub returns : goal.returns
returns c = trailing 32 c.args.ranks c.requires c.ranges.ranks.fits
