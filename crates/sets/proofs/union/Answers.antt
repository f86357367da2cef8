use borrow.Author.Rules.{rules}
use Rattle.sets.proofs.Shifted.{or_union}
use Rattle.sets.proofs.union.Goals as goal

pub returns : goal.returns
returns c = or_union c.args.one c.args.other (search rules) (search rules)
