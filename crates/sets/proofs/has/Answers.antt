use borrow.Author.Rules.{rules}
use Rattle.sets.specs.Sets.{has}
use Rattle.sets.proofs.has.Goals as goal

pub returns : goal.returns
unfolding has
returns c = search rules
