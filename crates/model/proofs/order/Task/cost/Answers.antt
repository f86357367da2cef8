use mathlib.Core.Path.{refl}
use Rattle.model.specs.Limits.{cost}
use Rattle.model.proofs.order.Task.cost.Goals as goal

pub returns : goal.returns
unfolding cost
returns c = refl
