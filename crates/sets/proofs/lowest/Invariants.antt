use mathlib.Core.Path.{◌≡◌}
use Rattle.sets.specs.Sets.{processors_below}
use Rattle.sets.proofs.Chosen.{chosen_below, is_low}
use Rattle.sets.proofs.lowest.Given as goal

abbrev pub invariant-loop-processor : goal.invariant-loop-processor
invariant-loop-processor l = (l.chosen ≡ chosen_below (is_low l.set l.count) l.processor) × (l.below ≡ processors_below l.set l.processor)
