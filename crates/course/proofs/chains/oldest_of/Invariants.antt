use mathlib.Core.Path.{◌≡◌}
use Rattle.course.specs.Ahead.{heads_of}
use Rattle.course.proofs.chains.oldest_of.Given as goal

abbrev pub invariant-loop-k : goal.invariant-loop-k
invariant-loop-k l = l.oldest ≡ heads_of l.first l.homes l.ranks l.partition l.k
