use Rattle.std.proofs.Common.{ℕ, ◌<◌}
use Rattle.inspect_tests.specs.Results.{Right}
use Rattle.inspect_tests.proofs.first_wrong.Given as goal

abbrev pub invariant-loop-i : goal.invariant-loop-i
invariant-loop-i l = (j : ℕ) → j < l.i → Right l.members l.worsts j
