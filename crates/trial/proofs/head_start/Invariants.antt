use Rattle.std.proofs.Common.{◌≡◌, ◌+◌}
use Rattle.trial.proofs.Heads.{between}
use Rattle.trial.proofs.head_start.Given as goal

abbrev pub invariant-loop-higher : goal.invariant-loop-higher
invariant-loop-higher l = l.covered ≡ l.blocked + 2 + between l.rows l.higher l.rank
