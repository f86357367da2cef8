use Rattle.std.proofs.Common.{true}
use Rattle.trial.specs.Known.{TestedFrom}
use Rattle.trial.proofs.test_from.Given as goal

abbrev pub invariant-loop-rank : goal.invariant-loop-rank
invariant-loop-rank l = TestedFrom l.rows l.keys l.count l.from l.rank l.initial.results true l.results
