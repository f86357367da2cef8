use Rattle.inspect_tests.specs.Results.{TestedRanks}
use Rattle.inspect_tests.proofs.test_members.Given as goal

abbrev pub invariant-loop-rank : goal.invariant-loop-rank
invariant-loop-rank l = TestedRanks l.rows l.keys l.count l.rank l.lowest l.initial.results l.failing l.results
