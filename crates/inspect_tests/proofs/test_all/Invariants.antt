use Prim.Native.Nat.{◌-◌}
use Rattle.inspect_tests.specs.Results.{TestedBefore}
use Rattle.inspect_tests.proofs.test_all.Given as goal

abbrev pub invariant-loop-first : goal.invariant-loop-first
invariant-loop-first l = TestedBefore l.table l.keys l.tasks l.first l.lowest l.results

abbrev pub decreases-loop-first : goal.decreases-loop-first
decreases-loop-first l = l.tasks - l.first
