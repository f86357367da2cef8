use Rattle.std.proofs.Common.{ltb}
use Rattle.roster.specs.Keys.{home_in, key_at}
use Rattle.inspect_tests.proofs.Looked.{Looked}
use Rattle.inspect_tests.proofs.first_of.Given as goal

abbrev pub invariant-loop-first : goal.invariant-loop-first
invariant-loop-first l = Looked (λ s. ltb (home_in (key_at l.keys s)) l.home) l.tasks l.first
