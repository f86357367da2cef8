use Rattle.fit.proofs.Writing.{Filling}
use Rattle.fit.proofs.records.records_of.Given as goal

abbrev pub invariant-loop-place : goal.invariant-loop-place
invariant-loop-place l = Filling l.line l.members l.first l.home l.place
