use Rattle.late_find.specs.Found.{TimedBy}
use Rattle.late_find.proofs.times_by.Given as goal

abbrev pub invariant-loop-i : goal.invariant-loop-i
invariant-loop-i l = TimedBy l.keys l.i l.late l.times
