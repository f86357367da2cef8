use Rattle.course.specs.Ahead.{Grouped}
use Rattle.course.proofs.Lines.{LinedFrom}
use Rattle.course.proofs.chains.line_up.Given as goal

abbrev pub invariant-loop-i : goal.invariant-loop-i
invariant-loop-i l = (so : Grouped l.records l.keys l.groups) → LinedFrom so.group so.script l.i l.first l.next
