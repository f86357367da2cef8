use Rattle.late_find.specs.Found.{HigherNumbers}
use Rattle.late_find.proofs.higher_of.Given as goal

abbrev pub invariant-loop-i : goal.invariant-loop-i
invariant-loop-i l = HigherNumbers l.keys l.i l.named l.numbers l.count
