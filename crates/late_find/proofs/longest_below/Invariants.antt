use Rattle.late_find.specs.Found.{LongestBelow}
use Rattle.late_find.proofs.longest_below.Given as goal

abbrev pub invariant-loop-i : goal.invariant-loop-i
invariant-loop-i l = LongestBelow l.table l.keys l.i l.named l.longest
