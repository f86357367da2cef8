use Rattle.text.proofs.Feeds.{Counting}
use Rattle.text.proofs.finished_lines.Given as goal

abbrev pub invariant-loop-i : goal.invariant-loop-i
invariant-loop-i l = Counting l.text l.lines l.i
