use Rattle.script.proofs.Scan.{JudgedBelow}
use Rattle.script.proofs.judge_records.Given as goal

abbrev pub invariant-loop-i : goal.invariant-loop-i
invariant-loop-i l = JudgedBelow l.fn.order l.script l.i l.earliest l.least l.keys l.durations
