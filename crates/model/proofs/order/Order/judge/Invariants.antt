use Rattle.model.proofs.Ranges.{InTurn}
use Rattle.model.proofs.order.Order.judge.Given as goal

abbrev pub invariant-loop-i : goal.invariant-loop-i
invariant-loop-i l = InTurn l.self l.i
