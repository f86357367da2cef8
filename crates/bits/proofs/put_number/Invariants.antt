use Rattle.bits.proofs.Records.{WrittenFrom}
use Rattle.bits.proofs.put_number.Given as goal

abbrev pub invariant-loop-i : goal.invariant-loop-i
invariant-loop-i l = WrittenFrom l.initial.out l.count l.number l.out l.left l.i
