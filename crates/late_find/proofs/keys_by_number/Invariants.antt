use Rattle.late_find.specs.Found.{KeysByNumber}
use Rattle.late_find.proofs.keys_by_number.Given as goal

abbrev pub invariant-loop-i : goal.invariant-loop-i
invariant-loop-i l = KeysByNumber l.order l.build l.i l.keys
