use Rattle.std.proofs.Common.{◌≡◌, ◌*◌}
use Rattle.bits.specs.Field.{field}
use Rattle.bits.proofs.number_at.Given as goal

abbrev pub invariant-loop-i : goal.invariant-loop-i
invariant-loop-i l = l.number ≡ field l.s (8 * l.from) (8 * l.i)
