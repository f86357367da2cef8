use native.Mathlib.Omega.{arith}
use mathlib.Core.Path.{sym}
use Rattle.bits.proofs.Field.{field_around}
use Rattle.bits.proofs.Cursor.take.Goals as goal

pub returns-clause-value : goal.returns-clause-value
returns-clause-value c =
    rw (c.number_at-number.ensures, c.values.ensures.0) (sym (field_around c.args.s.now c.args.self.at c.args.width _ _ _ (omega arith) (omega arith)))
