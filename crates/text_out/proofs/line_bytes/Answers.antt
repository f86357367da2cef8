use native.Mathlib.Omega.{arith}
use Rattle.form.proofs.Written.{length_line}
use Rattle.text_out.proofs.line_bytes.Goals as goal

pub returns-clause-counted : goal.returns-clause-counted
returns-clause-counted c = omega (arith, length_line c.args.task)
