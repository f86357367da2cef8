use native.Mathlib.Omega.{arith}
use Rattle.form.proofs.Written.{length_time}
use Rattle.text_out.proofs.time_bytes.Goals as goal

pub returns-clause-counted : goal.returns-clause-counted
returns-clause-counted c = omega (arith, length_time c.args.ticks)
