use mathlib.Core.Path.{refl}
use native.Mathlib.Omega.{arith}
use Rattle.put.proofs.Put.{put_one}
use Rattle.put.proofs.Output.put_byte.Goals as goal

pub returns-clause-put : goal.returns-clause-put
returns-clause-put c = record { written = put_one _ _ _ (omega (arith, c.requires.fits)); next_at = refl }
