use Prim.Native.Nat.{◌*◌}
use mathlib.Core.Path.{refl}
use Rattle.script.proofs.Numbers.{six_bytes_are, taken_from}
use Rattle.script.proofs.take_release.Goals as goal

pub returns : goal.returns
returns c =
    let a = c.args in
    let s = a.script.now in
    let number = six_bytes_are s (6 * a.i) c.three_bytes.result c.three_bytes-2.result c.three_bytes.ensures.0 c.three_bytes-2.ensures.0 in
    taken_from s a.i _ number _ refl refl refl
