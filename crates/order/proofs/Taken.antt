-- Why the order's records meet.
use mathlib.Core.Path.{refl}
use native.Mathlib.Omega.{arith}
use Rattle.order.specs.Taken.{FrontToBack}

pub front_to_back : FrontToBack
front_to_back i = (refl, omega arith)
