-- Division grows with what is divided.
use Prim.Native.Nat.{ℕ, ◌/◌, ◌≤◌, ◌<◌}
use native.Mathlib.Nat.{le-div_iff_mul-le, div-mul-le_self, le_trans}

pub div_mono : {a b : ℕ} (k : ℕ) → 0 < k → a ≤ b → a / k ≤ b / k
div_mono {a} {b} k pos h = (le-div_iff_mul-le pos).1 (le_trans (div-mul-le_self a k) h)
