-- Laws of what a test lets count.
use mathlib.Core.Path.{◌≡◌, refl}
use mathlib.Core.Bool.{Bool, true, false}
use Prim.Native.Nat.{ℕ, ◌+◌, ◌≤◌, ◌<◌}
use native.Mathlib.Omega.{arith}
use Rattle.laws.specs.Sums.{only}

pub only_true : (b : Bool) (x : ℕ) → b ≡ true → only b x ≡ x
only_true b x e = rw e

pub only_false : (b : Bool) (x : ℕ) → b ≡ false → only b x ≡ 0
only_false b x e = rw e

pub only_none : (b : Bool) → only b 0 ≡ 0
only_none true = refl
only_none false = refl

pub only_add : (b : Bool) (x y : ℕ) → only b (x + y) ≡ only b x + only b y
only_add true x y = refl
only_add false x y = refl

pub only_mono : (b : Bool) {x y : ℕ} → x ≤ y → only b x ≤ only b y
only_mono true h = h
only_mono false h = omega arith

pub only_le : (b : Bool) (x : ℕ) → only b x ≤ x
only_le true x = omega arith
only_le false x = omega arith

pub only_same : (b : Bool) (x y : ℕ) → (b ≡ true → x ≡ y) → only b x ≡ only b y
only_same true x y h = h refl
only_same false x y h = refl

-- what counts for something passed the test
pub only_some : (b : Bool) (x : ℕ) → 0 < only b x → (b ≡ true) × (0 < x)
only_some true x h = (refl, h)
only_some false x h = absurd (omega arith)
