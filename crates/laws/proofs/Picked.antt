-- Laws of sums over what a test picks, and of sums that are bounded or scaled part by part.
use mathlib.Core.Path.{◌≡◌, refl, subst}
use mathlib.Core.Bool.{Bool, false, ◌||◌}
use mathlib.Core.Logic.{⊎_elim}
use Prim.Native.Nat.{ℕ, zero, suc, ◌+◌, ◌*◌, ◌≤◌, ◌<◌}
use native.Mathlib.Nat.{eq-or-lt_of_le, le_of_suc-le-suc, suc-mul, mul-zero, mul-add}
use native.Mathlib.Omega.{arith}
use lib.Dec.{eqb}
use borrow.Author.Tests.{eq-eqb, ne_eqb}
use Rattle.laws.specs.Sums.{only, sum}
use Rattle.laws.proofs.Sums.{sum_same}

-- n parts of at most k each
pub sum_most : (f : ℕ → ℕ) (k n : ℕ) → ((j : ℕ) → j < n → f j ≤ k) → sum f n ≤ n * k
unfolding sum
sum_most f k zero h = omega arith
sum_most f k (suc n) h = omega (arith, sum_most f k n (λ j l. h j (omega arith)), h n (omega arith), suc-mul n k)

pub sum_scale : (f g : ℕ → ℕ) (a b n : ℕ) → ((j : ℕ) → j < n → a * f j ≤ b * g j) → a * sum f n ≤ b * sum g n
unfolding sum
sum_scale f g a b zero h = omega (arith, mul-zero a)
sum_scale f g a b (suc n) h =
    omega (
      arith,
      sum_scale f g a b n (λ j l. h j (omega arith)),
      h n (omega arith),
      mul-add a (sum f n) (f n),
      mul-add b (sum g n) (g n),
    )

-- a sum over i and what the test picks, where it does not pick i
module _ (test : ℕ → Bool) (f : ℕ → ℕ) (i : ℕ) (apart : test i ≡ false) where
  other : (j : ℕ) → (j ≡ i → ⊥) → only (eqb j i || test j) (f j) ≡ only (test j) (f j)
  other j ne = rw (ne_eqb j i ne)

  self : only (eqb i i || test i) (f i) ≡ f i
  self = rw (eq-eqb i i refl)

  gone : only (test i) (f i) ≡ 0
  gone = rw apart

  pub sum_with : (n : ℕ) → i < n → sum (λ j. only (eqb j i || test j) (f j)) n ≡ f i + sum (λ j. only (test j) (f j)) n
  unfolding sum
  sum_with zero below = absurd (omega arith)
  sum_with (suc n) below =
      ⊎_elim
      (λ e.
      (let earlier = sum_same (λ j. only (eqb j i || test j) (f j)) (λ j. only (test j) (f j)) n (λ j l. other j (λ z. omega arith)) in
      let here : only (eqb n i || test n) (f n) ≡ f i = subst (λ (x : ℕ). only (eqb x i || test x) (f x) ≡ f i) e self in
      let none : only (test n) (f n) ≡ 0 = subst (λ (x : ℕ). only (test x) (f x) ≡ 0) e gone in
      omega arith))
      (λ l. omega (arith, sum_with n l, other n (λ z. omega arith)))
      (eq-or-lt_of_le (le_of_suc-le-suc below))
