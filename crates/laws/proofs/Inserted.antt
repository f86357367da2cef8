-- Laws of one more put in, and of sums cut in two.
use mathlib.Core.Path.{◌≡◌, refl, ap, ◌∙◌}
use Prim.Native.Nat.{ℕ, zero, suc, ◌+◌, ◌-◌, ◌≤◌, ◌<◌}
use native.Mathlib.Nat.{add-zero, add-suc}
use native.Mathlib.Omega.{arith}
use borrow.Author.Tests.{lt-ltb, le-ltb, eq-eqb, ne_eqb}
use Rattle.laws.specs.Joined.{inserted_at}
use Rattle.laws.specs.Sums.{sum}
use Rattle.laws.proofs.Sums.{sum_same, sum_zero}

module _ {A : Type 0} (p : ℕ) (x : A) (f : ℕ → A) where
  pub inserted_before : (r : ℕ) → r < p → inserted_at p x f r ≡ f r
  inserted_before r l = rw (lt-ltb r p l) refl

  pub inserted_here : inserted_at p x f p ≡ x
  inserted_here = (let h : p ≤ p = omega arith in rw (le-ltb _ _ h, eq-eqb p p refl) refl)

  pub inserted_after : (r : ℕ) → p < r → inserted_at p x f r ≡ f (r - 1)
  inserted_after r l = (let h : p ≤ r = omega arith in rw (le-ltb _ _ h, ne_eqb r p (λ e. omega (arith, e))) refl)

-- a sum cut in two
pub sum_split : (f : ℕ → ℕ) (a b : ℕ) → sum f (a + b) ≡ sum f a + sum (λ r. f (a + r)) b
unfolding sum
sum_split f a zero = rw add-zero (omega arith)
sum_split f a (suc b) = rw (add-suc, sum_split f a b) (omega arith)

-- the first of a sum, then the others
pub sum_first : (f : ℕ → ℕ) (n : ℕ) → sum f (suc n) ≡ f 0 + sum (λ r. f (suc r)) n
unfolding sum
sum_first f zero = omega arith
sum_first f (suc n) = omega (arith, sum_first f n)

-- nothing counts past the front
pub sum_front : (f : ℕ → ℕ) (a n : ℕ) → a ≤ n → ((r : ℕ) → a ≤ r → r < n → f r ≡ 0) → sum f n ≡ sum f a
sum_front f a n le none =
    let e : n ≡ a + (n - a) = omega arith in
    ap (sum f) e ∙ sum_split f a (n - a) ∙ omega (arith, sum_zero (λ r. f (a + r)) (n - a) (λ r l. none (a + r) (omega arith) (omega arith)))

-- a sum with one more put in
pub sum_inserted : (p x : ℕ) (f : ℕ → ℕ) (n : ℕ) → p ≤ n → sum (inserted_at p x f) (n + 1) ≡ x + sum f n
sum_inserted p x f n le =
    let g = inserted_at p x f in
    let whole : n + 1 ≡ p + suc (n - p) = omega arith in
    let less : n ≡ p + (n - p) = omega arith in
    let front : sum g p ≡ sum f p = sum_same g f p (λ r l. inserted_before p x f r l) in
    let first : g (p + 0) ≡ x = ap g (add-zero p) ∙ inserted_here p x f in
    let behind : sum (λ r. g (p + suc r)) (n - p) ≡ sum (λ r. f (p + r)) (n - p) =
    sum_same _ _ (n - p) (λ r l. inserted_after p x f (p + suc r) (omega arith) ∙ ap f (omega arith)) in
    let cut : sum g (n + 1) ≡ sum g p + sum (λ r. g (p + r)) (suc (n - p)) = ap (sum g) whole ∙ sum_split g p (suc (n - p)) in
    let rest : sum f n ≡ sum f p + sum (λ r. f (p + r)) (n - p) = ap (sum f) less ∙ sum_split f p (n - p) in
    omega (arith, cut, rest, front, first, behind, sum_first (λ r. g (p + r)) (n - p))
