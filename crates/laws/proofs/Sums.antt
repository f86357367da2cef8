-- Laws of sums, of the largest and of the least, by number.
use mathlib.Core.Path.{◌≡◌, refl, ap}
use mathlib.Core.Logic.{⊎_elim}
use Prim.Native.Nat.{ℕ, zero, suc, ◌+◌, ◌≤◌, ◌<◌, min, max}
use native.Mathlib.Nat.{eq-or-lt_of_le}
use native.Mathlib.Numerals.{add-one}
use native.Mathlib.Decide.{dec_le}
use native.Mathlib.Omega.{arith}
use Rattle.laws.specs.Sums.{sum, largest, least}

pub sum_none : (f : ℕ → ℕ) → sum f 0 ≡ 0
unfolding sum
sum_none f = refl

pub sum_suc : (f : ℕ → ℕ) (n : ℕ) → sum f (suc n) ≡ sum f n + f n
unfolding sum
sum_suc f n = refl

pub sum_more : (f : ℕ → ℕ) (n : ℕ) → sum f (n + 1) ≡ sum f n + f n
unfolding sum
sum_more f n = rw add-one

pub sum_le : (f g : ℕ → ℕ) (n : ℕ) → ((j : ℕ) → j < n → f j ≤ g j) → sum f n ≤ sum g n
unfolding sum
sum_le f g zero h = omega arith
sum_le f g (suc n) h = omega (arith, sum_le f g n (λ j l. h j (omega arith)), h n (omega arith))

pub sum_same : (f g : ℕ → ℕ) (n : ℕ) → ((j : ℕ) → j < n → f j ≡ g j) → sum f n ≡ sum g n
unfolding sum
sum_same f g zero h = refl
sum_same f g (suc n) h = rw (sum_same f g n (λ j l. h j (omega arith)), h n (omega arith))

pub sum_add : (f g : ℕ → ℕ) (n : ℕ) → sum (λ j. f j + g j) n ≡ sum f n + sum g n
unfolding sum
sum_add f g zero = refl
sum_add f g (suc n) = omega (arith, sum_add f g n)

pub sum_zero : (f : ℕ → ℕ) (n : ℕ) → ((j : ℕ) → j < n → f j ≡ 0) → sum f n ≡ 0
unfolding sum
sum_zero f zero h = refl
sum_zero f (suc n) h = omega (arith, sum_zero f n (λ j l. h j (omega arith)), h n (omega arith))

-- one part is at most the sum
pub sum_in : (f : ℕ → ℕ) (n j : ℕ) → j < n → f j ≤ sum f n
unfolding sum
sum_in f zero j l = absurd (omega arith)
sum_in f (suc n) j l = ⊎_elim (λ e. omega (arith, ap f e)) (λ m. omega (arith, sum_in f n j m)) (eq-or-lt_of_le {n = j} {m = n} (omega arith))

-- a sum over 0 has a part over 0
pub sum_some : (f : ℕ → ℕ) (n : ℕ) → 0 < sum f n → (j : ℕ) × (j < n) × (0 < f j)
unfolding sum
sum_some f zero h = absurd (omega arith)
sum_some f (suc n) h = go (λ (p : 0 < sum f n). sum_some f n p) (f n) refl
  where
    go : (0 < sum f n → (j : ℕ) × (j < n) × (0 < f j)) → (x : ℕ) → f n ≡ x → (j : ℕ) × (j < suc n) × (0 < f j)
    go ih zero e = let r = ih (omega arith) in (r.0, omega (arith, r.1), r.2)
    go ih (suc x) e = (n, omega arith, omega arith)

pub largest_none : (f : ℕ → ℕ) → largest f 0 ≡ 0
unfolding largest
largest_none f = refl

pub largest_more : (f : ℕ → ℕ) (n : ℕ) → largest f (n + 1) ≡ max (largest f n) (f n)
unfolding largest
largest_more f n = rw add-one

pub largest_in : (f : ℕ → ℕ) (n j : ℕ) → j < n → f j ≤ largest f n
unfolding largest
largest_in f zero j l = absurd (omega arith)
largest_in f (suc n) j l = ⊎_elim (λ e. omega (arith, ap f e)) (λ m. omega (arith, largest_in f n j m)) (eq-or-lt_of_le {n = j} {m = n} (omega arith))

pub largest_le : (f : ℕ → ℕ) (n m : ℕ) → ((j : ℕ) → j < n → f j ≤ m) → largest f n ≤ m
unfolding largest
largest_le f zero m h = omega arith
largest_le f (suc n) m h = omega (arith, largest_le f n m (λ j l. h j (omega arith)), h n (omega arith))

pub largest_same : (f g : ℕ → ℕ) (n : ℕ) → ((j : ℕ) → j < n → f j ≡ g j) → largest f n ≡ largest g n
unfolding largest
largest_same f g zero same = refl
largest_same f g (suc n) same = rw (largest_same f g n (λ j l. same j (omega arith)), same n (omega arith))

-- what the largest reaches, one of them does
pub largest_reaches : (f : ℕ → ℕ) (n m : ℕ) → 0 < m → m ≤ largest f n → (j : ℕ) × (j < n) × (m ≤ f j)
unfolding largest
largest_reaches f zero m some le = absurd (omega arith)
largest_reaches f (suc n) m some le = elim (dec_le m (f n)) [
  | yes here ↦ (n, omega arith, here)
  | no not_here ↦ (let r = largest_reaches f n m some (omega arith) in (r.0, omega (arith, r.1), r.2))
]

pub least_none : (bound : ℕ) (f : ℕ → ℕ) → least bound f 0 ≡ bound
unfolding least
least_none bound f = refl

pub least_more : (bound : ℕ) (f : ℕ → ℕ) (n : ℕ) → least bound f (n + 1) ≡ min (least bound f n) (f n)
unfolding least
least_more bound f n = rw add-one

pub least_in : (bound : ℕ) (f : ℕ → ℕ) (n j : ℕ) → j < n → least bound f n ≤ f j
unfolding least
least_in bound f zero j l = absurd (omega arith)
least_in bound f (suc n) j l = ⊎_elim (λ e. omega (arith, ap f e)) (λ m. omega (arith, least_in bound f n j m)) (eq-or-lt_of_le {n = j} {m = n} (omega arith))

pub least_same : (bound : ℕ) (f g : ℕ → ℕ) (n : ℕ) → ((j : ℕ) → j < n → f j ≡ g j) → least bound f n ≡ least bound g n
unfolding least
least_same bound f g zero same = refl
least_same bound f g (suc n) same = rw (least_same bound f g n (λ j l. same j (omega arith)), same n (omega arith))

pub least_above : (bound : ℕ) (f : ℕ → ℕ) (n m : ℕ) → m < bound → ((j : ℕ) → j < n → m < f j) → m < least bound f n
unfolding least
least_above bound f zero m b h = b
least_above bound f (suc n) m b h = omega (arith, least_above bound f n m b (λ j l. h j (omega arith)), h n (omega arith))
