-- How a sum grows with its bound.
use mathlib.Core.Path.{◌≡◌}
use Prim.Native.Nat.{ℕ, zero, suc, ◌+◌, ◌-◌, ◌≤◌, ◌<◌}
use native.Mathlib.Nat.{add-suc, add-zero}
use native.Mathlib.Decide.{dec_lt}
use native.Mathlib.Omega.{arith}
use Rattle.laws.specs.Sums.{sum}
use Rattle.laws.proofs.Sums.{sum_none, sum_suc}

pub sum_further : (f : ℕ → ℕ) (t x : ℕ) → sum f (t + suc x) ≡ sum f (t + x) + f (t + x)
sum_further f t x = rw add-suc (sum_suc f (t + x))

grows_by : (f : ℕ → ℕ) (t x : ℕ) → sum f t ≤ sum f (t + x)
grows_by f t zero = rw add-zero (omega arith)
grows_by f t (suc x) = omega (arith, sum_further f t x, grows_by f t x)

pub sum_grows : (f : ℕ → ℕ) (t u : ℕ) → t ≤ u → sum f t ≤ sum f u
sum_grows f t u h = let e : t + (u - t) ≡ u = omega arith in rw e at (grows_by f t (u - t))

-- a sum of parts of at most 1 passes through every number that it exceeds later
pub sum_crosses : (f : ℕ → ℕ) → ((t : ℕ) → f t ≤ 1) → (n c : ℕ) → c < sum f n → (s : ℕ) × (s < n) × (sum f s ≡ c) × (f s ≡ 1)
sum_crosses f one zero c h = absurd (omega (arith, sum_none f))
sum_crosses f one (suc n) c h = go (λ (p : c < sum f n). sum_crosses f one n c p) (dec_lt c (sum f n))
  where
    go : (c < sum f n → (s : ℕ) × (s < n) × (sum f s ≡ c) × (f s ≡ 1)) → Dec (c < sum f n) → (s : ℕ) × (s < suc n) × (sum f s ≡ c) × (f s ≡ 1)
    go ih (yes p) = let r = ih p in (r.0, omega (arith, r.1), r.2, r.3)
    go ih (no p) = (n, omega arith, omega (arith, sum_suc f n, one n), omega (arith, sum_suc f n, one n))
