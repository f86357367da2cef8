-- A scan for the first that does not pass.
use mathlib.Core.Path.{◌≡◌, ap}
use mathlib.Core.Bool.{Bool, true, false}
use Prim.Native.Nat.{ℕ, ◌+◌, ◌-◌, ◌≤◌, ◌<◌}
use native.Mathlib.Omega.{arith}
use Rattle.roster.specs.Keys.{run_from}
use Rattle.roster.proofs.Runs.{run_none, run_on, run_ends}

module _ (passes : ℕ → Bool) (n : ℕ) where
  -- those before i pass
  abbrev pub Looked : ℕ → Type 0
  Looked i = (i ≤ n) × (run_from passes 0 n ≡ i + run_from passes i (n - i))

  pub looked_none : Looked 0
  looked_none = let e : n - 0 ≡ n = omega arith in (omega arith, omega (arith, ap (run_from passes 0) e))

  pub looked_more : (i : ℕ) → i < n → passes i ≡ true → Looked i → Looked (i + 1)
  looked_more i l p is =
      let e : n - i - 1 ≡ n - (i + 1) = omega arith in
      (omega arith, omega (arith, is.1, run_on passes i (n - i) (omega arith) p, ap (run_from passes (i + 1)) e))

  pub looked_stop : (i : ℕ) → i < n → passes i ≡ false → Looked i → i ≡ run_from passes 0 n
  looked_stop i l p is = omega (arith, is.1, run_ends passes i (n - i) (omega arith) p)

  pub looked_all : (i : ℕ) → n ≤ i → Looked i → i ≡ run_from passes 0 n
  looked_all i l is = let e : n - i ≡ 0 = omega arith in omega (arith, is.1, ap (run_from passes i) e, run_none passes i)
