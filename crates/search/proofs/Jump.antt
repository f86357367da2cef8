-- The jumping search for the smallest t with f t ≤ t, where f is monotone: from t on to f t.
use Rattle.std.specs.Prelude.{Some, None}
use mathlib.Core.Path.{◌≡◌}
use Prim.Native.Nat.{ℕ, ◌≤◌, ◌<◌}
use lib.Dec.{leb}
use native.Mathlib.Decide.{dec_le}
use native.Mathlib.Omega.{arith}
use borrow.Author.Tests.{le-leb, lt-leb}
use Rattle.search.specs.Smallest.{smallest}
use Rattle.search.proofs.Smallest.{smallest_at, smallest_none}

module _ (f : ℕ → ℕ) (lo : ℕ) where
  -- nothing from lo to below t is a stop
  abbrev pub Under : ℕ → Type 0
  Under t = (s : ℕ) → lo ≤ s → s < t → s < f s

  pub jump : ((a b : ℕ) → lo ≤ a → a ≤ b → f a ≤ f b) → (t : ℕ) → lo ≤ t → Under t → Under (f t)
  jump mono t from under s a l = elim (dec_le t s) [ yes le ↦ (let m = mono t s from le in omega arith) | no gt ↦ under s a (omega arith) ]

  pub stop_at : (hi t : ℕ) → lo ≤ t → t ≤ hi → Under t → f t ≤ t → smallest (λ s. leb (f s) s) lo hi ≡ Some t
  stop_at hi t a b under h = smallest_at _ lo hi t a b (le-leb _ _ h) (λ s x y. lt-leb _ _ (under s x y))

  pub stop_none : (hi t : ℕ) → hi < t → Under t → smallest (λ s. leb (f s) s) lo hi ≡ None
  stop_none hi t h under = smallest_none _ lo hi (λ s x y. lt-leb _ _ (under s x (omega arith)))
