-- Laws of the first of k numbers from 0 that passes.
use Rattle.std.specs.Prelude.{Option, Some, None}
use mathlib.Core.Path.{◌≡◌, refl, sym, ap, ◌∙◌, subst}
use mathlib.Core.Bool.{Bool, true, false}
use Prim.Native.Nat.{ℕ, zero, suc, ◌<◌}
use native.Mathlib.Omega.{arith}
use Rattle.search.specs.Smallest.{first_of, smallest, Answers}
use Rattle.search.proofs.Smallest.{smallest_at, smallest_none, smallest_is}

-- what it is to be that number
pub record IsFirst (passes : ℕ → Bool) (k t : ℕ) : Type 0 where
  pub below : t < k
  pub holds : passes t ≡ true
  pub earlier : (s : ℕ) → s < t → passes s ≡ false

-- what the answer says
abbrev pub Firstly : (ℕ → Bool) → ℕ → Option ℕ → Type 0
Firstly passes k (Some t) = IsFirst passes k t
Firstly passes k None = (s : ℕ) → s < k → passes s ≡ false

module _ (passes : ℕ → Bool) where
  as_smallest : (k : ℕ) → smallest passes 0 k ≡ first_of passes 0 (suc k)
  unfolding smallest
  as_smallest k = ap (first_of passes 0) (omega arith)

  pub first_found : (k t : ℕ) → IsFirst passes k t → first_of passes 0 k ≡ Some t
  first_found zero t is = absurd (omega (arith, is.below))
  first_found (suc k) t is =
      sym (as_smallest k)
      ∙ smallest_at passes 0 k t (omega arith) (omega (arith, is.below)) is.holds (λ s a b. is.earlier s b)

  pub first_missing : (k : ℕ) → ((s : ℕ) → s < k → passes s ≡ false) → first_of passes 0 k ≡ None
  unfolding first_of
  first_missing zero none = refl
  first_missing (suc k) none = sym (as_smallest k) ∙ smallest_none passes 0 k (λ s a b. none s (omega arith))

  from_answer : (k : ℕ) (f : Option ℕ) → Answers passes 0 k f → Firstly passes (suc k) f
  from_answer k (Some t) a = record { below = omega (arith, a.upto); holds = a.holds; earlier = λ s l. a.below s (omega arith) l }
  from_answer k None a = λ s l. a s (omega arith) (omega arith)

  pub first_says : (k : ℕ) → Firstly passes k (first_of passes 0 k)
  unfolding first_of
  first_says zero = λ s l. absurd (omega arith)
  first_says (suc k) =
      subst (Firstly passes (suc k)) (as_smallest k) (from_answer k (smallest passes 0 k) (smallest_is passes 0 k (omega arith)))
