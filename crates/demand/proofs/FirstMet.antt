-- What `first_met` answers, and what its answer says.
use Rattle.std.specs.Prelude.{Some, None, Option}
use mathlib.Core.Path.{◌≡◌, ap, subst}
use Prim.Native.Nat.{ℕ, ◌≤◌}
use native.Mathlib.Omega.{arith}
use native.Mathlib.Decide.{dec_lt}
use lib.Dec.{leb}
use borrow.Author.Tests.{le-leb, lt-leb, leb-true, leb-false}
use Rattle.model.specs.Limits.{horizon}
use Rattle.search.specs.Smallest.{Answers}
use Rattle.search.proofs.Smallest.{smallest_at, smallest_none, smallest_is, smallest_same}
use Rattle.demand.specs.Test.{first_met}
use Rattle.demand.specs.Meaning.{FirstMetAt, NeverMet}

-- what an answer says
abbrev pub Says : (ℕ → ℕ) → ℕ → Option ℕ → Type 0
Says asked least (Some t) = FirstMetAt asked least t
Says asked least None = NeverMet asked least

module _ (asked : ℕ → ℕ) (least : ℕ) where
  pub met_at : (t : ℕ) → FirstMetAt asked least t → first_met asked least ≡ Some t
  unfolding first_met
  met_at t is =
      smallest_at (λ s. leb (asked s) s) least horizon t is.from is.upto (le-leb _ _ is.met) (λ s a b. lt-leb _ _ (is.earlier s a b))

  pub met_never : NeverMet asked least → first_met asked least ≡ None
  unfolding first_met
  met_never never = smallest_none (λ s. leb (asked s) s) least horizon (λ s a b. lt-leb _ _ (never s a b))

  told : (f : Option ℕ) → Answers (λ t. leb (asked t) t) least horizon f → Says asked least f
  told (Some t) a =
      record { from = a.from; upto = a.upto; met = leb-true _ _ a.holds; earlier = λ s x y. leb-false _ _ (a.below s x y) }
  told None a = λ s x y. leb-false _ _ (a s x y)

  pub met_says : least ≤ horizon → (f : Option ℕ) → first_met asked least ≡ f → Says asked least f
  unfolding first_met
  met_says le f e = told f (subst (λ (x : Option ℕ). Answers (λ t. leb (asked t) t) least horizon x) e (smallest_is _ least horizon (omega arith)))

  -- one answer only
  pub met_one : (s t : ℕ) → FirstMetAt asked least s → FirstMetAt asked least t → s ≡ t
  met_one s t a b = elim (dec_lt s t) [
    | yes l ↦ absurd (omega (arith, b.earlier s a.from l, a.met))
    | no g ↦ elim (dec_lt t s) [
      | yes l ↦ absurd (omega (arith, a.earlier t b.from l, b.met))
      | no h ↦ omega arith
    ]
  ]

-- what is asked alike from least on is met alike
pub met_same : (f g : ℕ → ℕ) (least : ℕ) → ((t : ℕ) → least ≤ t → f t ≡ g t) → first_met f least ≡ first_met g least
unfolding first_met
met_same f g least same = smallest_same _ _ least horizon (λ s a. ap (λ (x : ℕ). leb x s) (same s a))
