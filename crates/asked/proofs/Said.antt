-- What the search's answer says.
use Rattle.std.specs.Prelude.{Some, None, Option}
use mathlib.Core.Path.{◌≡◌, subst}
use Prim.Native.Nat.{ℕ, ◌+◌, ◌≤◌}
use native.Mathlib.Omega.{arith}
use lib.Dec.{leb}
use borrow.Author.Tests.{leb-true, leb-false}
use Rattle.search.specs.Smallest.{Answers}
use Rattle.search.proofs.Smallest.{smallest_is}
use Rattle.asked.specs.Met.{met_by, UnmetBelow}

module _ (work : ℕ → ℕ) (base limit : ℕ) where
  -- it is met at w, and nowhere before
  pub record MetAt (w : ℕ) : Type 0 where
    pub upto : w ≤ limit
    pub met : base + work w ≤ w + 1
    pub unmet : UnmetBelow work base w

  abbrev pub Says : Option ℕ → Type 0
  Says (Some w) = MetAt w
  Says None = UnmetBelow work base (limit + 1)

  told : (f : Option ℕ) → Answers (λ w. leb (base + work w) (w + 1)) 0 limit f → Says f
  told (Some w) a = record { upto = a.upto; met = leb-true _ _ a.holds; unmet = λ s l. leb-false _ _ (a.below s (omega arith) l) }
  told None a = λ s l. leb-false _ _ (a s (omega arith) (omega arith))

  pub met_says : (f : Option ℕ) → met_by work base limit ≡ f → Says f
  unfolding met_by
  met_says f e = told f (subst (λ (x : Option ℕ). Answers (λ w. leb (base + work w) (w + 1)) 0 limit x) e (smallest_is _ 0 limit (omega arith)))
