-- Laws of `smallest`: what it answers, from what is known of the test, and what its answer says.
use Rattle.std.specs.Prelude.{Option, Some, None}
use mathlib.Core.Path.{◌≡◌, refl, sym, ap, ◌∙◌, subst}
use mathlib.Core.Bool.{Bool, true, false}
use mathlib.Core.Logic.{⊎_elim}
use Prim.Native.Nat.{ℕ, zero, suc, ◌+◌, ◌-◌, ◌≤◌, ◌<◌}
use native.Mathlib.Nat.{eq-or-lt_of_le}
use native.Mathlib.Omega.{arith}
use Rattle.search.specs.Smallest.{first_of, smallest, Answers}

module _ (p : ℕ → Bool) where
  here : (lo k : ℕ) → p lo ≡ true → first_of p lo (suc k) ≡ Some lo
  unfolding first_of
  here lo k h = rw (h, first_of)

  next : (lo k : ℕ) → p lo ≡ false → first_of p lo (suc k) ≡ first_of p (suc lo) k
  unfolding first_of
  next lo k h = rw (h, first_of)

  first_at : (k lo t : ℕ) → lo ≤ t → t < lo + k → p t ≡ true → ((s : ℕ) → lo ≤ s → s < t → p s ≡ false) → first_of p lo k ≡ Some t
  first_at zero lo t a b h below = absurd (omega arith)
  first_at (suc k) lo t a b h below =
      ⊎_elim
      (λ e. here lo k (subst (λ (x : ℕ). p x ≡ true) (sym e) h) ∙ ap Some e)
      (λ l. next lo k (below lo (omega arith) l) ∙ first_at k (suc lo) t l (omega arith) h (λ s x y. below s (omega arith) y))
      (eq-or-lt_of_le a)

  first_none : (k lo : ℕ) → ((s : ℕ) → lo ≤ s → s < lo + k → p s ≡ false) → first_of p lo k ≡ None
  unfolding first_of
  first_none zero lo below = refl
  first_none (suc k) lo below =
      next lo k (below lo (omega arith) (omega arith))
      ∙ first_none k (suc lo) (λ s x y. below s (omega arith) (omega arith))

  -- what `smallest` is, from what the search has seen
  pub smallest_at : (lo hi t : ℕ) → lo ≤ t → t ≤ hi → p t ≡ true → ((s : ℕ) → lo ≤ s → s < t → p s ≡ false) → smallest p lo hi ≡ Some t
  unfolding smallest
  smallest_at lo hi t a b h below = first_at (suc hi - lo) lo t a (omega arith) h below

  pub smallest_none : (lo hi : ℕ) → ((s : ℕ) → lo ≤ s → s ≤ hi → p s ≡ false) → smallest p lo hi ≡ None
  unfolding smallest
  smallest_none lo hi below = first_none (suc hi - lo) lo (λ s x y. below s x (omega arith))

  wider : (lo hi : ℕ) (f : Option ℕ) → p lo ≡ false → Answers p (suc lo) hi f → Answers p lo hi f
  wider lo hi (Some t) miss r =
      record {
        from = omega (arith, r.from);
        upto = r.upto;
        holds = r.holds;
        below = λ s a b. ⊎_elim (λ e. subst (λ (x : ℕ). p x ≡ false) e miss) (λ l. r.below s l b) (eq-or-lt_of_le a);
      }
  wider lo hi None miss r = λ s a b. ⊎_elim (λ e. subst (λ (x : ℕ). p x ≡ false) e miss) (λ l. r s l b) (eq-or-lt_of_le a)

  first_is : (k lo hi : ℕ) → suc hi ≡ lo + k → Answers p lo hi (first_of p lo k)
  unfolding first_of
  first_is zero lo hi e = λ s a b. absurd (omega arith)
  first_is (suc k) lo hi e = go (first_is k (suc lo) hi (omega arith)) (p lo) refl
    where
      go : Answers p (suc lo) hi (first_of p (suc lo) k) → (b : Bool) → p lo ≡ b → Answers p lo hi (elim b [ true ↦ Some lo | false ↦ first_of p (suc lo) k ])
      go r true h = record { from = omega arith; upto = omega arith; holds = h; below = λ s x y. absurd (omega arith) }
      go r false h = wider lo hi (first_of p (suc lo) k) h r

  pub smallest_is : (lo hi : ℕ) → lo ≤ suc hi → Answers p lo hi (smallest p lo hi)
  unfolding smallest
  smallest_is lo hi le = first_is (suc hi - lo) lo hi (omega arith)

-- two tests that agree from lo on find the same
module _ (p r : ℕ → Bool) where
  first_same : (k lo : ℕ) → ((s : ℕ) → lo ≤ s → p s ≡ r s) → first_of p lo k ≡ first_of r lo k
  unfolding first_of
  first_same zero lo h = refl
  first_same (suc k) lo h = go (first_same k (suc lo) (λ s a. h s (omega arith))) (p lo) refl
    where
      go : first_of p (suc lo) k ≡ first_of r (suc lo) k → (b : Bool) → p lo ≡ b → first_of p lo (suc k) ≡ first_of r lo (suc k)
      go e true q = here p lo k q ∙ sym (here r lo k (sym (h lo (omega arith)) ∙ q))
      go e false q = next p lo k q ∙ (e ∙ sym (next r lo k (sym (h lo (omega arith)) ∙ q)))

  pub smallest_same : (lo hi : ℕ) → ((s : ℕ) → lo ≤ s → p s ≡ r s) → smallest p lo hi ≡ smallest r lo hi
  unfolding smallest
  smallest_same lo hi h = first_same (suc hi - lo) lo h
