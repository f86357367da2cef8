-- Laws of the first records by rank.
use Prim.Native.Nat.{ℕ, zero, suc, ◌+◌, ◌<◌}
use mathlib.Core.Path.{◌≡◌, refl, sym, ap, ◌∙◌}
use mathlib.Core.Bool.{Bool, true, false}
use mathlib.Core.List.{List}
use native.Mathlib.Decide.{ℕ_discrete}
use native.Mathlib.Numerals.{add-one}
use native.Mathlib.Omega.{arith}
use lib.Dec.{eqb}
use lib.ListN.{length, get_or, set, length-set, length-replicate}
use lib.Seq.{get_or-set_same, get_or-set_other}
use borrow.Author.Tests.{eq-eqb, ne_eqb, eqb-true}
use Rattle.laws.specs.Choice.{pick}
use Rattle.model.specs.Limits.{most_tasks}
use Rattle.course.specs.Ahead.{heads_of}

module _ (first homes ranks : List ℕ) (p : ℕ) where
  -- a member of the partition puts its first record at its rank, another task changes nothing
  pub heads_here : (k : ℕ) → get_or homes k 0 ≡ p → heads_of first homes ranks p (k + 1) ≡ set (heads_of first homes ranks p k) (get_or ranks k 0) (get_or first k 0)
  unfolding heads_of
  heads_here k own = rw (add-one, eq-eqb (get_or homes k 0) p own)

  pub heads_elsewhere : (k : ℕ) → (get_or homes k 0 ≡ p → ⊥) → heads_of first homes ranks p (k + 1) ≡ heads_of first homes ranks p k
  unfolding heads_of
  heads_elsewhere k other = rw (add-one, ne_eqb (get_or homes k 0) p other)

  pub length_heads : (k : ℕ) → length (heads_of first homes ranks p k) ≡ most_tasks
  unfolding heads_of
  length_heads zero = length-replicate {A = ℕ} most_tasks 0
  length_heads (suc k) = go (eqb (get_or homes k 0) p) (length_heads k)
    where
      go : (b : Bool) → length (heads_of first homes ranks p k) ≡ most_tasks → length (pick b (set (heads_of first homes ranks p k) (get_or ranks k 0) (get_or first k 0)) (heads_of first homes ranks p k)) ≡ most_tasks
      go true e = length-set (heads_of first homes ranks p k) (get_or ranks k 0) (get_or first k 0) ∙ e
      go false e = e

  -- each member's first record stands at its rank, where no two members share one
  pub heads_at : (n : ℕ) → ((x : ℕ) → x < n → get_or ranks x 0 < most_tasks)
      → ((x y : ℕ) → x < n → y < n → get_or homes x 0 ≡ p → get_or homes y 0 ≡ p → get_or ranks x 0 ≡ get_or ranks y 0 → x ≡ y)
      → (k : ℕ) → k < n → get_or homes k 0 ≡ p → get_or (heads_of first homes ranks p n) (get_or ranks k 0) 0 ≡ get_or first k 0
  unfolding heads_of
  heads_at zero few apart k below home = absurd (omega arith)
  heads_at (suc n) few apart k below home =
      go (eqb (get_or homes n 0) p) refl (ℕ_discrete k n) (λ (l : k < n). heads_at n (λ x l. few x (omega arith)) (λ x y a b. apart x y (omega arith) (omega arith)) k l home)
    where
      go : (b : Bool) → eqb (get_or homes n 0) p ≡ b → Dec (k ≡ n) → (k < n → get_or (heads_of first homes ranks p n) (get_or ranks k 0) 0 ≡ get_or first k 0)
          → get_or (pick b (set (heads_of first homes ranks p n) (get_or ranks n 0) (get_or first n 0)) (heads_of first homes ranks p n)) (get_or ranks k 0) 0 ≡ get_or first k 0
      go true e (yes q) ih = rw q (get_or-set_same (heads_of first homes ranks p n) (get_or ranks n 0) (get_or first n 0) 0 (rw (length_heads n) (few n (omega arith))))
      go true e (no q) ih =
          get_or-set_other (heads_of first homes ranks p n) (get_or ranks n 0) (get_or ranks k 0) (get_or first n 0) 0 (λ same. q (apart k n (omega arith) (omega arith) home (eqb-true _ _ e) same)) ∙ ih (omega (arith, q))
      go false e (yes q) ih = let z : ◌≡◌ {A = Bool} true false = sym (eq-eqb (get_or homes n 0) p (ap (λ (x : ℕ). get_or homes x 0) (sym q) ∙ home)) ∙ e in (let y : ◌≡◌ {A = ℕ} 0 1 = cc z in absurd (omega arith))
      go false e (no q) ih = ih (omega (arith, q))
