-- Laws of a list whose front is written over.
use mathlib.Core.Path.{◌≡◌, refl, ap, ◌∙◌}
use mathlib.Core.List.{List, [], ◌∷◌, ◌++◌}
use Prim.Native.Nat.{ℕ, suc, ◌+◌, ◌-◌, ◌≤◌, ◌<◌}
use native.Mathlib.Numerals.{add-one}
use native.Mathlib.Omega.{arith}
use lib.ListN.{length, get_or, set, drop, length-append, length-drop, get_or-append}
use lib.Seq.{set_at, append_snoc, get_or-append-add, drop_at, get_or-drop, drop-cons}
use Rattle.laws.specs.Joined.{joined, listed, overlaid}
use Rattle.laws.proofs.Joined.{joined_same, length-listed, listed_more, get_or-listed}

module _ {A : Type 0} (f : ℕ → A) (xs : List A) where
  pub overlaid_none : overlaid f 0 xs ≡ xs
  unfolding joined
  overlaid_none = refl

  pub length-overlaid : (k : ℕ) → k ≤ length xs → length (overlaid f k xs) ≡ length xs
  length-overlaid k few = rw (length-append, length-listed f k, length-drop) (omega arith)

  pub overlaid_in : (k i : ℕ) (d : A) → i < k → get_or (overlaid f k xs) i d ≡ f i
  overlaid_in k i d below = get_or-append (listed f k) (drop k xs) d i (rw (length-listed f k) below) ∙ get_or-listed f d k i below

  pub overlaid_past : (k i : ℕ) (d : A) → k ≤ i → get_or (overlaid f k xs) i d ≡ get_or xs i d
  overlaid_past k i d past =
      let e : i ≡ length (listed f k) + (i - k) = rw (length-listed f k) (omega arith) in
      let same : k + (i - k) ≡ i = omega arith in
      ap (λ (j : ℕ). get_or (overlaid f k xs) j d) e ∙ get_or-append-add (listed f k) (drop k xs) (i - k) d ∙ get_or-drop k xs (i - k) d ∙ ap (λ (j : ℕ). get_or xs j d) same

  pub overlaid_more : (i : ℕ) → i < length xs → set (overlaid f i xs) i (f i) ≡ overlaid f (i + 1) xs
  overlaid_more i below =
      rw (drop-cons xs i (f i) below, set_at (listed f i) (get_or xs i (f i)) (drop (suc i) xs) (f i) i (length-listed f i), listed_more f i, append_snoc, add-one)

-- the same front over the same list
pub overlaid_same : {A : Type 0} (f g : ℕ → A) (k : ℕ) (xs : List A) → ((i : ℕ) → i < k → f i ≡ g i) → overlaid f k xs ≡ overlaid g k xs
overlaid_same f g k xs same = ap (◌++ drop k xs) (joined_same (λ i. f i ∷ []) (λ i. g i ∷ []) k (λ i l. ap (◌∷ []) (same i l)))

-- a front over a front of the same size
pub overlaid_twice : {A : Type 0} (f g : ℕ → A) (k : ℕ) (xs : List A) → overlaid f k (overlaid g k xs) ≡ overlaid f k xs
overlaid_twice f g k xs = ap (listed f k ++◌) (drop_at (listed g k) (drop k xs) k (length-listed g k))
