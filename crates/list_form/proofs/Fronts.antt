-- Fronts of lists: where an item begins, what can stand there and behind it, and where a text breaks.
use mathlib.Core.Path.{◌≡◌, refl, sym, ap, ◌∙◌, subst}
use mathlib.Core.List.{List, [], ◌∷◌, ◌++◌, append_assoc, append-nil}
use mathlib.Core.Logic.{inl, inr, ⊎_elim}
use Prim.Native.Nat.{ℕ, suc, ◌≤◌, ◌<◌}
use native.Mathlib.Omega.{arith}
use lib.ListN.{length, take, drop, length-append, take-append-drop}
use lib.Seq.{take-append-le, take-append_seam}
use Rattle.list_form.specs.Items.{Item, IsList}
use Rattle.list_form.specs.Offences.{IsFront, NoListThere, StopsShort, BreaksAt}

-- what is shorter than a front is one
front_shorter : (k : ℕ) (front : List ℕ) → IsFront front → IsFront (take k front)
front_shorter k front is =
    record {
      rest = drop k front ++ is.rest;
      items = is.items;
      goes_on_lem = subst (λ (s : List ℕ). IsList s is.items) (ap (◌++ is.rest) (sym (take-append-drop k front)) ∙ append_assoc (take k front) (drop k front) is.rest) is.goes_on_lem;
    }

module _ (text front after : List ℕ) (bytes : text ≡ front ++ after) (is : IsFront front) where
  shorter_front : (k : ℕ) → k ≤ length front → IsFront (take k text)
  shorter_front k within = subst IsFront (sym (ap (take k) bytes ∙ take-append-le k front after within)) (front_shorter k front is)

  -- a text breaks nowhere within a front
  pub not_broken_below : (k : ℕ) → k < length front → BreaksAt text k → ⊥
  not_broken_below k below breaks =
      ⊎_elim
      (λ (there : NoListThere text k). there.1 (shorter_front (suc k) below))
      (λ (short : StopsShort text k). omega (arith, short.0, ap length bytes, length-append front after))
      breaks.broken

-- behind a front with which no list goes on by this byte
pub breaks_byte : (text front : List ℕ) (b : ℕ) (after : List ℕ) → text ≡ front ++ (b ∷ after) → IsFront front → ((rest : List ℕ) (items : List Item) → IsList (front ++ (b ∷ rest)) items → ⊥)
    → BreaksAt text (length front)
breaks_byte text front b after bytes is none =
    record {
      shorter = shorter_front text front (b ∷ after) bytes is;
      broken = inl (omega (arith, ap length bytes, length-append front (b ∷ after)), no_front);
    }
  where
    bytes' : text ≡ (front ++ (b ∷ [])) ++ after
    bytes' = bytes ∙ sym (append_assoc front (b ∷ []) after)

    long : length (front ++ (b ∷ [])) ≡ suc (length front)
    long = omega (arith, length-append front (b ∷ []))

    taken : take (suc (length front)) text ≡ front ++ (b ∷ [])
    taken = ap (λ (n : ℕ). take n text) (sym long) ∙ ap (take (length (front ++ (b ∷ [])))) bytes' ∙ take-append_seam (front ++ (b ∷ [])) after

    no_front : IsFront (take (suc (length front)) text) → ⊥
    no_front other =
        none other.rest other.items
        (subst (λ (s : List ℕ). IsList s other.items) (ap (◌++ other.rest) taken ∙ append_assoc front (b ∷ []) other.rest) other.goes_on_lem)

-- a front that is no list itself
pub breaks_end : (text : List ℕ) → IsFront text → ((items : List Item) → IsList text items → ⊥) → BreaksAt text (length text)
breaks_end text is none =
    record { shorter = shorter_front text text [] (sym (append-nil text)) is; broken = inr (refl, none) }
