-- A text as the field that it begins with, the byte that ends it, and what follows.
use mathlib.Core.Path.{◌≡◌, refl, sym, ap, ◌∙◌}
use mathlib.Core.Bool.{Bool, true, false}
use mathlib.Core.List.{List, ◌∷◌, ◌++◌}
use Prim.Native.Nat.{ℕ, suc, ◌≤◌, ◌<◌}
use native.Mathlib.Omega.{arith}
use native.Mathlib.Decide.{dec_le}
use lib.Dec.{eqb}
use lib.ListN.{length, get_or, take, drop, take-append-drop, get_or-eq_default}
use lib.Seq.{drop-cons, get_or_at}
use borrow.Author.Tests.{eqb-true, eq-eqb}
use Rattle.laws.specs.Choice.{pick}
use Rattle.laws.proofs.Choice.{both}
use Rattle.laws.proofs.Every.{clash}
use Rattle.form.specs.Bytes.{is_end}
use Rattle.form.specs.Parts.{count}
use Rattle.form.proofs.Parts.{up_to_at, up_to-take, behind_at}
use Rattle.typed.specs.declared.FieldEnd.{FieldEnd}
use Rattle.typed.specs.declared.FieldEnd.TheVariants.{Semicolon, LineFeed}
use Rattle.typed.specs.Taken.{field_of, end_byte, ends_at}

end_is : (end : FieldEnd) → is_end (end_byte end) ≡ true
end_is Semicolon = refl
end_is LineFeed = refl

not_none : (end : FieldEnd) → eqb 0 (end_byte end) ≡ true → ⊥
not_none Semicolon e = clash e
not_none LineFeed e = clash e

module _ (end : FieldEnd) (passes : List ℕ → Bool) where
  -- whether the field that a text begins with passes, and is ended so
  abbrev pub is_taken : List ℕ → Bool
  is_taken s = pick (ends_at end s (length (field_of s))) (passes (field_of s)) false

  abbrev pub behind_field : List ℕ → List ℕ
  behind_field s = drop (suc (length (field_of s))) s

  -- a field that is taken
  pub record FieldIs (s : List ℕ) : Type 0 where
    pub passed : passes (field_of s) ≡ true
    pub cut : s ≡ field_of s ++ (end_byte end ∷ behind_field s)

  module _ (s : List ℕ) (e : is_taken s ≡ true) where
    ends : get_or s (length (field_of s)) 0 ≡ end_byte end
    ends = eqb-true _ _ (both (ends_at end s (length (field_of s))) (passes (field_of s)) e).0

    inside : length (field_of s) < length s
    inside = go (dec_le (length s) (length (field_of s)))
      where
        go : Dec (length s ≤ length (field_of s)) → length (field_of s) < length s
        go (yes past) = absurd (not_none end (eq-eqb _ _ (sym (get_or-eq_default s 0 past) ∙ ends)))
        go (no before-end) = omega (arith, before-end)

    front : take (length (field_of s)) s ≡ field_of s
    unfolding field_of
    front = sym (up_to-take is_end s)

    pub field_taken : FieldIs s
    field_taken =
        record {
          passed = (both (ends_at end s (length (field_of s))) (passes (field_of s)) e).1;
          cut =
              sym (take-append-drop (length (field_of s)) s) ∙ ap (λ (f : List ℕ). f ++ drop (length (field_of s)) s) front
              ∙ ap (λ (r : List ℕ). field_of s ++ r) (drop-cons s (length (field_of s)) 0 inside ∙ ap (λ (b : ℕ). b ∷ behind_field s) ends);
        }

  -- and the other way
  module _ (field rest : List ℕ) (none : count is_end field ≡ 0) where
    pub front_is : field_of (field ++ (end_byte end ∷ rest)) ≡ field
    unfolding field_of
    front_is = up_to_at is_end field (end_byte end) rest none (end_is end)

    pub front_behind : behind_field (field ++ (end_byte end ∷ rest)) ≡ rest
    unfolding field_of
    front_behind = behind_at is_end field (end_byte end) rest none (end_is end)

    pub front_taken : passes field ≡ true → is_taken (field ++ (end_byte end ∷ rest)) ≡ true
    front_taken e =
        ap (λ (f : List ℕ). pick (ends_at end (field ++ (end_byte end ∷ rest)) (length f)) (passes f) false) front_is
        ∙ ap (λ (b : ℕ). pick (eqb b (end_byte end)) (passes field) false) (get_or_at field (end_byte end) rest 0 (length field) refl)
        ∙ rw (eq-eqb (end_byte end) (end_byte end) refl) e
