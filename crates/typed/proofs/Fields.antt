-- A field that is taken as a front without an end in it, and the byte behind that front.
use mathlib.Core.Path.{◌≡◌, refl, sym, ap, ◌∙◌}
use mathlib.Core.Bool.{Bool, true, false}
use mathlib.Core.List.{List, [], ◌∷◌, ◌++◌, append-nil}
use Prim.Native.Nat.{ℕ}
use lib.Dec.{eqb}
use lib.ListN.{length, get_or, get_or-eq_default}
use lib.Seq.{get_or_at}
use native.Mathlib.Omega.{arith}
use borrow.Author.Tests.{eqb-true}
use Rattle.laws.specs.Choice.{pick}
use Rattle.laws.proofs.Choice.{pick-never}
use Rattle.laws.proofs.Every.{clash}
use Rattle.form.specs.Bytes.{semicolon, line_feed, is_end}
use Rattle.form.specs.Parts.{count, up_to}
use Rattle.form.proofs.Parts.{none_first, none_rest}
use Rattle.typed.specs.declared.FieldEnd.{FieldEnd}
use Rattle.typed.specs.declared.FieldEnd.TheVariants.{Semicolon, LineFeed}
use Rattle.typed.specs.Taken.{field_of, end_byte, ends_at}

pub field_front : (front rest : List ℕ) → count is_end front ≡ 0 → field_of (front ++ rest) ≡ front ++ field_of rest
unfolding field_of up_to
field_front [] rest none = refl
field_front (b ∷ front) rest none = rw (none_first is_end b front none) (ap (b ∷◌) (field_front front rest (none_rest is_end b front none)))

pub field_nil : field_of [] ≡ []
unfolding field_of up_to
field_nil = refl

pub field_stop : (b : ℕ) (s : List ℕ) → is_end b ≡ true → field_of (b ∷ s) ≡ []
unfolding field_of up_to
field_stop b s e = rw e

pub field_on : (b : ℕ) (s : List ℕ) → is_end b ≡ false → field_of (b ∷ s) ≡ b ∷ field_of s
unfolding field_of up_to
field_on b s e = rw e

-- a byte that ends a field is an end, and one that is none does not end it
end_is : (end : FieldEnd) (b : ℕ) → eqb b (end_byte end) ≡ true → is_end b ≡ true
end_is Semicolon b e = ap is_end (eqb-true b semicolon e)
end_is LineFeed b e = ap is_end (eqb-true b line_feed e)

no_end : (end : FieldEnd) (b : ℕ) → is_end b ≡ false → eqb b (end_byte end) ≡ false
no_end end b e = go (eqb b (end_byte end)) refl
  where
    go : (x : Bool) → eqb b (end_byte end) ≡ x → eqb b (end_byte end) ≡ false
    go true h = clash (sym e ∙ end_is end b h)
    go false h = h

module _ (passes : List ℕ → Bool) (end : FieldEnd) (front : List ℕ) (none : count is_end front ≡ 0) where
  all : field_of (front ++ []) ≡ front
  all = field_front front [] none ∙ ap (λ (r : List ℕ). front ++ r) field_nil ∙ append-nil front

  ended : (b : ℕ) (rest : List ℕ) → is_end b ≡ true → field_of (front ++ (b ∷ rest)) ≡ front
  ended b rest e = field_front front (b ∷ rest) none ∙ ap (λ (r : List ℕ). front ++ r) (field_stop b rest e) ∙ append-nil front

  -- whether a field is taken is told by its front and the byte behind it, where no more bytes would pass
  pub field_told : (rest : List ℕ) → ((more : List ℕ) → is_end (get_or rest 0 0) ≡ false → passes (front ++ (get_or rest 0 0 ∷ more)) ≡ false)
      → pick (ends_at end (front ++ rest) (length (field_of (front ++ rest)))) (passes (field_of (front ++ rest))) false ≡ pick (ends_at end rest 0) (passes front) false
  field_told [] stops =
      ap (λ (field : List ℕ). pick (ends_at end (front ++ []) (length field)) (passes field) false) all
      ∙ ap (λ (b : ℕ). pick (eqb b (end_byte end)) (passes front) false) (get_or-eq_default (front ++ []) 0 (omega (arith, ap length (append-nil front))))
  field_told (b ∷ rest) stops = go (is_end b) refl
    where
      go : (x : Bool) → is_end b ≡ x
          → pick (ends_at end (front ++ (b ∷ rest)) (length (field_of (front ++ (b ∷ rest))))) (passes (field_of (front ++ (b ∷ rest)))) false ≡ pick (eqb b (end_byte end)) (passes front) false
      go true e =
          ap (λ (field : List ℕ). pick (ends_at end (front ++ (b ∷ rest)) (length field)) (passes field) false) (ended b rest e)
          ∙ ap (λ (x : ℕ). pick (eqb x (end_byte end)) (passes front) false) (get_or_at front b rest 0 (length front) refl)
      go false e =
          let further : field_of (front ++ (b ∷ rest)) ≡ front ++ (b ∷ field_of rest) = field_front front (b ∷ rest) none ∙ ap (λ (r : List ℕ). front ++ r) (field_on b rest e) in
          let refused : passes (field_of (front ++ (b ∷ rest))) ≡ false = ap passes further ∙ stops (field_of rest) e in
          ap (λ (x : Bool). pick (ends_at end (front ++ (b ∷ rest)) (length (field_of (front ++ (b ∷ rest))))) x false) refused
          ∙ pick-never (ends_at end (front ++ (b ∷ rest)) (length (field_of (front ++ (b ∷ rest))))) ∙ sym (ap (λ (x : Bool). pick x (passes front) false) (no_end end b e))

  -- and then it is the front
  pub field_is : (rest : List ℕ) → ends_at end rest 0 ≡ true → field_of (front ++ rest) ≡ front
  field_is [] e = all
  field_is (b ∷ rest) e = ended b rest (end_is end b e)
