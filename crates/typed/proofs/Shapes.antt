-- Which fronts are numbers and times, and that no byte but the right one goes on with them.
use mathlib.Core.Path.{◌≡◌, refl, sym, ap, ◌∙◌}
use mathlib.Core.Bool.{Bool, true, false}
use mathlib.Core.List.{List, ◌∷◌, ◌++◌}
use mathlib.Core.Logic.{⊎_elim}
use Prim.Native.Nat.{ℕ}
use lib.Dec.{eqb, ltb}
use lib.ListN.{length}
use native.Mathlib.Omega.{arith}
use borrow.Author.Tests.{eq-eqb, ne_eqb}
use Rattle.laws.specs.Choice.{pick, within}
use Rattle.laws.specs.Sums.{only}
use Rattle.laws.proofs.Choice.{true_within, refuted, pick_told}
use Rattle.laws.proofs.Every.{clash}
use Rattle.form.specs.Bytes.{IsDigit, is_digit, IsMark, is_mark}
use Rattle.form.specs.Parts.{count}
use Rattle.form.specs.Numbers.{Digits, is_number}
use Rattle.form.specs.Times.{is_time}
use Rattle.form.proofs.Bytes.{digit_no_mark, true_mark}
use Rattle.form.proofs.Parts.{count-append, count_cons}
use Rattle.form.proofs.Numbers.{digits_none, true_digits, number_true}
use Rattle.form.proofs.Times.{time_whole, time_decimal, time_true, time_none, one_mark, marks}

-- a byte that no digit is, and no comma or point
digit_other : (b : ℕ) → is_digit b ≡ false → (x : ℕ) → IsDigit x → eqb x b ≡ false
digit_other b e x d = ne_eqb x b (λ (same : x ≡ b). clash (sym e ∙ sym (ap is_digit same) ∙ true_within 48 57 x d.0 d.1))

mark_other : (b : ℕ) → is_mark b ≡ false → (x : ℕ) → IsMark x → eqb x b ≡ false
mark_other b e x m = ne_eqb x b (λ (same : x ≡ b). clash (sym e ∙ sym (ap is_mark same) ∙ true_mark x m))

present : (front : List ℕ) (b : ℕ) (more : List ℕ) → count (λ x. eqb x b) (front ++ (b ∷ more)) ≡ 0 → ⊥
present front b more none =
    let one : only (eqb b b) 1 ≡ 1 = ap (λ (x : Bool). only x 1) (eq-eqb b b refl) in
    let here = count-append (λ x. eqb x b) front (b ∷ more) in
    let first = count_cons (λ x. eqb x b) b more in
    omega (arith, one, here, first, none)

-- a number, and another byte behind its digits
pub not_number : (front : List ℕ) (b : ℕ) (more : List ℕ) → is_digit b ≡ false → is_number (front ++ (b ∷ more)) ≡ false
not_number front b more e = refuted _ (λ h. present front b more (digits_none (λ x. eqb x b) (digit_other b e) _ (number_true _ h).digits))

pub number_is : (digits : List ℕ) → Digits digits → is_number digits ≡ ltb 0 (length digits)
number_is digits d = rw (true_digits digits d) (pick_told (ltb 0 (length digits)))

pub no_marks : (digits : List ℕ) → Digits digits → count is_mark digits ≡ 0
no_marks digits d = digits_none is_mark digit_no_mark digits d

-- digits alone as a time
pub whole_is : (digits : List ℕ) → Digits digits → is_time digits ≡ ltb 0 (length digits)
whole_is digits d = time_whole digits (no_marks digits d) ∙ number_is digits d

-- digits, a comma or point, digits
module _ (whole : List ℕ) (mark : ℕ) (decimals : List ℕ) (w : Digits whole) (m : is_mark mark ≡ true) (d : Digits decimals) where
  pub decimal_is : is_time (whole ++ (mark ∷ decimals)) ≡ pick (ltb 0 (length whole)) (within 1 2 (length decimals)) false
  decimal_is = time_decimal whole mark decimals (no_marks whole w) m (no_marks decimals d) ∙ rw (number_is whole w, true_digits decimals d) (ap (λ (x : Bool). pick (ltb 0 (length whole)) x false) (pick_told (within 1 2 (length decimals))))

  -- and then another byte
  pub not_decimal : (b : ℕ) (more : List ℕ) → is_digit b ≡ false → is_time ((whole ++ (mark ∷ decimals)) ++ (b ∷ more)) ≡ false
  not_decimal b more e = refuted _ (go (is_mark b) refl)
    where
      go : (x : Bool) → is_mark b ≡ x → is_time ((whole ++ (mark ∷ decimals)) ++ (b ∷ more)) ≡ true → ⊥
      go true h t =
          let one : only (is_mark b) 1 ≡ 1 = ap (λ (x : Bool). only x 1) h in
          let earlier = one_mark whole mark decimals (no_marks whole w) m (no_marks decimals d) in
          let here = count-append is_mark (whole ++ (mark ∷ decimals)) (b ∷ more) in
          let first = count_cons is_mark b more in
          ⊎_elim (λ (none : _ ≡ 0). omega (arith, one, earlier, here, first, none)) (λ (single : _ ≡ 1). omega (arith, one, earlier, here, first, single)) (marks _ t)
      go false h t = present (whole ++ (mark ∷ decimals)) b more (time_none (λ x. eqb x b) (digit_other b e) (mark_other b h) _ _ (time_true _ t))

-- digits and then another byte
pub not_whole : (digits : List ℕ) (b : ℕ) (more : List ℕ) → is_digit b ≡ false → is_mark b ≡ false → is_time (digits ++ (b ∷ more)) ≡ false
not_whole digits b more e m = refuted _ (λ t. present digits b more (time_none (λ x. eqb x b) (digit_other b e) (mark_other b m) _ _ (time_true _ t)))
