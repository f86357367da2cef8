-- An item cut from a text at its comma: its digits, and what stands behind them, are those of the text.
use mathlib.Core.Path.{◌≡◌, refl, sym, ap, ◌∙◌}
use mathlib.Core.Bool.{Bool, true, false}
use mathlib.Core.List.{List, [], ◌∷◌}
use Prim.Native.Nat.{ℕ, ◌+◌}
use native.Mathlib.Omega.{arith}
use lib.ListN.{length, get_or, drop, length-append}
use lib.Dec.{eqb}
use borrow.Author.Tests.{eqb-true}
use Rattle.laws.proofs.Choice.{within_true, refuted}
use Rattle.laws.proofs.Every.{clash}
use Rattle.form.specs.Bytes.{is_digit, comma}
use Rattle.form.specs.Parts.{up_to}
use Rattle.form.specs.Numbers.{digits_of, behind_digits}
use Rattle.form.proofs.Parts.{up_to_nil, up_to_more, up_to_stop}
use Rattle.form.proofs.Digits.{digits_more, digits_stop, digits_none, digits_cut}
use Rattle.list_form.specs.Items.{dash}
use Rattle.list.specs.Read.{is_comma}

-- a digit is no comma
digit_no_comma : (b : ℕ) → is_digit b ≡ true → is_comma b ≡ false
digit_no_comma b e = refuted (is_comma b) (λ c. let d = within_true _ _ b e in let s = eqb-true b comma c in absurd (omega (arith, d, s)))

record CutItem (s : List ℕ) : Type 0 where
  digits : digits_of (up_to is_comma s) ≡ digits_of s
  left : behind_digits (up_to is_comma s) ≡ up_to is_comma (behind_digits s)

-- where no digit stands, all is behind the digits
whole : (t : List ℕ) → digits_of t ≡ [] → behind_digits t ≡ t
whole t none = ap (λ (digits : List ℕ). drop (length digits) t) none

cut_item : (s : List ℕ) → CutItem s
cut_item [] = record { digits = ap digits_of (up_to_nil is_comma); left = ap behind_digits (up_to_nil is_comma) ∙ whole [] digits_none ∙ sym (up_to_nil is_comma) ∙ ap (up_to is_comma) (sym (whole [] digits_none)) }
cut_item (b ∷ s) = go (is_digit b) refl (cut_item s)
  where
    stops : (x : Bool) → is_comma b ≡ x → is_digit b ≡ false → CutItem (b ∷ s)
    stops true c e =
        let cut = up_to_stop is_comma b s c in
        record {
          digits = ap digits_of cut ∙ digits_none ∙ sym (digits_stop b s e);
          left = ap behind_digits cut ∙ whole [] digits_none ∙ sym cut ∙ ap (up_to is_comma) (sym (whole (b ∷ s) (digits_stop b s e)));
        }
    stops false c e =
        let cut = up_to_more is_comma b s c in
        record {
          digits = ap digits_of cut ∙ digits_stop b (up_to is_comma s) e ∙ sym (digits_stop b s e);
          left = ap behind_digits cut ∙ whole (b ∷ up_to is_comma s) (digits_stop b (up_to is_comma s) e) ∙ sym cut ∙ ap (up_to is_comma) (sym (whole (b ∷ s) (digits_stop b s e)));
        }

    behind_more : (t : List ℕ) → is_digit b ≡ true → behind_digits (b ∷ t) ≡ behind_digits t
    behind_more t e = ap (λ (digits : List ℕ). drop (length digits) (b ∷ t)) (digits_more b t e)

    go : (x : Bool) → is_digit b ≡ x → CutItem s → CutItem (b ∷ s)
    go true e earlier =
        let cut = up_to_more is_comma b s (digit_no_comma b e) in
        record {
          digits = ap digits_of cut ∙ digits_more b (up_to is_comma s) e ∙ ap (λ (digits : List ℕ). b ∷ digits) earlier.digits ∙ sym (digits_more b s e);
          left = ap behind_digits cut ∙ behind_more (up_to is_comma s) e ∙ earlier.left ∙ ap (up_to is_comma) (sym (behind_more s e));
        }
    go false e earlier = stops (is_comma b) refl e

pub item_digits : (s : List ℕ) → digits_of (up_to is_comma s) ≡ digits_of s
item_digits s = (cut_item s).digits

pub item_left : (s : List ℕ) → behind_digits (up_to is_comma s) ≡ up_to is_comma (behind_digits s)
item_left s = (cut_item s).left

pub item_length : (s : List ℕ) → length (up_to is_comma s) ≡ length (digits_of s) + length (up_to is_comma (behind_digits s))
item_length s =
    ap length (digits_cut (up_to is_comma s)) ∙ length-append (digits_of (up_to is_comma s)) (behind_digits (up_to is_comma s))
    ∙ ap (λ (digits : List ℕ). length digits + length (behind_digits (up_to is_comma s))) (item_digits s)
    ∙ ap (λ (left : List ℕ). length (digits_of s) + length left) (item_left s)

-- a dash that some bytes begin with is in their item
pub dash_in_item : (s : List ℕ) → eqb (get_or (up_to is_comma s) 0 0) dash ≡ eqb (get_or s 0 0) dash
dash_in_item [] = ap (λ (t : List ℕ). eqb (get_or t 0 0) dash) (up_to_nil is_comma)
dash_in_item (b ∷ s) = go (is_comma b) refl
  where
    go : (x : Bool) → is_comma b ≡ x → eqb (get_or (up_to is_comma (b ∷ s)) 0 0) dash ≡ eqb b dash
    go true c = ap (λ (t : List ℕ). eqb (get_or t 0 0) dash) (up_to_stop is_comma b s c) ∙ sym (ap (λ (x : ℕ). eqb x dash) (eqb-true b comma c))
    go false c = ap (λ (t : List ℕ). eqb (get_or t 0 0) dash) (up_to_more is_comma b s c)

pub behind-dash : (s : List ℕ) → eqb (get_or s 0 0) dash ≡ true → up_to is_comma s ≡ dash ∷ up_to is_comma (drop 1 s)
behind-dash [] e = absurd (clash e)
behind-dash (b ∷ s) e =
    let d = eqb-true b dash e in
    up_to_more is_comma b s (ap is_comma d) ∙ ap (λ (x : ℕ). x ∷ up_to is_comma s) d
