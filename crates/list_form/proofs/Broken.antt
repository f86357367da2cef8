-- Where a text breaks behind each part of an item.
use mathlib.Core.Path.{◌≡◌, refl, sym, ap, ◌∙◌, subst}
use mathlib.Core.Bool.{false}
use mathlib.Core.List.{List, [], ◌∷◌, ◌++◌, append_assoc, append-nil}
use mathlib.Core.Logic.{inl, inr}
use Prim.Native.Nat.{ℕ, ◌<◌}
use native.Mathlib.Omega.{arith}
use lib.ListN.{length, get_or, length-append}
use Rattle.form.specs.Bytes.{comma, is_digit}
use Rattle.form.specs.Numbers.{digits_of, IsNumber}
use Rattle.form.proofs.Digits.{digits_stop, digits_none}
use Rattle.list_form.specs.Items.{dash, Item, IsList}
use Rattle.list_form.specs.Offences.{IsFront, BreaksAt}
use Rattle.list_form.proofs.Fronts.{breaks_byte, breaks_end}
use Rattle.list_form.proofs.Starts.{ItemStart, front_start, front_item, front_dash, start_digit, follows_first, follows_dash, follows_last}

-- behind a front that only a digit can follow
broken_digit : (text front s : List ℕ) → text ≡ front ++ s → IsFront front → is_digit (get_or s 0 0) ≡ false
    → ((rest : List ℕ) (items : List Item) → 0 < length (front ++ rest) → IsList (front ++ rest) items → 0 < length (digits_of rest)) → 0 < length text → BreaksAt text (length front)
broken_digit text front [] bytes is closed digit some =
    let whole : text ≡ front = bytes ∙ append-nil front in
    subst (λ (t : List ℕ). BreaksAt t (length front)) (sym whole) (breaks_end front is none)
  where
    none : (items : List Item) → IsList front items → ⊥
    none items list =
        let positive : 0 < length (front ++ []) = subst (λ (t : List ℕ). 0 < length t) bytes some in
        omega (arith, digit [] items positive (subst (λ (t : List ℕ). IsList t items) (sym (append-nil front)) list), ap length digits_none)
broken_digit text front (b ∷ s) bytes is closed digit some = breaks_byte text front b s bytes is none
  where
    none : (rest : List ℕ) (items : List Item) → IsList (front ++ (b ∷ rest)) items → ⊥
    none rest items list = omega (arith, digit (b ∷ rest) items (omega (arith, length-append front (b ∷ rest))) list, ap length (digits_stop b rest closed))

module _ (text before : List ℕ) (start : ItemStart before) where
  -- an item that does not begin with a digit
  pub broken_start : (s : List ℕ) → text ≡ before ++ s → is_digit (get_or s 0 0) ≡ false → 0 < length text → BreaksAt text (length before)
  broken_start s bytes closed some = broken_digit text before s bytes (front_start before start) closed (start_digit before start) some

  -- behind the first number: neither digit, dash nor comma
  pub broken_first : (low : List ℕ) (value b : ℕ) (s : List ℕ) → text ≡ before ++ (low ++ (b ∷ s)) → IsNumber low value → is_digit b ≡ false → (b ≡ dash → ⊥) → (b ≡ comma → ⊥)
      → BreaksAt text (length (before ++ low))
  broken_first low value b s bytes number closed no-dash no_comma =
      breaks_byte text (before ++ low) b s (bytes ∙ sym (append_assoc before low (b ∷ s))) (front_item before start low (record { first = value; last = value }) (inl (number, refl)))
      (λ rest items list. follows_first before start low b rest items number.digits closed no-dash no_comma (subst (λ (t : List ℕ). IsList t items) (append_assoc before low (b ∷ rest)) list))

  dash_bytes : (low rest : List ℕ) → (before ++ (low ++ (dash ∷ []))) ++ rest ≡ before ++ (low ++ (dash ∷ rest))
  dash_bytes low rest = append_assoc before (low ++ (dash ∷ [])) rest ∙ ap (before ++◌) (append_assoc low (dash ∷ []) rest)

  -- behind the dash: no digit
  pub broken_dash : (low : List ℕ) (value : ℕ) (s : List ℕ) → text ≡ before ++ (low ++ (dash ∷ s)) → IsNumber low value → is_digit (get_or s 0 0) ≡ false → BreaksAt text (length (before ++ (low ++ (dash ∷ []))))
  broken_dash low value s bytes number closed =
      broken_digit text (before ++ (low ++ (dash ∷ []))) s (bytes ∙ sym (dash_bytes low s)) (front_dash before start low value number) closed
      (λ rest items _ list. follows_dash before start low rest items number.digits (subst (λ (t : List ℕ). IsList t items) (dash_bytes low rest) list))
      (omega (arith, ap length bytes, length-append before (low ++ (dash ∷ s)), length-append low (dash ∷ s)))

  last_bytes : (low high rest : List ℕ) → (before ++ (low ++ (dash ∷ high))) ++ rest ≡ before ++ (low ++ (dash ∷ (high ++ rest)))
  last_bytes low high rest = append_assoc before (low ++ (dash ∷ high)) rest ∙ ap (before ++◌) (append_assoc low (dash ∷ high) rest)

  -- behind the second number: neither digit nor comma
  pub broken_last : (low high : List ℕ) (first last b : ℕ) (s : List ℕ) → text ≡ before ++ (low ++ (dash ∷ (high ++ (b ∷ s)))) → IsNumber low first → IsNumber high last
      → is_digit b ≡ false → (b ≡ comma → ⊥) → BreaksAt text (length (before ++ (low ++ (dash ∷ high))))
  broken_last low high first last b s bytes from to closed no_comma =
      breaks_byte text (before ++ (low ++ (dash ∷ high))) b s (bytes ∙ sym (last_bytes low high (b ∷ s)))
      (front_item before start (low ++ (dash ∷ high)) (record { first = first; last = last }) (inr (record { low = low; high = high; bytes = refl; from = from; to = to })))
      (λ rest items list. follows_last before start low high b rest items from.digits to.digits closed no_comma (subst (λ (t : List ℕ). IsList t items) (last_bytes low high (b ∷ rest)) list))
