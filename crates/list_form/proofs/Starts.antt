-- Where an item begins in a text, and what can stand behind each of its parts.
use mathlib.Core.Path.{◌≡◌, refl, sym, ap, ◌∙◌, subst}
use mathlib.Core.Bool.{false}
use mathlib.Core.List.{List, [], ◌∷◌, ◌++◌, append_assoc, append-nil}
use mathlib.Core.Logic.{inl, inr, ⊎_elim}
use Prim.Native.Nat.{ℕ, ◌<◌}
use native.Mathlib.Omega.{arith}
use lib.ListN.{length, get_or, drop, length-append}
use Rattle.form.specs.Bytes.{zero_digit, comma, is_digit}
use Rattle.form.specs.Numbers.{Digits, digits_of, behind_digits, value_of, IsNumber}
use Rattle.list_form.specs.Items.{dash, Item, IsItem, IsItems, IsList}
use Rattle.list_form.specs.Offences.{IsFront}
use Rattle.list_form.proofs.Items.{after_until, Follows, follows_comma, follows_no_dash, Ranged, join_first, items_begin}
use Rattle.list_form.proofs.Commas.{item_no_comma, items_behind}

-- an item begins behind these bytes: what follows is items just where the whole is a list
pub record ItemStart (before : List ℕ) : Type 0 where
  pub list : (s : List ℕ) (item : Item) (more : List Item) → IsItems s item more → (items : List Item) × IsList (before ++ s) items
  pub items : (s : List ℕ) (items : List Item) → 0 < length (before ++ s) → IsList (before ++ s) items → (item : Item) × (more : List Item) × IsItems s item more

pub start_first : ItemStart []
unfolding IsList
start_first = record { list = λ s item more is. (item ∷ more, is); items = back }
  where
    back : (s : List ℕ) (items : List Item) → 0 < length s → IsList s items → (item : Item) × (more : List Item) × IsItems s item more
    back s [] some is = absurd (omega (arith, some, ap length is))
    back s (item ∷ more) some is = (item, more, is)

next_bytes : (before head s : List ℕ) → (before ++ (head ++ (comma ∷ []))) ++ s ≡ before ++ (head ++ (comma ∷ s))
next_bytes before head s = append_assoc before (head ++ (comma ∷ [])) s ∙ ap (before ++◌) (append_assoc head (comma ∷ []) s)

pub start_next : (before head : List ℕ) (item : Item) → ItemStart before → IsItem head item → ItemStart (before ++ (head ++ (comma ∷ [])))
unfolding Follows
start_next before head item start is =
    record { list = there; items = back }
  where
    there : (s : List ℕ) (next : Item) (more : List Item) → IsItems s next more → (items : List Item) × IsList ((before ++ (head ++ (comma ∷ []))) ++ s) items
    there s next more others =
        let r = start.list (head ++ (comma ∷ s)) item (next ∷ more) (join_first head (comma ∷ s) item (next ∷ more) is (s, refl, others)) in
        (r.0, subst (λ (t : List ℕ). IsList t r.0) (sym (next_bytes before head s)) r.1)

    back : (s : List ℕ) (items : List Item) → 0 < length ((before ++ (head ++ (comma ∷ []))) ++ s) → IsList ((before ++ (head ++ (comma ∷ []))) ++ s) items → (next : Item) × (more : List Item) × IsItems s next more
    back s items some is-list =
        let r = start.items (head ++ (comma ∷ s)) items (subst (λ (t : List ℕ). 0 < length t) (next_bytes before head s) some) (subst (λ (t : List ℕ). IsList t items) (next_bytes before head s) is-list) in
        let behind = items_behind head s r.0 r.1 (item_no_comma head item is) r.2 in
        (behind.1.0, behind.1.1, behind.1.3)

-- `0` can stand where a number begins
zero_number : IsNumber (zero_digit ∷ []) 0
unfolding Digits value_of
zero_number = record { some = omega arith; digits = ((omega arith, omega arith), tt); valued = refl }

module _ (before : List ℕ) (start : ItemStart before) where
  -- fronts: where an item begins, behind a range's dash, and behind an item
  pub front_start : IsFront before
  unfolding IsItems
  front_start = let r = start.list (zero_digit ∷ []) (record { first = 0; last = 0 }) [] (inl (zero_number, refl)) in record { rest = zero_digit ∷ []; items = r.0; goes_on_lem = r.1 }

  pub front_item : (head : List ℕ) (item : Item) → IsItem head item → IsFront (before ++ head)
  unfolding IsItems
  front_item head item is = let r = start.list head item [] is in record { rest = []; items = r.0; goes_on_lem = subst (λ (s : List ℕ). IsList s r.0) (sym (append-nil (before ++ head))) r.1 }

  pub front_dash : (low : List ℕ) (value : ℕ) → IsNumber low value → IsFront (before ++ (low ++ (dash ∷ [])))
  unfolding IsItems
  front_dash low value number =
      let range : IsItem (low ++ (dash ∷ (zero_digit ∷ []))) (record { first = value; last = 0 }) = inr (record { low = low; high = zero_digit ∷ []; bytes = refl; from = number; to = zero_number }) in
      let r = start.list (low ++ (dash ∷ (zero_digit ∷ []))) (record { first = value; last = 0 }) [] range in
      let bytes = append_assoc before (low ++ (dash ∷ [])) (zero_digit ∷ []) ∙ ap (before ++◌) (append_assoc low (dash ∷ []) (zero_digit ∷ [])) in
      record { rest = zero_digit ∷ []; items = r.0; goes_on_lem = subst (λ (s : List ℕ). IsList s r.0) (sym bytes) r.1 }

  -- a digit stands where an item begins
  pub start_digit : (rest : List ℕ) (items : List Item) → 0 < length (before ++ rest) → IsList (before ++ rest) items → 0 < length (digits_of rest)
  start_digit rest items some is = let r = start.items rest items some is in (items_begin r.0 r.1 rest r.2).some

  some_byte : (low : List ℕ) (b : ℕ) (rest : List ℕ) → 0 < length (before ++ (low ++ (b ∷ rest)))
  some_byte low b rest = omega (arith, length-append before (low ++ (b ∷ rest)), length-append low (b ∷ rest))

  -- a dash, a comma or nothing stands behind the first number
  pub follows_first : (low : List ℕ) (b : ℕ) (rest : List ℕ) (items : List Item) → Digits low → is_digit b ≡ false → (b ≡ dash → ⊥) → (b ≡ comma → ⊥) → IsList (before ++ (low ++ (b ∷ rest))) items → ⊥
  follows_first low b rest items are closed no-dash no_comma is =
      let r = start.items (low ++ (b ∷ rest)) items (some_byte low b rest) is in
      let left = after_until low (b ∷ rest) are closed in
      ⊎_elim
      (λ (alone : (r.0.last ≡ r.0.first) × Follows (behind_digits (low ++ (b ∷ rest))) r.1). no_comma (follows_comma b rest r.1 (subst (λ (s : List ℕ). Follows s r.1) left alone.1)))
      (λ (range : Ranged (low ++ (b ∷ rest)) r.0.last r.1). no-dash (ap (λ (s : List ℕ). get_or s 0 0) (sym left ∙ range.dashed)))
      (items_begin r.0 r.1 (low ++ (b ∷ rest)) r.2).goes

  -- behind a dash the second number begins
  second : (low rest : List ℕ) (items : List Item) → Digits low → IsList (before ++ (low ++ (dash ∷ rest))) items → (0 < length (digits_of rest)) × ((more : List Item) × Follows (behind_digits rest) more)
  second low rest items are is =
      let r = start.items (low ++ (dash ∷ rest)) items (some_byte low dash rest) is in
      let left = after_until low (dash ∷ rest) are refl in
      ⊎_elim
      (λ (alone : (r.0.last ≡ r.0.first) × Follows (behind_digits (low ++ (dash ∷ rest))) r.1). absurd (follows_no_dash rest r.1 (subst (λ (s : List ℕ). Follows s r.1) left alone.1)))
      (λ (range : Ranged (low ++ (dash ∷ rest)) r.0.last r.1).
      let same : range.high ≡ rest = ap (drop 1) (sym range.dashed ∙ left) in
      (subst (λ (s : List ℕ). 0 < length (digits_of s)) same range.some_high, (r.1, subst (λ (s : List ℕ). Follows (behind_digits s) r.1) same range.follows)))
      (items_begin r.0 r.1 (low ++ (dash ∷ rest)) r.2).goes

  -- a digit stands behind the dash
  pub follows_dash : (low rest : List ℕ) (items : List Item) → Digits low → IsList (before ++ (low ++ (dash ∷ rest))) items → 0 < length (digits_of rest)
  follows_dash low rest items are is = (second low rest items are is).0

  -- a comma or nothing stands behind the second number
  pub follows_last : (low high : List ℕ) (b : ℕ) (rest : List ℕ) (items : List Item) → Digits low → Digits high → is_digit b ≡ false → (b ≡ comma → ⊥)
      → IsList (before ++ (low ++ (dash ∷ (high ++ (b ∷ rest))))) items → ⊥
  follows_last low high b rest items low-are high-are closed no_comma is =
      let r = (second low (high ++ (b ∷ rest)) items low-are is).1 in
      no_comma (follows_comma b rest r.0 (subst (λ (s : List ℕ). Follows s r.0) (after_until high (b ∷ rest) high-are closed) r.1))
