-- Items cut at commas.
use mathlib.Core.Path.{◌≡◌, refl, sym, ap, ◌∙◌, subst}
use mathlib.Core.Bool.{false}
use mathlib.Core.List.{List, [], ◌∷◌, ◌++◌}
use mathlib.Core.Logic.{inl, inr}
use Prim.Native.Nat.{ℕ}
use native.Mathlib.Omega.{arith}
use lib.Dec.{eqb}
use borrow.Author.Tests.{ne_eqb}
use Rattle.form.specs.Bytes.{comma, IsDigit}
use Rattle.form.specs.Parts.{count, up_to, behind}
use Rattle.form.proofs.Parts.{none_cons, count-append, count_at, up_to_at, behind_at}
use Rattle.form.proofs.Numbers.{digits_none}
use Rattle.list_form.specs.Items.{dash, Item, IsItem, IsItems}

digit_no_comma : (b : ℕ) → IsDigit b → eqb b comma ≡ false
digit_no_comma b d = let least = d.0 in ne_eqb b comma (λ e. omega arith)

-- an item has no comma
pub item_no_comma : (head : List ℕ) (item : Item) → IsItem head item → count (λ b. eqb b comma) head ≡ 0
item_no_comma head item (inl alone) = digits_none (λ b. eqb b comma) digit_no_comma head alone.0.digits
item_no_comma head item (inr range) =
    let low = digits_none (λ b. eqb b comma) digit_no_comma range.low range.from.digits in
    let high = none_cons (λ b. eqb b comma) dash range.high refl (digits_none (λ b. eqb b comma) digit_no_comma range.high range.to.digits) in
    ap (count (λ b. eqb b comma)) range.bytes ∙ omega (arith, count-append (λ b. eqb b comma) range.low (dash ∷ range.high))

-- items whose first ends at a comma: it is an item, and those behind the comma are others
pub items_behind : (head tail : List ℕ) (item : Item) (more : List Item) → count (λ b. eqb b comma) head ≡ 0 → IsItems (head ++ (comma ∷ tail)) item more
    → IsItem head item × ((next : Item) × (others : List Item) × (more ≡ next ∷ others) × IsItems tail next others)
unfolding IsItems
items_behind head tail item [] none is =
    absurd (omega (arith, item_no_comma (head ++ (comma ∷ tail)) item is, count_at (λ b. eqb b comma) head comma tail none refl))
items_behind head tail item (next ∷ others) none (head', tail', bytes, first, rest) =
    let none' = item_no_comma head' item first in
    let heads : head' ≡ head = sym (up_to_at (λ b. eqb b comma) head' comma tail' none' refl) ∙ ap (up_to (λ b. eqb b comma)) (sym bytes) ∙ up_to_at (λ b. eqb b comma) head comma tail none refl in
    let tails : tail' ≡ tail = sym (behind_at (λ b. eqb b comma) head' comma tail' none' refl) ∙ ap (behind (λ b. eqb b comma)) (sym bytes) ∙ behind_at (λ b. eqb b comma) head comma tail none refl in
    (subst (λ (s : List ℕ). IsItem s item) heads first, (next, others, refl, subst (λ (s : List ℕ). IsItems s next others) tails rest))

-- items without a comma are one
pub items_alone : (s : List ℕ) (item : Item) (more : List Item) → count (λ b. eqb b comma) s ≡ 0 → IsItems s item more → (more ≡ []) × IsItem s item
unfolding IsItems
items_alone s item [] none is = (refl, is)
items_alone s item (next ∷ others) none (head, tail, bytes, first, rest) =
    absurd (omega (arith, ap (count (λ b. eqb b comma)) bytes, count_at (λ b. eqb b comma) head comma tail (item_no_comma head item first) refl))
