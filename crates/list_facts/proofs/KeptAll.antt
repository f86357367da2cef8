-- The rules of a text's items hold just where it is a list within the limits, of the items that are taken.
use mathlib.Core.Path.{◌≡◌, refl, sym, ap, ◌∙◌, subst}
use mathlib.Core.List.{List, [], ◌∷◌, ◌++◌}
use Prim.Native.Nat.{ℕ, zero, suc, ◌+◌, ◌<◌}
use native.Mathlib.Omega.{arith}
use lib.ListN.{length}
use borrow.Author.Tests.{eqb-true}
use Rattle.model.specs.Rules.{AllKept}
use Rattle.model.proofs.Rules.{kept_append, kept_front, kept_rest}
use Rattle.form.specs.Bytes.{comma}
use Rattle.form.specs.Parts.{count, up_to, behind}
use Rattle.form.proofs.Parts.{cut, none_up_to, count-behind}
use Rattle.list_form.specs.Items.{Item, IsItem, IsItems, IsList, ItemsRight}
use Rattle.list_form.proofs.Items.{join_first, Follows}
use Rattle.list_form.proofs.Commas.{items_alone, items_behind}
use Rattle.list_form.proofs.Lists.{items_some}
use Rattle.list.specs.Read.{is_comma, item_rules, items_rules, content_rules, item_of, items_in, items_of}
use Rattle.list_facts.proofs.Kept.{kept_item, item_kept}

-- a text with a comma is its first item, the comma, and what follows
pub cut_comma : (commas : ℕ) (s : List ℕ) → count is_comma s ≡ suc commas → (s ≡ up_to is_comma s ++ (comma ∷ behind is_comma s)) × (count is_comma (behind is_comma s) ≡ commas)
cut_comma commas s many =
    let r = cut is_comma s (omega (arith, many)) in
    (r.2 ∙ ap (λ (b : ℕ). up_to is_comma s ++ (b ∷ behind is_comma s)) (eqb-true r.0 comma r.1), omega (arith, count-behind is_comma s (omega (arith, many)), many))

join_list : (head tail : List ℕ) (item : Item) (others : List Item) → IsItem head item → IsList tail others → 0 < length others → IsList (head ++ (comma ∷ tail)) (item ∷ others)
unfolding IsList Follows
join_list head tail item [] is list some = absurd (omega (arith, some))
join_list head tail item (next ∷ more) is list some = join_first head (comma ∷ tail) item (next ∷ more) is (tail, refl, list)

some_items : (commas : ℕ) (s : List ℕ) → 0 < length (items_in commas s)
unfolding items_in
some_items zero s = omega arith
some_items (suc commas) s = omega arith

kept_items : (commas at : ℕ) (s : List ℕ) → count is_comma s ≡ commas → AllKept (items_rules at commas s) → IsList s (items_in commas s) × ItemsRight (items_in commas s)
unfolding items_rules items_in IsList IsItems ItemsRight
kept_items zero at s none kept = let r = kept_item at s kept in (r.0, (r.1, tt))
kept_items (suc commas) at s many kept =
    let head = up_to is_comma s in
    let tail = behind is_comma s in
    let bytes = cut_comma commas s many in
    let first = kept_item at head (kept_front (item_rules at head) (items_rules (at + suc (length head)) commas tail) kept) in
    let others = kept_items commas (at + suc (length head)) tail bytes.1 (kept_rest (item_rules at head) (items_rules (at + suc (length head)) commas tail) kept) in
    (subst (λ (t : List ℕ). IsList t (item_of head ∷ items_in commas tail)) (sym bytes.0) (join_list head tail (item_of head) (items_in commas tail) first.0 others.0 (some_items commas tail)), (first.1, others.1))

items_kept : (commas at : ℕ) (s : List ℕ) (item : Item) (more : List Item) → count is_comma s ≡ commas → IsItems s item more → ItemsRight (item ∷ more)
    → AllKept (items_rules at commas s) × (items_in commas s ≡ item ∷ more)
unfolding items_rules items_in ItemsRight
items_kept zero at s item more none is right =
    let alone = items_alone s item more none is in
    let r = item_kept at s item alone.1 right.0 in
    (r.0, cc (r.1, alone.0))
items_kept (suc commas) at s item more many is right =
    let head = up_to is_comma s in
    let tail = behind is_comma s in
    let bytes = cut_comma commas s many in
    let cuts = items_behind head tail item more (none_up_to is_comma s) (subst (λ (t : List ℕ). IsItems t item more) bytes.0 is) in
    let first = item_kept at head item cuts.0 right.0 in
    let others = items_kept commas (at + suc (length head)) tail cuts.1.0 cuts.1.1 bytes.1 cuts.1.3 (subst ItemsRight cuts.1.2 right.1) in
    (kept_append (item_rules at head) (items_rules (at + suc (length head)) commas tail) first.0 others.0, cc (first.1, others.1, cuts.1.2))

-- the rules of a text
pub kept_list : (text : List ℕ) → AllKept (content_rules text) → IsList text (items_of text) × ItemsRight (items_of text)
unfolding content_rules items_of IsList ItemsRight
kept_list [] kept = (refl, tt)
kept_list (b ∷ s) kept = kept_items (count is_comma (b ∷ s)) 0 (b ∷ s) refl kept

pub list_kept : (text : List ℕ) (items : List Item) → IsList text items → ItemsRight items → AllKept (content_rules text) × (items_of text ≡ items)
unfolding content_rules items_of IsList AllKept
list_kept [] [] list right = (tt, refl)
list_kept [] (item ∷ more) list right = absurd (items_some [] item more list refl)
list_kept (b ∷ s) [] list right = absurd (omega (arith, ap length list))
list_kept (b ∷ s) (item ∷ more) list right = items_kept (count is_comma (b ∷ s)) 0 (b ∷ s) item more refl list right
