-- The list that is written is a list of its items.
use Prim.Native.Nat.{ℕ}
use mathlib.Core.Path.{◌≡◌, refl, sym, subst}
use mathlib.Core.Bool.{Bool, true, false}
use mathlib.Core.List.{List, [], ◌∷◌, ◌++◌, append-nil}
use mathlib.Core.Logic.{inl, inr}
use native.Mathlib.Omega.{arith}
use lib.Dec.{eqb}
use borrow.Author.Tests.{eqb-true}
use Rattle.laws.specs.Choice.{pick}
use Rattle.sets.specs.Sets.{IsSet}
use Rattle.form.specs.Numbers.{IsNumber}
use Rattle.form.specs.Written.{numeral}
use Rattle.form.proofs.Written.{numeral-is_number}
use Rattle.list_form.specs.Items.{dash, Item, IsItem, IsItems, IsList, ItemRight, ItemsRight}
use Rattle.list_form.specs.Runs.{runs_of}
use Rattle.list_form.specs.ListText.{item_text, items_text, list_text}
use Rattle.list_form.proofs.Runs.{runs_of_right}

item_is_item : (item : Item) → ItemRight item → IsItem (item_text item) item
unfolding item_text
item_is_item item right = go (eqb item.first item.last) refl
  where
    go : (b : Bool) → eqb item.first item.last ≡ b → IsItem (numeral item.first ++ pick b [] (dash ∷ numeral item.last)) item
    go true e = inl (subst (λ (s : List ℕ). IsNumber s item.first) (sym (append-nil (numeral item.first))) (numeral-is_number item.first (omega (arith, right.listed, right.rises))), sym (eqb-true _ _ e))
    go false e =
        inr
        (record {
          low = numeral item.first;
          high = numeral item.last;
          bytes = refl;
          from = numeral-is_number item.first (omega (arith, right.listed, right.rises));
          to = numeral-is_number item.last (omega (arith, right.listed));
        })

items_are_items : (item : Item) (more : List Item) → ItemRight item → ItemsRight more → IsItems (item_text item ++ items_text true more) item more
unfolding IsItems items_text ItemsRight
items_are_items item [] right rights = subst (λ (s : List ℕ). IsItem s item) (sym (append-nil (item_text item))) (item_is_item item right)
items_are_items item (next ∷ more) right rights = (item_text item, item_text next ++ items_text true more, refl, item_is_item item right, items_are_items next more rights.0 rights.1)

items_are_list : (items : List Item) → ItemsRight items → IsList (items_text false items) items
unfolding IsList items_text ItemsRight
items_are_list [] rights = refl
items_are_list (item ∷ more) rights = items_are_items item more rights.0 rights.1

pub list_is_list : (set : ℕ) → IsSet set → IsList (list_text set) (runs_of set)
unfolding list_text
list_is_list set is_set = items_are_list (runs_of set) (runs_of_right set is_set)
