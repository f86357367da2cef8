-- The set of a row of items has just the processors that it lists; the runs of a set mean the set.
use Prim.Native.Nat.{ℕ, ◌<◌}
use mathlib.Core.Path.{◌≡◌, refl, sym, ◌∙◌}
use mathlib.Core.Bool.{Bool, true, false}
use mathlib.Core.List.{List, [], ◌∷◌}
use mathlib.Core.Logic.{◌⊎◌, inl, inr, ⊎_elim, ◌↔◌}
use native.Mathlib.Omega.{arith}
use lib.Dec.{lit<}
use Rattle.laws.specs.Choice.{pick, within}
use Rattle.laws.proofs.Choice.{within_true, true_within, same_test}
use Rattle.laws.proofs.Every.{clash}
use Rattle.model.specs.Limits.{most_processors}
use Rattle.sets.specs.Sets.{IsSet, has}
use Rattle.sets.proofs.Processors.{has_none, set-has, same_processors, union_is_set, union-has}
use Rattle.list_form.specs.Items.{Item, ItemsRight, item_set, items_set}
use Rattle.list_form.specs.Runs.{runs_of, Listed}
use Rattle.list_form.proofs.Runs.{has_within, runs_list, runs_of_right}

either : (a b : Bool) → pick a true b ≡ true → (a ≡ true) ⊎ (b ≡ true)
either true b e = inl e
either false b e = inr e

of_one : (a b : Bool) → a ≡ true → pick a true b ≡ true
of_one a b e = rw e

of_other : (a b : Bool) → b ≡ true → pick a true b ≡ true
of_other true b e = refl
of_other false b e = e

pub items_set_is_set : (items : List Item) → IsSet (items_set items)
unfolding items_set
items_set_is_set [] = lit< tt
items_set_is_set (item ∷ items) = union_is_set (item_set item) (items_set items)

item_set-has : (item : Item) (k : ℕ) → k < most_processors → has (item_set item) k ≡ within item.first item.last k
unfolding item_set
item_set-has item k below = set-has (within item.first item.last) k below

-- below 64
has_lists : (items : List Item) (k : ℕ) → k < most_processors → has (items_set items) k ≡ true → Listed items k
unfolding items_set Listed
has_lists [] k below there = clash (sym (has_none k) ∙ there)
has_lists (item ∷ items) k below there =
    ⊎_elim (λ here. inl (within_true item.first item.last k (sym (item_set-has item k below) ∙ here))) (λ later. inr (has_lists items k below later))
    (either (has (item_set item) k) (has (items_set items) k) (sym (union-has (item_set item) (items_set items) k below) ∙ there))

lists_has : (items : List Item) (k : ℕ) → k < most_processors → Listed items k → has (items_set items) k ≡ true
unfolding items_set Listed
lists_has [] k below listed = absurd listed
lists_has (item ∷ items) k below listed =
    union-has (item_set item) (items_set items) k below
    ∙ ⊎_elim (λ here. of_one (has (item_set item) k) (has (items_set items) k) (item_set-has item k below ∙ true_within item.first item.last k here.0 here.1))
    (λ later. of_other (has (item_set item) k) (has (items_set items) k) (lists_has items k below later)) listed

listed_below : (items : List Item) → ItemsRight items → (k : ℕ) → Listed items k → k < most_processors
unfolding ItemsRight Listed
listed_below [] right k listed = absurd listed
listed_below (item ∷ items) right k listed = ⊎_elim (λ here. omega (arith, here.1, right.0.listed)) (λ later. listed_below items right.1 k later) listed

pub set_is_listed : (items : List Item) → ItemsRight items → (k : ℕ) → (has (items_set items) k ≡ true) ↔ Listed items k
set_is_listed items right k =
    (λ there. has_lists items k (omega (arith, has_within (items_set items) (items_set_is_set items) k there)) there, λ listed. lists_has items k (listed_below items right k listed) listed)

pub runs_mean : (set : ℕ) → IsSet set → items_set (runs_of set) ≡ set
runs_mean set is_set =
    same_processors (items_set (runs_of set)) set (items_set_is_set (runs_of set)) is_set
    (λ k below. same_test (has (items_set (runs_of set)) k) (has set k)
    (λ there. (runs_list set is_set k).1 ((set_is_listed (runs_of set) (runs_of_right set is_set) k).0 there))
    (λ there. (set_is_listed (runs_of set) (runs_of_right set is_set) k).1 ((runs_list set is_set k).0 there)))
