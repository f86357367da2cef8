-- "Write each partition's set .. as a list: rising, touching numbers joined, a pair as a range, a single one alone."
use Rattle.std.specs.Prelude.{ℕ, Bool, true, false, List, [], ◌∷◌, ◌++◌, eqb}
use Rattle.laws.specs.Choice.{pick}
use Rattle.form.specs.Bytes.{comma}
use Rattle.form.specs.Written.{numeral}
use Rattle.list_form.specs.Items.{Item, dash}
use Rattle.list_form.specs.Runs.{runs_of}

-- "a single one alone", and more as a range
unfoldable pub item_text : Item → List ℕ
item_text item = numeral item.first ++ pick (eqb item.first item.last) [] (dash ∷ numeral item.last)

-- a comma before each item but the first
unfoldable pub items_text : (started : Bool) → List Item → List ℕ
items_text started [] = []
items_text started (item ∷ items) = pick started (comma ∷ []) [] ++ (item_text item ++ items_text true items)

-- the list that is written of a set
unfoldable pub list_text : ℕ → List ℕ
list_text set = items_text false (runs_of set)

-- the longest is `0-1,3-4,6-7,9-10,12-13, .. ,60-61,63`
abbrev pub most_list_bytes : ℕ
most_list_bytes = 121
