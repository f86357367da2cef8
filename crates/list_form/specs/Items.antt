-- "List Format from cpuset(7), as `0-3,7`": numbers and ranges joined by commas, and the set that they mean.
use Rattle.std.specs.Prelude.{ℕ, ◌≤◌, ◌≡◌, List, [], ◌∷◌, ◌++◌, ◌⊎◌}
use Rattle.laws.specs.Choice.{within}
use Rattle.sets.specs.Sets.{set_of, union}
use Rattle.form.specs.Bytes.{comma}
use Rattle.form.specs.Numbers.{IsNumber}

-- the byte of `-`
abbrev pub dash : ℕ
dash = 45

-- an item of a list, from its first number to its last; a number alone is both
pub record Item : Type 0 where
  pub first : ℕ
  pub last : ℕ

-- a range: two numbers with a dash between them
pub record IsRange (s : List ℕ) (item : Item) : Type 0 where
  pub low : List ℕ
  pub high : List ℕ
  pub bytes : s ≡ low ++ (dash ∷ high)
  pub from : IsNumber low item.first
  pub to : IsNumber high item.last

-- an item is a number alone, or a range
abbrev pub IsItem : List ℕ → Item → Type 0
IsItem s item = (IsNumber s item.first × (item.last ≡ item.first)) ⊎ IsRange s item

-- one item or more, joined by commas
unfoldable pub IsItems : List ℕ → Item → List Item → Type 0
IsItems text item [] = IsItem text item
IsItems text item (next ∷ more) = (head : List ℕ) × (tail : List ℕ) × (text ≡ head ++ (comma ∷ tail)) × IsItem head item × IsItems tail next more

-- a list: "the empty list" has no item
unfoldable pub IsList : List ℕ → List Item → Type 0
IsList text [] = text ≡ []
IsList text (item ∷ more) = IsItems text item more

-- "a number over 63": a list's numbers are at most this
abbrev pub most_listed : ℕ
most_listed = 63

-- an item of a box: its numbers are at most 63, and it does not fall
pub record ItemRight (item : Item) : Type 0 where
  pub listed : item.last ≤ most_listed
  pub rises : item.first ≤ item.last

unfoldable pub ItemsRight : List Item → Type 0
ItemsRight [] = Unit
ItemsRight (item ∷ items) = ItemRight item × ItemsRight items

-- the processors of an item; "its set" is the union of those of its items, "the empty list is the empty set"
unfoldable pub item_set : Item → ℕ
item_set item = set_of (within item.first item.last)

unfoldable pub items_set : List Item → ℕ
items_set [] = 0
items_set (item ∷ items) = union (item_set item) (items_set items)
