-- Reading a list of processors: "65 a text over 1,024 bytes, no place, first", then item by item 60, 61 and 62 by rising place.
use Rattle.std.specs.Prelude.{ℕ, zero, suc, ◌+◌, ◌≡◌, Bool, true, false, List, [], ◌∷◌, ◌++◌, length, get_or, drop, eqb, Ok, Err}
use Rattle.laws.specs.Choice.{pick}
use Rattle.model.specs.Kinds.{Answer}
use Rattle.model.specs.declared.answer.Refusal.TheVariants.{OfList}
use Rattle.model.specs.declared.answer.ListCause.TheVariants.{ListShape, ListNumber, ListRange, ListLength}
use Rattle.model.specs.Rules.{Rule, rule, at_most, first_broken}
use Rattle.form.specs.Bytes.{comma}
use Rattle.form.specs.Parts.{count, up_to, behind}
use Rattle.form.specs.Numbers.{digits_of, behind_digits, value_of}
use Rattle.list_form.specs.Items.{dash, Item, most_listed, items_set}
use Rattle.list.specs.declared.ListReading.{ListReading}

-- "a text over 1,024 bytes"
abbrev pub most_list_text : ℕ
most_list_text = 1024

abbrev pub is_comma : ℕ → Bool
is_comma b = eqb b comma

-- a dash stands there
abbrev pub is_dashed : List ℕ → Bool
is_dashed s = eqb (get_or (behind_digits s) 0 0) dash

-- the bytes of the second number, behind the dash
abbrev pub behind_dash : List ℕ → List ℕ
behind_dash s = drop 1 (behind_digits s)

-- a number of so many digits at a place: it has one, and is at most 63
unfoldable pub number_rules : (at digits value : ℕ) → List Rule
number_rules at digits value = rule (at_most 1 digits) (OfList (ListShape at)) ∷ rule (at_most value most_listed) (OfList (ListNumber at)) ∷ []

-- an item ends at a place: nothing of it is left
unfoldable pub end_rules : (at : ℕ) (left : List ℕ) → List Rule
end_rules at left = rule (at_most (length left) 0) (OfList (ListShape at)) ∷ []

-- the second number of a range: not below the first, and the item's end
unfoldable pub last_rules : (first at : ℕ) (s : List ℕ) → List Rule
last_rules first at s = number_rules at (length (digits_of s)) (value_of (digits_of s)) ++ (rule (at_most first (value_of (digits_of s))) (OfList (ListRange at)) ∷ end_rules (at + length (digits_of s)) (behind_digits s))

-- what stands behind an item's first number: a dash and the second one, or the item's end
unfoldable pub more_rules : (dashed : Bool) (first at : ℕ) (left : List ℕ) → List Rule
more_rules true first at left = last_rules first (suc at) (drop 1 left)
more_rules false first at left = end_rules at left

-- an item: a number, and what stands behind it
unfoldable pub item_rules : (at : ℕ) (s : List ℕ) → List Rule
item_rules at s = number_rules at (length (digits_of s)) (value_of (digits_of s)) ++ more_rules (is_dashed s) (value_of (digits_of s)) (at + length (digits_of s)) (behind_digits s)

-- the items of a text with so many commas, one after the other
unfoldable pub items_rules : (at commas : ℕ) (s : List ℕ) → List Rule
items_rules at zero s = item_rules at s
items_rules at (suc commas) s = item_rules at (up_to is_comma s) ++ items_rules (at + suc (length (up_to is_comma s))) commas (behind is_comma s)

-- 60 to 62 of a text; "the empty list" has no item
unfoldable pub content_rules : List ℕ → List Rule
content_rules [] = []
content_rules (b ∷ s) = items_rules 0 (count is_comma (b ∷ s)) (b ∷ s)

-- "65 .. first"
unfoldable pub list_rules : List ℕ → List Rule
list_rules text = rule (at_most (length text) most_list_text) (OfList ListLength) ∷ content_rules text

unfoldable pub list_answer : List ℕ → Answer
list_answer text = first_broken 0 (list_rules text)

-- the item that stands in its bytes
unfoldable pub item_of : List ℕ → Item
item_of s = record { first = value_of (digits_of s); last = pick (is_dashed s) (value_of (digits_of (behind_dash s))) (value_of (digits_of s)) }

unfoldable pub items_in : (commas : ℕ) (s : List ℕ) → List Item
items_in zero s = item_of s ∷ []
items_in (suc commas) s = item_of (up_to is_comma s) ∷ items_in commas (behind is_comma s)

-- the items of a text
unfoldable pub items_of : List ℕ → List Item
items_of [] = []
items_of (b ∷ s) = items_in (count is_comma (b ∷ s)) (b ∷ s)

-- "the answer and the set, 0 on refusal"
abbrev pub reading_by : Answer → (set : ℕ) → ListReading
reading_by (Ok count) set = record { answer = Ok count; set = set }
reading_by (Err cause) set = record { answer = Err cause; set = 0 }

unfoldable pub read_list : List ℕ → ListReading
read_list text = reading_by (list_answer text) (items_set (items_of text))

-- what reading a list promises
abbrev pub ReadsList : List ℕ → ListReading → Type 0
ReadsList text reading = reading ≡ read_list text
