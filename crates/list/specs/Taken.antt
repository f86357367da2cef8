-- What each piece taken from a list's text holds, and where the next one begins; s is the text from where it is taken.
use Rattle.std.specs.Prelude.{ℕ, ◌+◌, ◌≡◌, List, length, Result}
use Rattle.std.specs.Result.{ForOk}
use Rattle.model.specs.Kinds.{Answer}
use Rattle.model.specs.declared.answer.Refusal.{Refusal}
use Rattle.model.specs.Rules.{first_broken, given}
use Rattle.form.specs.Parts.{count, up_to}
use Rattle.form.specs.Numbers.{digits_of, value_of}
use Rattle.list_form.specs.Items.{Item, ItemRight, items_set}
use Rattle.list.specs.declared.ItemTaken.{ItemTaken}
use Rattle.list.specs.Read.{is_comma, last_rules, item_rules, items_rules, item_of, items_in}

-- an item's numbers
abbrev pub held_item : Item → ItemTaken
held_item item = record { first = item.first; last = item.last }

-- an item where its answer is done; then the reader stands where it ends, and it is right
pub record HoldsItem (item : Item) (ends : ℕ) (answer : Answer) (taken : Result ItemTaken Refusal) (next : ℕ) : Type 0 where
  pub answered : taken ≡ given (held_item item) answer
  pub next_at : ForOk taken (λ _. next ≡ ends)
  pub right : ForOk taken (λ _. ItemRight item)

-- the second number of a range and the item's end, up to a comma or the text's end
abbrev pub TakesLast : (first : ℕ) → List ℕ → (at : ℕ) → Result ItemTaken Refusal → (next : ℕ) → Type 0
TakesLast first s at taken next = HoldsItem (record { first = first; last = value_of (digits_of s) }) (at + length (up_to is_comma s)) (first_broken 0 (last_rules first at (up_to is_comma s))) taken next

-- the item up to a comma or the text's end
abbrev pub TakesItem : List ℕ → (at : ℕ) → Result ItemTaken Refusal → (next : ℕ) → Type 0
TakesItem s at taken next = HoldsItem (item_of (up_to is_comma s)) (at + length (up_to is_comma s)) (first_broken 0 (item_rules at (up_to is_comma s))) taken next

-- the whole answer and the whole set of a text's items
abbrev pub all_answer : List ℕ → Answer
all_answer text = first_broken 0 (items_rules 0 (count is_comma text) text)

abbrev pub all_set : List ℕ → ℕ
all_set text = items_set (items_in (count is_comma text) text)
