-- No written list has more than 121 bytes: what the runs from a processor on take, with a comma before each, is at most a bound that falls.
use Prim.Native.Nat.{ℕ, ◌+◌, ◌-◌, ◌*◌, ◌/◌, ◌≤◌, ◌<◌}
use mathlib.Core.Path.{◌≡◌}
use mathlib.Core.Bool.{true, false}
use mathlib.Core.List.{List, [], ◌∷◌}
use native.Mathlib.Decide.{dec_lt}
use native.Mathlib.Omega.{arith}
use lib.ListN.{length, length-append}
use borrow.Author.Tests.{eq-eqb, ne_eqb}
use Rattle.sets.specs.Sets.{IsSet}
use Rattle.form.specs.Written.{digits_in}
use Rattle.form.proofs.Written.{length-numeral, digit_count_one, digit_count_below}
use Rattle.list_form.specs.Items.{Item, most_listed, ItemRight, ItemsRight}
use Rattle.list_form.specs.Runs.{runs_of, Rising}
use Rattle.list_form.specs.ListText.{item_text, items_text, list_text, most_list_bytes}
use Rattle.list_form.proofs.Runs.{runs_rise, runs_of_right}

-- an item takes its digits, and a range a dash
length-alone : (item : Item) → item.first ≡ item.last → length (item_text item) ≡ digits_in item.first
unfolding item_text
length-alone item alone = rw (length-append, length-numeral, eq-eqb item.first item.last alone) (omega arith)

length_range : (item : Item) → (item.first ≡ item.last → ⊥) → length (item_text item) ≡ digits_in item.first + (1 + digits_in item.last)
unfolding item_text
length_range item range = rw (length-append, length-numeral, ne_eqb item.first item.last range) (omega (arith, length-numeral item.last))

length_items : (item : Item) (items : List Item) → length (items_text true (item ∷ items)) ≡ 1 + length (item_text item) + length (items_text true items)
unfolding items_text
length_items item items = omega (arith, length-append (item_text item) (items_text true items))

-- a number of a list has at most two digits
two_digits : (x : ℕ) → x ≤ most_listed → digits_in x ≤ 2
two_digits x small = digit_count_below 9 1 x (omega arith)

-- from 10 on: two bytes for each processor, three for each one alone
abbrev high_bytes : ℕ → ℕ
high_bytes k = 3 * ((130 - 2 * k) / 3)

high_step : (item : Item) (least : ℕ) → ItemRight item → least ≤ item.first → 1 + length (item_text item) + high_bytes (item.last + 2) ≤ high_bytes least
high_step item least right above = go (dec_lt item.first item.last)
  where
    few : item.last ≤ most_listed
    few = right.listed

    rises : item.first ≤ item.last
    rises = right.rises

    go : Dec (item.first < item.last) → 1 + length (item_text item) + high_bytes (item.last + 2) ≤ high_bytes least
    go (yes more) = omega (arith, few, length_range item (λ e. omega arith), two_digits item.first (omega (arith, few)), two_digits item.last few)
    go (no alone) = omega (arith, few, rises, length-alone item (omega (arith, rises)), two_digits item.first (omega (arith, few, rises)))

high_bytes_lem : (items : List Item) (least : ℕ) → ItemsRight items → Rising least items → length (items_text true items) ≤ high_bytes least
unfolding ItemsRight Rising items_text
high_bytes_lem [] least right rising = omega arith
high_bytes_lem (item ∷ items) least right rising = omega (arith, length_items item items, high_step item least right.0 rising.0, high_bytes_lem items (item.last + 2) right.1 rising.1)

-- below 10: fewer digits
abbrev low_bytes : ℕ → ℕ
low_bytes k = 110 + 2 * ((19 - 2 * k) / 3)

-- an item that ends at 8 or above is followed by numbers of two digits
low_last : (item : Item) (least bytes : ℕ) → ItemRight item → least ≤ item.first → item.first < 10 → 8 ≤ item.last → bytes ≤ high_bytes (item.last + 2) → 1 + length (item_text item) + bytes ≤ low_bytes least
low_last item least bytes right above low end rest = go (dec_lt item.first item.last) (dec_lt item.last 10)
  where
    few : item.last ≤ most_listed
    few = right.listed

    one : digits_in item.first ≡ 1
    one = digit_count_one 9 item.first low

    go : Dec (item.first < item.last) → Dec (item.last < 10) → 1 + length (item_text item) + bytes ≤ low_bytes least
    go (yes more) (yes small) =
        let most : bytes ≤ 108 = omega arith in
        let room : 112 ≤ low_bytes least = omega arith in
        omega (arith, one, digit_count_one 9 item.last small, length_range item (λ e. omega arith))
    go (yes more) (no large) = omega (arith, one, few, two_digits item.last few, length_range item (λ e. omega arith))
    go (no alone) small = omega (arith, one, length-alone item (omega (arith, right.rises)))

low_step : (item : Item) (least : ℕ) → ItemRight item → least ≤ item.first → item.last < 8 → 1 + length (item_text item) + low_bytes (item.last + 2) ≤ low_bytes least
low_step item least right above end = go (dec_lt item.first item.last)
  where
    one : digits_in item.first ≡ 1
    one = digit_count_one 9 item.first (omega (arith, right.rises))

    go : Dec (item.first < item.last) → 1 + length (item_text item) + low_bytes (item.last + 2) ≤ low_bytes least
    go (yes more) = omega (arith, one, digit_count_one 9 item.last (omega arith), length_range item (λ e. omega arith))
    go (no alone) = omega (arith, one, right.rises, length-alone item (omega (arith, right.rises)))

low_bytes_lem : (items : List Item) (least : ℕ) → least < 10 → ItemsRight items → Rising least items → length (items_text true items) ≤ low_bytes least
unfolding ItemsRight Rising items_text
low_bytes_lem [] least below right rising = omega arith
low_bytes_lem (item ∷ items) least below right rising = go (dec_lt item.first 10) (dec_lt item.last 8) (low_bytes_lem items (item.last + 2))
  where
    rest : length (items_text true items) ≤ high_bytes (item.last + 2)
    rest = high_bytes_lem items (item.last + 2) right.1 rising.1

    whole : length (items_text true (item ∷ items)) ≡ 1 + length (item_text item) + length (items_text true items)
    whole = length_items item items

    go : Dec (item.first < 10) → Dec (item.last < 8) → (item.last + 2 < 10 → ItemsRight items → Rising (item.last + 2) items → length (items_text true items) ≤ low_bytes (item.last + 2)) → length (items_text true (item ∷ items)) ≤ low_bytes least
    go (no high) end low = omega (arith, high_bytes_lem (item ∷ items) 10 right (omega arith, rising.1))
    go (yes small) (yes early) low = omega (arith, whole, low_step item least right.0 rising.0 early, low (omega arith) right.1 rising.1)
    go (yes small) (no late) low = omega (arith, whole, low_last item least (length (items_text true items)) right.0 rising.0 small (omega arith) rest)

-- the first has no comma
items_short : (items : List Item) → ItemsRight items → Rising 0 items → length (items_text false items) ≤ most_list_bytes
unfolding items_text
items_short [] right rising = omega arith
items_short (item ∷ items) right rising = omega (arith, low_bytes_lem (item ∷ items) 0 (omega arith) right rising)

pub list_short : (set : ℕ) → IsSet set → length (list_text set) ≤ most_list_bytes
unfolding list_text
list_short set is_set = items_short (runs_of set) (runs_of_right set is_set) (runs_rise set is_set)
