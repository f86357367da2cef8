-- The rules of a number, of a range's second number and of an item, as the reader follows them.
use Rattle.std.specs.Prelude.{Ok, Err}
use mathlib.Core.Path.{◌≡◌, refl, sym, ap, ◌∙◌}
use mathlib.Core.Bool.{Bool, true, false}
use mathlib.Core.List.{List, [], ◌∷◌, ◌++◌}
use Prim.Native.Nat.{ℕ, suc, ◌+◌, ◌-◌, ◌≤◌, ◌<◌}
use native.Mathlib.Omega.{arith}
use lib.ListN.{length, get_or, drop}
use lib.Dec.{leb, eqb}
use borrow.Author.Tests.{le-leb, lt-leb, leb-true}
use Rattle.laws.specs.Choice.{pick}
use Rattle.laws.proofs.Choice.{same_test}
use Rattle.model.specs.declared.answer.Refusal.{Refusal}
use Rattle.model.specs.declared.answer.Refusal.TheVariants.{OfList}
use Rattle.model.specs.declared.answer.ListCause.TheVariants.{ListShape, ListNumber, ListRange}
use Rattle.model.specs.Rules.{Rule, rule, at_most, first_broken}
use Rattle.model.proofs.Rules.{AllPass, done_pass, pass_on, stop}
use Rattle.form.specs.Parts.{up_to}
use Rattle.form.specs.Numbers.{digits_of, behind_digits, value_of, capped}
use Rattle.list_form.specs.Items.{dash, Item, most_listed}
use Rattle.list.specs.Read.{is_comma, is_dashed, behind_dash, number_rules, end_rules, last_rules, more_rules, item_rules, item_of}
use Rattle.list.proofs.Cut.{item_digits, item_left, dash_in_item, behind-dash}

-- a number
module _ (at digits value : ℕ) where
  pub no_digit : digits < 1 → first_broken 0 (number_rules at digits value) ≡ Err (OfList (ListShape at))
  unfolding first_broken number_rules
  no_digit none = rw (lt-leb 1 digits none)

  pub number_over : 1 ≤ digits → most_listed < value → first_broken 0 (number_rules at digits value) ≡ Err (OfList (ListNumber at))
  unfolding first_broken number_rules
  number_over some over = rw (le-leb 1 digits some) (rw (lt-leb value most_listed over))

  pub number_passes : 1 ≤ digits → value ≤ most_listed → first_broken 0 (number_rules at digits value) ≡ Ok 0
  unfolding first_broken number_rules
  number_passes some few = rw (le-leb 1 digits some) (rw (le-leb value most_listed few))

  pub number_good : (count : ℕ) → first_broken 0 (number_rules at digits value) ≡ Ok count → (1 ≤ digits) × (value ≤ most_listed)
  unfolding number_rules AllPass
  number_good count e = let pass = done_pass 0 (number_rules at digits value) e in (leb-true 1 digits pass.0, leb-true value most_listed pass.1.0)

-- a value that is capped has the rules of the value
pub number_told : (at next value : ℕ) (digits : List ℕ) → value ≡ capped (value_of digits) → next ≡ at + length digits
    → first_broken 0 (number_rules at (next - at) value) ≡ first_broken 0 (number_rules at (length digits) (value_of digits))
unfolding first_broken number_rules
number_told at next value digits v n =
    let size : next - at ≡ length digits = omega (arith, n) in
    let few : leb value most_listed ≡ leb (value_of digits) most_listed =
    same_test (leb value most_listed) (leb (value_of digits) most_listed)
    (λ e. let l = leb-true value most_listed e in le-leb (value_of digits) most_listed (omega (arith, l, v)))
    (λ e. let l = leb-true (value_of digits) most_listed e in le-leb value most_listed (omega (arith, l, v))) in
    rw size (rw few refl)

-- one that passes is the value
pub value_exact : (value : ℕ) (digits : List ℕ) → value ≡ capped (value_of digits) → value_of digits ≤ most_listed → value ≡ value_of digits
value_exact value digits v few = omega (arith, v, few)

-- an item's end
pub ended : (at : ℕ) (left : List ℕ) → left ≡ [] → first_broken 0 (end_rules at left) ≡ Ok 0
unfolding first_broken end_rules
ended at left e = rw e

pub not_ended : (at b : ℕ) (rest left : List ℕ) → left ≡ b ∷ rest → first_broken 0 (end_rules at left) ≡ Err (OfList (ListShape at))
unfolding first_broken end_rules
not_ended at b rest left e = rw (lt-leb (length left) 0 (omega (arith, ap length e)))

pub end_reached : (at : ℕ) (left : List ℕ) (count : ℕ) → first_broken 0 (end_rules at left) ≡ Ok count → length left ≡ 0
unfolding end_rules AllPass
end_reached at left count e = let l = leb-true (length left) 0 (done_pass 0 (end_rules at left) e).0 in omega (arith, l)

-- the second number of a range, in the item that s begins with
module _ (first : ℕ) (s : List ℕ) (at : ℕ) where
  unfoldable rest : List ℕ → List Rule
  rest digits = rule (at_most first (value_of digits)) (OfList (ListRange at)) ∷ end_rules (at + length digits) (behind_digits (up_to is_comma s))

  -- its digits are those that s begins with
  parts : last_rules first at (up_to is_comma s) ≡ number_rules at (length (digits_of s)) (value_of (digits_of s)) ++ rest (digits_of s)
  unfolding last_rules rest
  parts = rw (item_digits s)

  pub last_stops : (refusal : Refusal) → first_broken 0 (number_rules at (length (digits_of s)) (value_of (digits_of s))) ≡ Err refusal
      → first_broken 0 (last_rules first at (up_to is_comma s)) ≡ Err refusal
  last_stops refusal e = rw parts (stop 0 (number_rules at (length (digits_of s)) (value_of (digits_of s))) (rest (digits_of s)) refusal e)

  passes_on : (count : ℕ) → first_broken 0 (number_rules at (length (digits_of s)) (value_of (digits_of s))) ≡ Ok count
      → first_broken 0 (last_rules first at (up_to is_comma s)) ≡ first_broken 0 (rest (digits_of s))
  passes_on count e =
      let number = number_rules at (length (digits_of s)) (value_of (digits_of s)) in
      rw parts (pass_on 0 number (rest (digits_of s)) (done_pass 0 number e))

  pub last_falls : (count : ℕ) → first_broken 0 (number_rules at (length (digits_of s)) (value_of (digits_of s))) ≡ Ok count → value_of (digits_of s) < first
      → first_broken 0 (last_rules first at (up_to is_comma s)) ≡ Err (OfList (ListRange at))
  unfolding first_broken rest
  last_falls count e falls = passes_on count e ∙ rw (lt-leb first (value_of (digits_of s)) falls)

  pub last_ends : (count : ℕ) → first_broken 0 (number_rules at (length (digits_of s)) (value_of (digits_of s))) ≡ Ok count → first ≤ value_of (digits_of s)
      → first_broken 0 (last_rules first at (up_to is_comma s)) ≡ first_broken 0 (end_rules (at + length (digits_of s)) (up_to is_comma (behind_digits s)))
  unfolding first_broken rest
  last_ends count e rises = passes_on count e ∙ rw (le-leb first (value_of (digits_of s)) rises) (ap (λ (left : List ℕ). first_broken 0 (end_rules (at + length (digits_of s)) left)) (item_left s))

-- the item that s begins with
module _ (s : List ℕ) (at : ℕ) where
  abbrev number : List Rule
  number = number_rules at (length (digits_of s)) (value_of (digits_of s))

  behind : drop (length (digits_of s)) (up_to is_comma s) ≡ up_to is_comma (behind_digits s)
  behind = ap (λ (digits : List ℕ). drop (length digits) (up_to is_comma s)) (sym (item_digits s)) ∙ item_left s

  more : (dashed : Bool) → List Rule
  more dashed = more_rules dashed (value_of (digits_of s)) (at + length (digits_of s)) (up_to is_comma (behind_digits s))

  -- its digits are those that s begins with, and so is the dash behind them
  item_parts : item_rules at (up_to is_comma s) ≡ number ++ more (is_dashed s)
  unfolding item_rules more
  item_parts =
      ap (λ (digits : List ℕ). number_rules at (length digits) (value_of digits)
      ++ more_rules (eqb (get_or (drop (length digits) (up_to is_comma s)) 0 0) dash) (value_of digits) (at + length digits) (drop (length digits) (up_to is_comma s))) (item_digits s)
      ∙ ap (λ (left : List ℕ). number ++ more_rules (eqb (get_or left 0 0) dash) (value_of (digits_of s)) (at + length (digits_of s)) left) behind
      ∙ ap (λ (dashed : Bool). number ++ more_rules dashed (value_of (digits_of s)) (at + length (digits_of s)) (up_to is_comma (behind_digits s))) (dash_in_item (behind_digits s))

  pub item_stops : (refusal : Refusal) → first_broken 0 number ≡ Err refusal → first_broken 0 (item_rules at (up_to is_comma s)) ≡ Err refusal
  item_stops refusal e = ap (first_broken 0) item_parts ∙ stop 0 number (more (is_dashed s)) refusal e

  item_passes : (count : ℕ) → first_broken 0 number ≡ Ok count → first_broken 0 (item_rules at (up_to is_comma s)) ≡ first_broken 0 (more (is_dashed s))
  item_passes count e = ap (first_broken 0) item_parts ∙ pass_on 0 number (more (is_dashed s)) (done_pass 0 number e)

  pub item_ranges : (count : ℕ) → first_broken 0 number ≡ Ok count → is_dashed s ≡ true
      → first_broken 0 (item_rules at (up_to is_comma s)) ≡ first_broken 0 (last_rules (value_of (digits_of s)) (suc (at + length (digits_of s))) (up_to is_comma (behind_dash s)))
  unfolding more more_rules
  item_ranges count e dashed =
      item_passes count e ∙ ap (λ (d : Bool). first_broken 0 (more d)) dashed
      ∙ ap (λ (left : List ℕ). first_broken 0 (last_rules (value_of (digits_of s)) (suc (at + length (digits_of s))) (drop 1 left))) (behind-dash (behind_digits s) dashed)

  pub item_ends : (count : ℕ) → first_broken 0 number ≡ Ok count → is_dashed s ≡ false
      → first_broken 0 (item_rules at (up_to is_comma s)) ≡ first_broken 0 (end_rules (at + length (digits_of s)) (up_to is_comma (behind_digits s)))
  unfolding more more_rules
  item_ends count e alone = item_passes count e ∙ ap (λ (d : Bool). first_broken 0 (more d)) alone

  -- the item itself
  abbrev item_by : (digits left : List ℕ) → (dashed : Bool) → Item
  item_by digits left dashed = record { first = value_of digits; last = pick dashed (value_of (digits_of (drop 1 left))) (value_of digits) }

  item_is : item_of (up_to is_comma s) ≡ item_by (digits_of s) (up_to is_comma (behind_digits s)) (is_dashed s)
  unfolding item_of
  item_is =
      ap (λ (digits : List ℕ). item_by digits (drop (length digits) (up_to is_comma s)) (eqb (get_or (drop (length digits) (up_to is_comma s)) 0 0) dash)) (item_digits s)
      ∙ ap (λ (left : List ℕ). item_by (digits_of s) left (eqb (get_or left 0 0) dash)) behind
      ∙ ap (item_by (digits_of s) (up_to is_comma (behind_digits s))) (dash_in_item (behind_digits s))

  pub item_alone : is_dashed s ≡ false → item_of (up_to is_comma s) ≡ record { first = value_of (digits_of s); last = value_of (digits_of s) }
  item_alone alone = item_is ∙ ap (item_by (digits_of s) (up_to is_comma (behind_digits s))) alone

  pub item_range : is_dashed s ≡ true → item_of (up_to is_comma s) ≡ record { first = value_of (digits_of s); last = value_of (digits_of (behind_dash s)) }
  item_range dashed =
      item_is ∙ ap (item_by (digits_of s) (up_to is_comma (behind_digits s))) dashed
      ∙ ap (λ (left : List ℕ). item_by (digits_of s) left true) (behind-dash (behind_digits s) dashed)
      ∙ ap (λ (digits : List ℕ). record { first = value_of (digits_of s); last = value_of digits }) (item_digits (behind_dash s))
