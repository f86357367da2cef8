-- Laws of a list's parts: an item's length, one run, and those that are left.
use mathlib.Core.Path.{◌≡◌, refl, sym, ap, ◌∙◌}
use mathlib.Core.Bool.{Bool, true, false}
use mathlib.Core.List.{List, [], ◌∷◌, ◌++◌, append_assoc, append-nil}
use Prim.Native.Nat.{ℕ, zero, suc, ◌+◌, ◌-◌, ◌^◌, ◌≤◌, ◌<◌}
use native.Mathlib.Nat.{add-zero}
use native.Mathlib.Numerals.{add-one}
use native.Mathlib.Omega.{arith}
use borrow.Author.Tests.{lt-ltb}
use lib.Dec.{ltb, eqb}
use lib.ListN.{length, length-append}
use Rattle.laws.specs.Choice.{pick}
use Rattle.model.specs.Limits.{most_processors}
use Rattle.sets.proofs.Processors.{has_past}
use Rattle.form.specs.Bytes.{comma}
use Rattle.form.specs.Written.{numeral, digits_in}
use Rattle.form.proofs.Written.{length-numeral, numeral_in}
use Rattle.put.specs.Put.{HasRoom, PutsAt}
use Rattle.put.proofs.Put.{put_none, room_first}
use Rattle.list_form.specs.Items.{Item, dash, most_listed}
use Rattle.list_form.specs.Runs.{begins_run, run_end, runs_from, runs_of}
use Rattle.list_form.specs.ListText.{item_text, items_text, list_text}
use Rattle.list_out.specs.Parts.{comma_at, run_text}
use Rattle.list_out.proofs.Runs.{none_begins}

-- no comma at the front, one anywhere else
pub comma_none : (at : ℕ) → at ≡ 0 → comma_at at ≡ []
comma_none at front = rw front

pub comma_one : (at : ℕ) → (at ≡ 0 → ⊥) → comma_at at ≡ comma ∷ []
comma_one zero behind = absurd (behind refl)
comma_one (suc at) behind = rw (lt-ltb 0 (suc at) (omega arith))

-- nothing is put
pub puts_none : (at : ℕ) (output : List ℕ) → PutsAt at [] output at output
puts_none at output = record { written = sym (put_none at output); next_at = sym (add-zero at) }

-- a number alone, and a range
pub single_text : (first last : ℕ) → eqb first last ≡ true → item_text (record { first = first; last = last }) ≡ numeral first
unfolding item_text
single_text first last same = rw same (append-nil (numeral first))

pub range_text : (first last : ℕ) → eqb first last ≡ false → item_text (record { first = first; last = last }) ≡ numeral first ++ (dash ∷ numeral last)
unfolding item_text
range_text first last other = rw other

-- the first number has its room
pub first_room : (at first last : ℕ) (output : List ℕ) → HasRoom at (item_text (record { first = first; last = last })) output → HasRoom at (numeral first) output
unfolding item_text
first_room at first last output room = room_first (pick (eqb first last) [] (dash ∷ numeral last)) room

pub length-single : (first last : ℕ) → eqb first last ≡ true → length (item_text (record { first = first; last = last })) ≡ digits_in first
length-single first last same = ap length (single_text first last same) ∙ length-numeral first

pub length_range : (first last : ℕ) → eqb first last ≡ false → length (item_text (record { first = first; last = last })) ≡ digits_in first + 1 + digits_in last
length_range first last other =
    let e = ap length (range_text first last other) ∙ length-append (numeral first) (dash ∷ numeral last) in
    omega (arith, e, length-numeral first, length-numeral last)

item_some : (item : Item) → 1 ≤ length (item_text item)
unfolding item_text
item_some item = omega (arith, length-append (numeral item.first) (pick (eqb item.first item.last) [] (dash ∷ numeral item.last)), (numeral_in item.first).0)

-- the run that begins at a processor
abbrev pub run_at : (set k : ℕ) → Item
run_at set k = record { first = k; last = run_end set k most_listed }

-- what is written of the runs that begin from a processor on
abbrev pub rest_text : (at set k : ℕ) → List ℕ
rest_text at set k = items_text (ltb 0 at) (runs_from set k (most_processors - k))

-- no run begins above all of the set
module _ (set end : ℕ) (few : set < 2 ^ end) where
  runs_past : (more k : ℕ) → end ≤ k → runs_from set k more ≡ []
  unfolding runs_from
  runs_past zero k above = refl
  runs_past (suc more) k above = rw (none_begins set k (has_past end set k few above)) (runs_past more (suc k) (omega arith))

module _ (at set k : ℕ) where
  pub no_run : begins_run set k ≡ false → run_text at set k ≡ []
  unfolding runs_from items_text
  no_run none = rw none

  pub one_run : begins_run set k ≡ true → run_text at set k ≡ comma_at at ++ item_text (run_at set k)
  unfolding runs_from items_text
  one_run begins = rw (begins, append-nil)

  -- something is written of it, so that a comma follows
  then_comma : begins_run set k ≡ true → ltb 0 (at + length (run_text at set k)) ≡ true
  then_comma begins =
      let some : 0 < at + length (run_text at set k) = omega (arith, ap length (one_run begins) ∙ length-append (comma_at at) (item_text (run_at set k)), item_some (run_at set k)) in
      lt-ltb _ _ some

  -- one run, then those above it
  module _ (more : ℕ) where
    abbrev Splits : Type 0
    Splits = items_text (ltb 0 at) (runs_from set k (suc more)) ≡ run_text at set k ++ items_text (ltb 0 (at + length (run_text at set k))) (runs_from set (suc k) more)

    runs_none : begins_run set k ≡ false → runs_from set k (suc more) ≡ runs_from set (suc k) more
    unfolding runs_from
    runs_none none = rw none

    runs_one : begins_run set k ≡ true → runs_from set k (suc more) ≡ run_at set k ∷ runs_from set (suc k) more
    unfolding runs_from
    runs_one begins = rw begins

    splits_none : begins_run set k ≡ false → Splits
    splits_none none = rw (runs_none none, no_run none, add-zero)

    splits_one : begins_run set k ≡ true → Splits
    unfolding items_text
    splits_one begins = rw (then_comma begins, one_run begins, runs_one begins, append_assoc)

    splits : (begins : Bool) → begins_run set k ≡ begins → Splits
    splits true begins = splits_one begins
    splits false none = splits_none none

  pub rest_more : k < most_processors → rest_text at set k ≡ run_text at set k ++ rest_text (at + length (run_text at set k)) set (k + 1)
  rest_more below =
      let left = most_processors - (k + 1) in
      let e : most_processors - k ≡ suc left = omega arith in
      ap (λ (n : ℕ). items_text (ltb 0 at) (runs_from set k n)) e ∙ splits left (begins_run set k) refl ∙ rw add-one

  pub rest_longer : (size : ℕ) → k < most_processors → size ≡ length (run_text at set k) → at + length (rest_text at set k) ≡ at + size + length (rest_text (at + size) set (k + 1))
  rest_longer size below e =
      let next = rest_text (at + length (run_text at set k)) set (k + 1) in
      let more = ap length (rest_more below) ∙ length-append (run_text at set k) next in
      rw e (omega (arith, more))

  -- nothing above all of the set
  pub rest_none : (end : ℕ) → set < 2 ^ end → end ≤ k → rest_text at set k ≡ []
  unfolding items_text
  rest_none end few above = rw (runs_past set end few (most_processors - k) k above)

pub rest_all : (set : ℕ) → rest_text 0 set 0 ≡ list_text set
unfolding list_text runs_of
rest_all set = refl
