-- The decimals of a time: nothing, or a comma or point and one or two digits.
use mathlib.Core.Path.{◌≡◌, refl, sym, ap, ◌∙◌, subst}
use mathlib.Core.Bool.{Bool, true, false}
use mathlib.Core.List.{List}
use Prim.Native.Nat.{ℕ, ◌+◌, ◌-◌, ◌*◌, ◌^◌, ◌≤◌, ◌<◌}
use native.Mathlib.Omega.{arith}
use native.Mathlib.Decide.{dec_le}
use lib.ListN.{length, get_or, drop}
use lib.Seq.{get_or-drop, drop-drop}
use Rattle.laws.specs.Choice.{within}
use Rattle.laws.proofs.Choice.{within_true}
use Rattle.form.specs.Bytes.{is_mark}
use Rattle.form.specs.Numbers.{digits_of, value_of, capped}
use Rattle.std.specs.Prelude.{Some, None}
use Rattle.typed.specs.Taken.{TakesDigits, decimals_good, decimals_length, decimals_value, TakesDecimals}
use Rattle.form.proofs.Digits.{digits_are}
use Rattle.typed.proofs.Digits.{value_below}
use Rattle.typed.proofs.Found.{of_some, of_none}

module _ (text : List ℕ) (at : ℕ) where
  abbrev typed : List ℕ
  typed = drop at text

  first_is : get_or typed 0 0 ≡ get_or text at 0
  first_is = get_or-drop at text 0 0 ∙ ap (λ (i : ℕ). get_or text i 0) (omega arith)

  -- no comma or point
  pub none_taken : is_mark (get_or text at 0) ≡ false → TakesDecimals typed at (Some 0) at
  unfolding decimals_good decimals_length decimals_value
  none_taken m =
      let marked : is_mark (get_or typed 0 0) ≡ false = ap is_mark first_is ∙ m in
      record { told = rw marked; valued = of_some _ _ (rw marked); few = of_some _ _ (omega arith); next_at = rw marked (omega arith) }

  module _ (digits next : ℕ) (taken : TakesDigits (drop (at + 1) text) (at + 1) digits next) (m : is_mark (get_or text at 0) ≡ true) where
    abbrev decimals : List ℕ
    decimals = digits_of (drop 1 typed)

    marked : is_mark (get_or typed 0 0) ≡ true
    marked = ap is_mark first_is ∙ m

    same : digits_of (drop (at + 1) text) ≡ decimals
    same = ap digits_of (sym (drop-drop 1 at text))

    pub places_are : next ≡ (at + 1) + length decimals
    places_are = taken.1 ∙ ap (λ (s : List ℕ). (at + 1) + length s) same

    value_is : digits ≡ capped (value_of decimals)
    value_is = taken.0 ∙ ap (λ (s : List ℕ). capped (value_of s)) same

    -- one digit or two behind it: what is taken
    some_taken : (value : ℕ) → within 1 2 (length decimals) ≡ true → value ≡ value_of decimals * 10 ^ (2 - length decimals) → value ≤ 99
        → TakesDecimals typed at (Some value) next
    unfolding decimals_good decimals_length decimals_value
    some_taken value told valued few =
        record { told = sym told ∙ rw marked; valued = of_some _ _ (valued ∙ rw marked); few = of_some _ _ few; next_at = rw marked (omega (arith, places_are)) }

    -- few digits are worth what they are
    module _ (n : ℕ) (many : length decimals ≡ n) (few : 10 ^ n ≤ 100) where
      below : value_of decimals < 10 ^ n
      below = subst (λ (k : ℕ). value_of decimals < 10 ^ k) many (value_below decimals (digits_are (drop 1 typed)))

      exact : digits ≡ value_of decimals
      exact = value_is ∙ omega (arith, below, few)

    pub one_taken : next - (at + 1) ≡ 1 → TakesDecimals typed at (Some (digits * 10)) next
    one_taken one =
        let many : length decimals ≡ 1 = omega (arith, places_are, one) in
        some_taken (digits * 10) (rw many) (rw (many, exact 1 many (omega arith))) (omega (arith, exact 1 many (omega arith), below 1 many (omega arith)))

    pub two_taken : next - (at + 1) ≡ 2 → TakesDecimals typed at (Some digits) next
    two_taken two =
        let many : length decimals ≡ 2 = omega (arith, places_are, two) in
        some_taken digits (rw many) (rw (many, exact 2 many (omega arith)) (omega arith)) (omega (arith, exact 2 many (omega arith), below 2 many (omega arith)))

    -- none or more: nothing
    pub none_behind : (next - (at + 1) ≡ 1 → ⊥) → (next - (at + 1) ≡ 2 → ⊥) → TakesDecimals typed at None next
    unfolding decimals_good decimals_length
    none_behind not-one not-two =
        record { told = sym (rw marked (go (within 1 2 (length decimals)) refl)); valued = of_none _; few = of_none _; next_at = rw marked (omega (arith, places_are)) }
      where
        go : (x : Bool) → within 1 2 (length decimals) ≡ x → x ≡ false
        go true h =
            let r = within_true 1 2 (length decimals) h in
            let few : next - (at + 1) ≡ length decimals = omega (arith, places_are) in
            elim (dec_le (length decimals) 1) [ yes one ↦ absurd (not-one (omega (arith, few, r.0, one))) | no two ↦ absurd (not-two (omega (arith, few, r.1, two))) ]
        go false h = refl
