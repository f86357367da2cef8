-- An item's first offence is what is wrong at the lowest place; where there is none, nothing is wrong up to its end.
use mathlib.Core.Path.{◌≡◌, refl, sym, ap, subst}
use mathlib.Core.Bool.{Bool, true, false}
use mathlib.Core.List.{List}
use mathlib.Core.Logic.{inl, inr}
use Prim.Native.Nat.{ℕ, suc, ◌+◌}
use native.Mathlib.Omega.{arith}
use lib.ListN.{length, length-append}
use Rattle.model.specs.declared.answer.Refusal.{Refusal}
use Rattle.model.specs.declared.answer.Refusal.TheVariants.{OfList}
use Rattle.model.specs.declared.answer.ListCause.{ListCause}
use Rattle.model.specs.declared.answer.ListCause.TheVariants.{ListShape, ListNumber, ListRange}
use Rattle.model.specs.Rules.{AllKept, FirstOffence}
use Rattle.form.specs.Numbers.{digits_of, behind_digits, value_of}
use Rattle.form.proofs.Digits.{digits_cut}
use Rattle.list_form.proofs.Places.{digits_at, NumbersBelow}
use Rattle.list.specs.Read.{is_dashed, behind_dash, number_rules, end_rules, last_rules, more_rules, item_rules}
use Rattle.list_facts.proofs.Kept.{dash_first}
use Rattle.list_facts.proofs.First.{Lowest, AtItem, count_here, first_none, first_too_large, first_unended, past_first}
use Rattle.list_facts.proofs.Second.{digits_second, second_none, second_too_large, second_below, second_unended, past_second}

-- the refusal is for what is wrong at the lowest place
abbrev pub Found : List ℕ → Refusal → Type 0
Found text refusal = (cause : ListCause) × (refusal ≡ OfList cause) × Lowest text cause

module _ (text before head rest : List ℕ) (item : AtItem text before head rest) where
  abbrev at : ℕ
  at = length before

  place : suc (at + digits_at text at) ≡ suc (at + length (digits_of head))
  place = omega (arith, count_here text before head rest item)

  pub item_offence : (refusal : Refusal) → FirstOffence (item_rules at head) refusal → Found text refusal
  unfolding item_rules more_rules last_rules number_rules end_rules FirstOffence
  item_offence refusal (inl (none, e)) = (ListShape at, sym e, first_none text before head rest item none)
  item_offence refusal (inr (some, inl (over, e))) = (ListNumber at, sym e, first_too_large text before head rest item some over)
  item_offence refusal (inr (some, inr (listed, more))) = go (is_dashed head) refl more
    where
      last : is_dashed head ≡ true → FirstOffence (last_rules (value_of (digits_of head)) (suc (at + length (digits_of head))) (behind_dash head)) refusal → Found text refusal
      last e (inl (none, same)) =
          (ListShape (suc (at + length (digits_of head))), sym same, subst (λ (n : ℕ). Lowest text (ListShape n)) place (second_none text before head rest (behind_dash head) item (dash_first (behind_digits head) e) some listed none))
      last e (inr (some_high, inl (over, same))) =
          (ListNumber (suc (at + length (digits_of head))), sym same, subst (λ (n : ℕ). Lowest text (ListNumber n)) place (second_too_large text before head rest (behind_dash head) item (dash_first (behind_digits head) e) some listed some_high over))
      last e (inr (some_high, inr (listed-high, inl (falls, same)))) =
          (ListRange (suc (at + length (digits_of head))), sym same, subst (λ (n : ℕ). Lowest text (ListRange n)) place (second_below text before head rest (behind_dash head) item (dash_first (behind_digits head) e) some listed some_high falls))
      last e (inr (some_high, inr (listed-high, inr (rises, inl (more_left, same))))) = (
        ListShape (suc (at + length (digits_of head)) + length (digits_of (behind_dash head))),
        sym same,
        subst (λ (n : ℕ). Lowest text (ListShape (n + length (digits_of (behind_dash head))))) place
            (second_unended text before head rest (behind_dash head) item (dash_first (behind_digits head) e) some listed some_high listed-high rises more_left),
      )
      last e (inr (some_high, inr (listed-high, inr (rises, inr (_, none))))) = absurd none

      go : (b : Bool) → is_dashed head ≡ b → FirstOffence (more_rules b (value_of (digits_of head)) (at + length (digits_of head)) (behind_digits head)) refusal → Found text refusal
      go true e offence = last e offence
      go false e (inl (more_left, same)) = (ListShape (at + length (digits_of head)), sym same, first_unended text before head rest item some listed e more_left)
      go false e (inr (_, none)) = absurd none

  pub item_passed : AllKept (item_rules at head) → NumbersBelow text (suc (at + length head))
  unfolding item_rules more_rules last_rules number_rules end_rules AllKept
  item_passed (some, (listed, more)) = go (is_dashed head) refl more
    where
      go : (b : Bool) → is_dashed head ≡ b → AllKept (more_rules b (value_of (digits_of head)) (at + length (digits_of head)) (behind_digits head)) → NumbersBelow text (suc (at + length head))
      go true e (some_high, (listed-high, (rises, (none, _)))) =
          let high = behind_dash head in
          let dashed = dash_first (behind_digits head) e in
          let size : length head ≡ length (digits_of head) + suc (length (digits_of high)) =
          omega (arith, none, ap length (digits_cut head), length-append (digits_of head) (behind_digits head), ap length dashed, ap length (digits_cut high), length-append (digits_of high) (behind_digits high)) in
          λ k within. past_second text before head rest high item dashed some listed some_high listed-high rises k
          (omega (arith, within, size, place, ap length (digits_second text before head rest high item dashed some listed)))
      go false e (none, _) =
          let size : length head ≡ length (digits_of head) = omega (arith, none, ap length (digits_cut head), length-append (digits_of head) (behind_digits head)) in
          λ k within. past_first text before head rest item some listed k (omega (arith, within, size, place))
