-- Whether a number or a time is taken, told by its digits and the bytes behind them.
use mathlib.Core.Path.{◌≡◌, sym, ap, ◌∙◌, subst}
use mathlib.Core.Bool.{Bool, true, false}
use mathlib.Core.List.{List}
use Prim.Native.Nat.{ℕ, zero, suc, ◌+◌, ◌≤◌, ◌<◌}
use lib.Dec.{eqb, ltb}
use borrow.Author.Tests.{lt-ltb, le-ltb}
use lib.ListN.{length, get_or, drop}
use lib.Seq.{get_or-drop}
use native.Mathlib.Omega.{arith}
use native.Mathlib.Decide.{dec_le}
use Rattle.laws.specs.Choice.{pick}
use Rattle.laws.proofs.Choice.{pick-never}
use Rattle.form.specs.Bytes.{semicolon, IsDigit, IsMark, is_end}
use Rattle.form.specs.Parts.{count}
use Rattle.form.specs.Numbers.{digits_of, Digits, value_of, is_number, capped}
use Rattle.form.proofs.Bytes.{digit_no_semicolon, digit_no_line_feed, mark_no_semicolon, mark_no_line_feed}
use Rattle.form.proofs.Numbers.{digits_none}
use Rattle.std.specs.Prelude.{Some, None}
use Rattle.typed.specs.declared.FieldEnd.TheVariants.{Semicolon}
use Rattle.typed.specs.Taken.{TakesDigits, field_of, ends_at, TakesFormField}
use Rattle.form.proofs.Digits.{digits_are, digits_cut, digits_over}
use Rattle.typed.proofs.Found.{of_some, of_none}
use Rattle.typed.proofs.Fields.{field_told, field_is}
use Rattle.typed.proofs.Shapes.{not_number, number_is}

-- no digit ends a field, and no comma or point
pub digit_no_end : (b : ℕ) → IsDigit b → is_end b ≡ false
digit_no_end b d = rw (digit_no_semicolon b d, digit_no_line_feed b d)

pub mark_no_end : (b : ℕ) → IsMark b → is_end b ≡ false
mark_no_end b m = rw (mark_no_semicolon b m, mark_no_line_feed b m)

pub no_ends : (digits : List ℕ) → Digits digits → count is_end digits ≡ 0
no_ends digits d = digits_none is_end digit_no_end digits d

module _ (s : List ℕ) where
  abbrev digits : List ℕ
  digits = digits_of s

  abbrev rest : List ℕ
  rest = drop (length (digits_of s)) s

  pub number_told : pick (ends_at Semicolon s (length (field_of s))) (is_number (field_of s)) false ≡ pick (ends_at Semicolon rest 0) (ltb 0 (length digits)) false
  number_told =
      subst (λ (t : List ℕ). pick (ends_at Semicolon t (length (field_of t))) (is_number (field_of t)) false ≡ pick (ends_at Semicolon rest 0) (is_number digits) false) (sym (digits_cut s))
      (field_told is_number Semicolon digits (no_ends digits (digits_are s)) rest (λ more e. not_number digits (get_or rest 0 0) more (digits_over s)))
      ∙ ap (λ (x : Bool). pick (ends_at Semicolon rest 0) x false) (number_is digits (digits_are s))

  -- and then it is its digits
  pub number_field : ends_at Semicolon rest 0 ≡ true → field_of s ≡ digits
  number_field e = ap field_of (digits_cut s) ∙ field_is is_number Semicolon digits (no_ends digits (digits_are s)) rest e

-- what stands from the end of the digits on
pub rest_at : (text : List ℕ) (at : ℕ) (more : ℕ) → get_or (drop more (drop at text)) 0 0 ≡ get_or text (at + more) 0
rest_at text at more = get_or-drop more (drop at text) 0 0 ∙ get_or-drop at text (more + 0) 0 ∙ ap (λ (i : ℕ). get_or text i 0) (omega arith)

-- some digits are taken, or none
pub some_taken : (at n : ℕ) → ltb at (at + n) ≡ ltb 0 n
some_taken at zero = le-ltb at (at + 0) (omega arith) ∙ sym (le-ltb 0 0 (omega arith))
some_taken at (suc n) = lt-ltb at (at + suc n) (omega arith) ∙ sym (lt-ltb 0 (suc n) (omega arith))

pub some_digits : (at next : ℕ) → at ≤ next → (next ≡ at → ⊥) → ltb at next ≡ true
some_digits at next below some = lt-ltb at next (go (dec_le next at))
  where
    go : Dec (next ≤ at) → at < next
    go (yes past) = absurd (some (omega (arith, past, below)))
    go (no further) = omega (arith, further)

module _ (text : List ℕ) (at value next : ℕ) (taken : TakesDigits (drop at text) at value next) where
  abbrev typed : List ℕ
  typed = drop at text

  behind_digits_lem : ends_at Semicolon text next ≡ ends_at Semicolon (drop (length (digits_of typed)) typed) 0
  behind_digits_lem = ap (ends_at Semicolon text) taken.1 ∙ ap (λ (b : ℕ). eqb b semicolon) (sym (rest_at text at (length (digits_of typed))))

  is_told : pick (ends_at Semicolon text next) (ltb at next) false ≡ pick (ends_at Semicolon typed (length (field_of typed))) (is_number (field_of typed)) false
  is_told = rw (behind_digits_lem, taken.1, some_taken at (length (digits_of typed))) (sym (number_told typed))

  not_taken : pick (ends_at Semicolon text next) (ltb at next) false ≡ false → TakesFormField is_number value_of Semicolon typed at None next
  not_taken bad = record { told = sym bad ∙ is_told; valued = of_none _; next_at = of_none _ }

  -- no number is taken where there is no digit, nor where its end is none
  pub no_digit : next ≡ at → TakesFormField is_number value_of Semicolon typed at None next
  no_digit none = not_taken (ap (λ (x : Bool). pick (ends_at Semicolon text next) x false) (le-ltb at next (omega (arith, none))) ∙ pick-never (ends_at Semicolon text next))

  pub no_number_end : ends_at Semicolon text next ≡ false → TakesFormField is_number value_of Semicolon typed at None next
  no_number_end bad = not_taken (rw bad)

  -- a number is taken
  pub number_taken : ends_at Semicolon text next ≡ true → (next ≡ at → ⊥)
      → TakesFormField is_number value_of Semicolon typed at (Some value) (next + 1)
  number_taken ended some =
      record {
        told = sym (rw ended (some_digits at next (omega (arith, taken.1)) some)) ∙ is_told;
        valued = of_some (λ (number : ℕ). number ≡ capped (value_of (field_of typed))) _ (taken.0 ∙ ap (λ (field : List ℕ). capped (value_of field)) (sym field));
        next_at = of_some (λ (number : ℕ). next + 1 ≡ at + suc (length (field_of typed))) _ (let e = ap length field in omega (arith, taken.1, e));
      }
    where
      field : field_of typed ≡ digits_of typed
      field = number_field typed (sym behind_digits_lem ∙ ended)
