-- Whether a time is taken, told by its digits, its decimals and the byte behind them.
use mathlib.Core.Path.{◌≡◌, refl, sym, ap, ◌∙◌, subst}
use mathlib.Core.Bool.{Bool, true, false}
use mathlib.Core.List.{List, ◌∷◌, ◌++◌, append_assoc}
use Prim.Native.Nat.{ℕ, suc, ◌+◌, ◌*◌, ◌≤◌, ◌<◌}
use native.Mathlib.Omega.{arith}
use native.Mathlib.Nat.{mul_comm}
use native.Mathlib.Decide.{dec_le}
use lib.Dec.{eqb, ltb}
use borrow.Author.Tests.{le-ltb}
use lib.ListN.{length, get_or, drop, length-append, get_or-eq_default}
use lib.Seq.{get_or-drop, get_or-append-add, drop-cons, drop-drop}
use Rattle.laws.specs.Choice.{pick, within}
use Rattle.laws.proofs.Choice.{pick_turned, pick-never}
use Rattle.laws.proofs.Every.{clash}
use Rattle.form.specs.Bytes.{is_mark, is_end}
use Rattle.form.specs.Parts.{count}
use Rattle.form.specs.Numbers.{digits_of, value_of, capped}
use Rattle.form.specs.Times.{is_time, ticks_of}
use Rattle.form.proofs.Bytes.{mark_true}
use Rattle.form.proofs.Parts.{count-append, none_cons}
use Rattle.form.proofs.Times.{ticks_whole, ticks_decimal}
use Rattle.std.specs.Prelude.{Option, Some, None, is_some}
use Rattle.typed.specs.declared.FieldEnd.{FieldEnd}
use Rattle.typed.specs.Taken.{TakesDigits, decimals_good, decimals_length, decimals_value, TakesDecimals, field_of, end_byte, ends_at, TakesFormField}
use Rattle.form.proofs.Digits.{digits_are, digits_cut, digits_over}
use Rattle.typed.proofs.Digits.{capped_scaled}
use Rattle.typed.proofs.Found.{of_some, of_none}
use Rattle.typed.proofs.Fields.{field_told, field_is}
use Rattle.typed.proofs.Shapes.{no_marks, whole_is, decimal_is, not_whole, not_decimal}
use Rattle.typed.proofs.Told.{mark_no_end, no_ends, some_taken, some_digits}

module _ (s : List ℕ) where
  abbrev whole : List ℕ
  whole = digits_of s

  abbrev behind_whole : List ℕ
  behind_whole = drop (length (digits_of s)) s

  -- the digits and the decimals that s begins with, and what follows them
  pub record TimeFront : Type 0 where
    pub front : List ℕ
    pub rest : List ℕ
    pub cut : s ≡ front ++ rest
    pub no_end : count is_end front ≡ 0
    pub stops : (more : List ℕ) → is_time (front ++ (get_or rest 0 0 ∷ more)) ≡ false
    pub good : is_time front ≡ pick (decimals_good behind_whole) (ltb 0 (length whole)) false
    pub ticks : ticks_of front ≡ 100 * value_of whole + decimals_value behind_whole
    pub size : length front ≡ length whole + decimals_length behind_whole

  unmarked : is_mark (get_or behind_whole 0 0) ≡ false → TimeFront
  unfolding decimals_good decimals_length decimals_value
  unmarked m =
      record {
        front = whole;
        rest = behind_whole;
        cut = digits_cut s;
        no_end = no_ends whole (digits_are s);
        stops = λ more. not_whole whole (get_or behind_whole 0 0) more (digits_over s) m;
        good = whole_is whole (digits_are s) ∙ rw m;
        ticks = ticks_whole whole (no_marks whole (digits_are s)) ∙ rw m (omega arith);
        size = rw m (omega arith);
      }

  module _ (m : is_mark (get_or behind_whole 0 0) ≡ true) where
    abbrev mark : ℕ
    mark = get_or behind_whole 0 0

    abbrev decimals : List ℕ
    decimals = digits_of (drop 1 behind_whole)

    abbrev last_rest : List ℕ
    last_rest = drop (length (digits_of (drop 1 behind_whole))) (drop 1 behind_whole)

    some_behind : 0 < length behind_whole
    some_behind = go (dec_le (length behind_whole) 0)
      where
        go : Dec (length behind_whole ≤ 0) → 0 < length behind_whole
        go (yes none) = clash (ap is_mark (sym (get_or-eq_default behind_whole 0 none)) ∙ m)
        go (no some) = omega (arith, some)

    pieces : s ≡ (whole ++ (mark ∷ decimals)) ++ last_rest
    pieces =
        digits_cut s ∙ ap (λ (r : List ℕ). whole ++ r) (drop-cons behind_whole 0 0 some_behind ∙ ap (λ (r : List ℕ). mark ∷ r) (digits_cut (drop 1 behind_whole)))
        ∙ sym (append_assoc whole (mark ∷ decimals) last_rest)

    marked : TimeFront
    unfolding decimals_good decimals_length decimals_value
    marked =
        record {
          front = whole ++ (mark ∷ decimals);
          rest = last_rest;
          cut = pieces;
          no_end = count-append is_end whole (mark ∷ decimals) ∙ omega (arith, no_ends whole (digits_are s), none_cons is_end mark decimals (mark_no_end mark (mark_true mark m)) (no_ends decimals (digits_are (drop 1 behind_whole))));
          stops = λ more. not_decimal whole mark decimals (digits_are s) m (digits_are (drop 1 behind_whole)) (get_or last_rest 0 0) more (digits_over (drop 1 behind_whole));
          good = decimal_is whole mark decimals (digits_are s) m (digits_are (drop 1 behind_whole)) ∙ pick_turned (ltb 0 (length whole)) (within 1 2 (length decimals)) ∙ rw m;
          ticks = ticks_decimal whole mark decimals (no_marks whole (digits_are s)) m (no_marks decimals (digits_are (drop 1 behind_whole))) ∙ rw m;
          size = length-append whole (mark ∷ decimals) ∙ rw m;
        }

  pub time_front : TimeFront
  time_front = go (is_mark (get_or behind_whole 0 0)) refl
    where
      go : (x : Bool) → is_mark (get_or behind_whole 0 0) ≡ x → TimeFront
      go true h = marked h
      go false h = unmarked h

module _ (text : List ℕ) (at : ℕ) (end : FieldEnd) (digits behind : ℕ) (taken : TakesDigits (drop at text) at digits behind) where
  abbrev typed : List ℕ
  typed = drop at text

  abbrev time : TimeFront typed
  time = time_front typed

  behind_is : drop behind text ≡ behind_whole typed
  behind_is = ap (λ (n : ℕ). drop n text) taken.1 ∙ sym (drop-drop (length (digits_of typed)) at text)

  field_at : pick (ends_at end typed (length (field_of typed))) (is_time (field_of typed)) false ≡ pick (ends_at end time.rest 0) (is_time time.front) false
  field_at =
      subst (λ (t : List ℕ). pick (ends_at end t (length (field_of t))) (is_time (field_of t)) false ≡ pick (ends_at end time.rest 0) (is_time time.front) false) (sym time.cut)
      (field_told is_time end time.front time.no_end time.rest (λ more e. time.stops more))

  -- no time is taken where its parts are none
  no_front : (next : ℕ) → is_time time.front ≡ false → TakesFormField is_time ticks_of end typed at None next
  no_front next bad =
      record {
        told = sym (field_at ∙ ap (λ (x : Bool). pick (ends_at end time.rest 0) x false) bad ∙ pick-never (ends_at end time.rest 0));
        valued = of_none _;
        next_at = of_none _;
      }

  pub no_whole : behind ≡ at → TakesFormField is_time ticks_of end typed at None behind
  no_whole none =
      let digitless : ltb 0 (length (digits_of typed)) ≡ false = le-ltb 0 (length (digits_of typed)) (omega (arith, none, taken.1)) in
      no_front behind (time.good ∙ ap (λ (x : Bool). pick (decimals_good (behind_whole typed)) x false) digitless ∙ pick-never (decimals_good (behind_whole typed)))

  module _ (found : Option ℕ) (next : ℕ) (decimals_taken : TakesDecimals (drop behind text) behind found next) where
    -- the front is a time where its parts are good
    good_is : pick (is_some found) (ltb at behind) false ≡ is_time time.front
    good_is =
        ap (λ (x : Bool). pick x (ltb at behind) false) (decimals_taken.told ∙ ap decimals_good behind_is)
        ∙ ap (λ (x : Bool). pick (decimals_good (behind_whole typed)) x false) (ap (ltb at) taken.1 ∙ some_taken at (length (digits_of typed))) ∙ sym time.good

    pub no_decimals : found ≡ None → TakesFormField is_time ticks_of end typed at None next
    no_decimals none = no_front next (sym good_is ∙ rw none)

    module _ (decimal : ℕ) (is-found : found ≡ Some decimal) where
      size_is : next ≡ at + length time.front
      size_is = let e = decimals_taken.next_at ∙ ap (λ (r : List ℕ). behind + decimals_length r) behind_is in omega (arith, e, taken.1, time.size)

      -- the byte behind the front
      end_is : ends_at end text next ≡ ends_at end time.rest 0
      end_is =
          ap (λ (b : ℕ). eqb b (end_byte end))
          (ap (λ (i : ℕ). get_or text i 0) size_is ∙ sym (get_or-drop at text (length time.front) 0) ∙ ap (λ (s : List ℕ). get_or s (length time.front) 0) time.cut
          ∙ ap (λ (i : ℕ). get_or (time.front ++ time.rest) i 0) (omega arith) ∙ get_or-append-add time.front time.rest 0 0)

      -- nor where its end is none
      pub no_time_end : ends_at end text next ≡ false → TakesFormField is_time ticks_of end typed at None next
      no_time_end bad =
          record { told = sym (field_at ∙ ap (λ (x : Bool). pick x (is_time time.front) false) (sym end_is ∙ bad)); valued = of_none _; next_at = of_none _ }

      -- a time is taken
      pub time_taken : ends_at end text next ≡ true → (behind ≡ at → ⊥) → TakesFormField is_time ticks_of end typed at (Some (capped (digits * 100 + decimal))) (next + 1)
      time_taken ended some =
          record {
            told = sym (field_at ∙ ap (λ (x : Bool). pick x (is_time time.front) false) (sym end_is ∙ ended) ∙ sym good_is ∙ ap (λ (x : Option ℕ). pick (is_some x) (ltb at behind) false) is-found ∙ some_digits at behind (omega (arith, taken.1)) some);
            valued = of_some (λ (ticks : ℕ). ticks ≡ capped (ticks_of (field_of typed))) _ (worth_is ∙ ap (λ (f : List ℕ). capped (ticks_of f)) (sym field));
            next_at = of_some (λ (ticks : ℕ). next + 1 ≡ at + suc (length (field_of typed))) _ (let e = ap length field in omega (arith, size_is, e));
          }
        where
          field : field_of typed ≡ time.front
          field = ap field_of time.cut ∙ field_is is_time end time.front time.no_end time.rest (sym end_is ∙ ended)

          worth_is : capped (digits * 100 + decimal) ≡ capped (ticks_of time.front)
          worth_is =
              ap (λ (v : ℕ). capped (digits * 100 + v)) (decimals_taken.valued decimal is-found ∙ ap decimals_value behind_is)
              ∙ ap (λ (v : ℕ). capped (v * 100 + decimals_value (behind_whole typed))) taken.0
              ∙ capped_scaled (value_of (digits_of typed)) 100 (decimals_value (behind_whole typed)) (omega arith)
              ∙ ap capped (ap (λ (v : ℕ). v + decimals_value (behind_whole typed)) (mul_comm (value_of (digits_of typed)) 100) ∙ sym time.ticks)
