-- Numbers where they stand in a text: which places have one, and that none of those passed over is wrong.
use mathlib.Core.Path.{◌≡◌, refl, sym, ap, ◌∙◌, subst}
use mathlib.Core.Bool.{Bool, true, false}
use mathlib.Core.List.{List, [], ◌∷◌}
use Prim.Native.Nat.{ℕ, zero, suc, ◌+◌, ◌-◌, ◌≤◌, ◌<◌}
use native.Mathlib.Omega.{arith}
use native.Mathlib.Decide.{dec_le}
use native.Mathlib.Nat.{add-zero}
use lib.ListN.{length, get_or, drop}
use lib.Seq.{get_or-drop}
use Rattle.laws.proofs.Every.{clash}
use Rattle.form.specs.Bytes.{comma, is_digit}
use Rattle.form.specs.Numbers.{digits_of, value_of}
use Rattle.form.proofs.Digits.{digits_more, digits_stop, digits_none, digits_stopped, digits_over}
use Rattle.list_form.specs.Items.{dash, most_listed}
use Rattle.list_form.specs.Offences.{NumberAt, NumberOver, RangeFalls}
use Rattle.list_form.proofs.Items.{number_front}

digit_inside : (s : List ℕ) (k : ℕ) → k < length (digits_of s) → is_digit (get_or s k 0) ≡ true
digit_inside [] k inside = absurd (omega (arith, inside, ap length digits_none))
digit_inside (b ∷ s) k inside = go (is_digit b) refl k inside (digit_inside s)
  where
    go : (x : Bool) → is_digit b ≡ x → (j : ℕ) → j < length (digits_of (b ∷ s)) → ((n : ℕ) → n < length (digits_of s) → is_digit (get_or s n 0) ≡ true) → is_digit (get_or (b ∷ s) j 0) ≡ true
    go true e zero within earlier = e
    go true e (suc j) within earlier = earlier j (omega (arith, within, ap length (digits_more b s e)))
    go false e zero within earlier = absurd (omega (arith, within, ap length (digits_stop b s e)))
    go false e (suc j) within earlier = absurd (omega (arith, within, ap length (digits_stop b s e)))

module _ (text : List ℕ) where
  -- how many digits stand from a place on, and their value
  abbrev pub digits_at : ℕ → ℕ
  digits_at at = length (digits_of (drop at text))

  abbrev pub value_at : ℕ → ℕ
  value_at at = value_of (digits_of (drop at text))

  abbrev pub byte_at : ℕ → ℕ
  byte_at at = get_or text at 0

  digit_at : (at k : ℕ) → k < digits_at at → is_digit (byte_at (at + k)) ≡ true
  digit_at at k inside = ap is_digit (sym (get_or-drop at text k 0)) ∙ digit_inside (drop at text) k inside

  pub closed_at : (at : ℕ) → is_digit (byte_at (at + digits_at at)) ≡ false
  closed_at at =
      let same : byte_at (at + digits_at at) ≡ get_or (drop (digits_at at) (drop at text)) 0 0 =
      sym (get_or-drop at text (digits_at at) 0) ∙ ap (λ (n : ℕ). get_or (drop at text) n 0) (sym (add-zero (digits_at at))) ∙ sym (get_or-drop (digits_at at) (drop at text) 0 0) in
      ap is_digit same ∙ digits_over (drop at text)

  -- no number begins at a byte that is no digit, nor behind a digit
  pub no_number : (at value : ℕ) → is_digit (byte_at at) ≡ false → NumberAt text at value → ⊥
  no_number at value closed stands = omega (arith, stands.number.some, ap length (digits_stopped text at closed))

  no_second : (before value : ℕ) → is_digit (byte_at before) ≡ true → NumberAt text (suc before) value → ⊥
  no_second before value digit stands = clash (sym (stands.begins before refl) ∙ digit)

  -- the digits up to a place are of one number
  not_within : (one other v w : ℕ) → NumberAt text one v → NumberAt text other w → one + digits_at one ≡ other + digits_at other → one < other → ⊥
  not_within one other v w p q ends less =
      let gap : other ≡ suc (one + (other - suc one)) = omega (arith, less) in
      clash (sym (q.begins (one + (other - suc one)) gap) ∙ digit_at one (other - suc one) (omega (arith, less, ends, q.number.some)))

  one_number : (one other v w : ℕ) → NumberAt text one v → NumberAt text other w → one + digits_at one ≡ other + digits_at other → one ≡ other
  one_number one other v w p q ends = go (dec_le (suc one) other) (dec_le (suc other) one)
    where
      go : Dec (one < other) → Dec (other < one) → one ≡ other
      go (yes less) _ = absurd (not_within one other v w p q ends less)
      go (no least) (yes more) = absurd (not_within other one w v q p (sym ends) more)
      go (no least) (no most) = omega (arith, least, most)

  -- neither 61 nor 62 at a place
  pub record NumbersRight (at : ℕ) : Type 0 where
    pub no_over : NumberOver text at → ⊥
    pub no_fall : RangeFalls text at → ⊥

  abbrev pub NumbersBelow : ℕ → Type 0
  NumbersBelow at = (k : ℕ) → k < at → NumbersRight k

  none_right : (at : ℕ) → ((value : ℕ) → NumberAt text at value → ⊥) → NumbersRight at
  none_right at none = record { no_over = λ over. none over.value over.stands; no_fall = λ fall. none fall.last fall.follows }

  -- past the digits of a number and what stands behind them
  pub past_number : (at : ℕ) → NumbersBelow at → NumbersRight at → NumbersBelow (suc (at + digits_at at))
  past_number at below here k within = go (dec_le (suc k) at) (dec_le k at) (dec_le (at + digits_at at) k)
    where
      go : Dec (k < at) → Dec (k ≤ at) → Dec (at + digits_at at ≤ k) → NumbersRight k
      go (yes earlier) _ _ = below k earlier
      go (no later) (yes most) _ = let same : at ≡ k = omega (arith, later, most) in subst NumbersRight same here
      go (no later) (no above) (yes last) =
          let same : at + digits_at at ≡ k = omega (arith, last, within) in none_right k (λ value. no_number k value (ap (λ (n : ℕ). is_digit (byte_at n)) (sym same) ∙ closed_at at))
      go (no later) (no above) (no among) =
          let same : suc (at + (k - suc at)) ≡ k = omega (arith, above) in
          subst NumbersRight same (none_right (suc (at + (k - suc at))) (λ value. no_second (at + (k - suc at)) value (digit_at at (k - suc at) (omega (arith, above, among)))))

  -- an item begins at the text's begin, and behind a comma
  abbrev pub BehindComma : ℕ → Type 0
  BehindComma at = (before : ℕ) → at ≡ suc before → byte_at before ≡ comma

  module _ (at : ℕ) (start : BehindComma at) where
    pub first_number : 0 < digits_at at → NumberAt text at (value_at at)
    first_number some = record { begins = λ before e. ap is_digit (start before e); number = number_front (drop at text) some }

    pub first_over : 0 < digits_at at → most_listed < value_at at → NumberOver text at
    first_over some over = record { value = value_at at; stands = first_number some; over = over }

    pub first_right : value_at at ≤ most_listed → NumbersRight at
    first_right listed =
        record {
          no_over = λ over. omega (arith, listed, over.over, over.stands.number.valued);
          no_fall = λ fall. omega (arith, sym fall.dashed ∙ start _ fall.behind-dash);
        }

  -- the second number of a range, behind the dash
  module _ (at : ℕ) (first : NumberAt text at (value_at at)) (dashed : byte_at (at + digits_at at) ≡ dash) where
    abbrev second_at : ℕ
    second_at = suc (at + digits_at at)

    second_number : 0 < digits_at second_at → NumberAt text second_at (value_at second_at)
    second_number some =
        record {
          begins = λ before e. ap is_digit (ap byte_at (omega (arith, e)) ∙ dashed);
          number = number_front (drop second_at text) some;
        }

    pub second_over : 0 < digits_at second_at → most_listed < value_at second_at → NumberOver text second_at
    second_over some over = record { value = value_at second_at; stands = second_number some; over = over }

    pub second_falls : 0 < digits_at second_at → value_at second_at < value_at at → RangeFalls text second_at
    second_falls some falls =
        record {
          first_at = at;
          first = value_at at;
          last = value_at second_at;
          stands = first;
          follows = second_number some;
          behind-dash = refl;
          dashed = dashed;
          falls = falls;
        }

    pub second_right : value_at second_at ≤ most_listed → value_at at ≤ value_at second_at → NumbersRight second_at
    second_right listed rises = record { no_over = λ over. omega (arith, listed, over.over, over.stands.number.valued); no_fall = not_falling }
      where
        not_falling : RangeFalls text (suc (at + digits_at at)) → ⊥
        not_falling fall =
            let ends : fall.first_at + digits_at fall.first_at ≡ at + digits_at at = omega (arith, fall.behind-dash) in
            let same : fall.first_at ≡ at = one_number fall.first_at at fall.first (value_at at) fall.stands first ends in
            let value : fall.first ≡ value_at at = fall.stands.number.valued ∙ ap value_at same in
            omega (arith, value, fall.follows.number.valued, fall.falls, rises)
