-- What is wrong where the second number of a range breaks a rule, and that nothing is wrong up to its end where it breaks none.
use mathlib.Core.Path.{◌≡◌, refl, sym, ap, ◌∙◌, subst}
use mathlib.Core.Bool.{false}
use mathlib.Core.List.{List, [], ◌∷◌, ◌++◌, append_assoc}
use mathlib.Core.Logic.{inr}
use Prim.Native.Nat.{ℕ, suc, ◌+◌, ◌≤◌}
use native.Mathlib.Omega.{arith}
use lib.ListN.{length, get_or, drop, length-append}
use lib.Seq.{drop_at, get_or_at}
use Rattle.model.specs.declared.answer.ListCause.TheVariants.{ListShape, ListNumber, ListRange}
use Rattle.form.specs.Bytes.{is_digit}
use Rattle.form.specs.Parts.{count}
use Rattle.form.specs.Numbers.{digits_of, behind_digits, value_of}
use Rattle.form.proofs.Parts.{count-append, count_cons}
use Rattle.form.proofs.Digits.{digits_cut}
use Rattle.list_form.specs.Items.{dash, most_listed}
use Rattle.list_form.specs.Offences.{IsFront, BreaksAt, NumberAt, SoundBelow}
use Rattle.list_form.proofs.Items.{digits_front, number_front}
use Rattle.list_form.proofs.Fronts.{not_broken_below}
use Rattle.list_form.proofs.Starts.{front_item, front_dash}
use Rattle.list_form.proofs.Broken.{broken_dash, broken_last}
use Rattle.list_form.proofs.Places.{digits_at, value_at, byte_at, closed_at, no_number, NumbersBelow, past_number, first_number, second_over, second_falls, second_right}
use Rattle.list_form.proofs.Sound.{sound_below}
use Rattle.list.specs.Read.{is_comma}
use Rattle.list_facts.proofs.First.{Lowest, AtItem, byte_behind, closed_first, comma_none, count_here, value_here, cut_here, past_first}

module _
    (text before head rest high : List ℕ)
    (item : AtItem text before head rest)
    (dashed : behind_digits head ≡ dash ∷ high)
    (some : 1 ≤ length (digits_of head))
    (listed : value_of (digits_of head) ≤ most_listed)
  where
    abbrev at : ℕ
    at = length before

    -- the bytes up to the dash, and up to the end of the second number
    abbrev up_to-dash : List ℕ
    up_to-dash = before ++ (digits_of head ++ (dash ∷ []))

    abbrev up_to_last : List ℕ
    up_to_last = before ++ (digits_of head ++ (dash ∷ digits_of high))

    abbrev second_at : ℕ
    second_at = suc (at + digits_at text at)

    dash_cut : text ≡ before ++ (digits_of head ++ (dash ∷ (high ++ rest)))
    dash_cut = cut_here text before head rest item ∙ ap (λ (l : List ℕ). before ++ (digits_of head ++ (l ++ rest))) dashed

    dash_bytes : text ≡ up_to-dash ++ (high ++ rest)
    dash_bytes = dash_cut ∙ sym (append_assoc before (digits_of head ++ (dash ∷ [])) (high ++ rest) ∙ ap (before ++◌) (append_assoc (digits_of head) (dash ∷ []) (high ++ rest)))

    last_bytes : text ≡ up_to_last ++ (behind_digits high ++ rest)
    last_bytes =
        dash_cut
        ∙ ap (λ (l : List ℕ). before ++ (digits_of head ++ (dash ∷ l))) (ap (◌++ rest) (digits_cut high) ∙ append_assoc (digits_of high) (behind_digits high) rest)
        ∙ sym (append_assoc before (digits_of head ++ (dash ∷ digits_of high)) (behind_digits high ++ rest) ∙ ap (before ++◌) (append_assoc (digits_of head) (dash ∷ digits_of high) (behind_digits high ++ rest)))

    dash-length : length up_to-dash ≡ second_at
    dash-length = omega (arith, length-append before (digits_of head ++ (dash ∷ [])), length-append (digits_of head) (dash ∷ []), count_here text before head rest item)

    last_length : length up_to_last ≡ second_at + length (digits_of high)
    last_length = omega (arith, length-append before (digits_of head ++ (dash ∷ digits_of high)), length-append (digits_of head) (dash ∷ digits_of high), count_here text before head rest item)

    pub digits_second : digits_of (drop second_at text) ≡ digits_of high
    digits_second = ap digits_of (ap (drop second_at) dash_bytes ∙ drop_at up_to-dash (high ++ rest) second_at dash-length) ∙ digits_front high rest item.closed

    first_stands : NumberAt text at (value_at text at)
    first_stands = first_number text at item.behind-comma (omega (arith, some, count_here text before head rest item))

    dash_stands : byte_at text (at + digits_at text at) ≡ dash
    dash_stands =
        ap (λ (t : List ℕ). get_or t (at + digits_at text at) 0) (dash_cut ∙ sym (append_assoc before (digits_of head) (dash ∷ (high ++ rest))))
        ∙ get_or_at (before ++ digits_of head) dash (high ++ rest) 0 (at + digits_at text at) (omega (arith, length-append before (digits_of head), count_here text before head rest item))

    below_second : NumbersBelow text second_at
    below_second = past_first text before head rest item some listed

    dash_sound : SoundBelow text (length up_to-dash)
    dash_sound =
        sound_below text up_to-dash (high ++ rest) dash_bytes (front_dash before item.start (digits_of head) (value_of (digits_of head)) (number_front head some))
        (λ k within. below_second k (omega (arith, within, dash-length)))

    no_second : (1 ≤ length (digits_of high) → ⊥) → Lowest text (ListShape (length up_to-dash))
    unfolding Lowest
    no_second none =
        let empty : digits_at text second_at ≡ 0 = omega (arith, none, ap length digits_second) in
        let closed : is_digit (byte_at text (length up_to-dash)) ≡ false = ap (λ (n : ℕ). is_digit (byte_at text n)) (omega (arith, empty, dash-length)) ∙ closed_at text second_at in
        let closed-byte : is_digit (get_or (high ++ rest) 0 0) ≡ false = ap is_digit (sym (byte_behind text up_to-dash (high ++ rest) dash_bytes)) ∙ closed in (
          broken_dash text before item.start (digits_of head) (value_of (digits_of head)) (high ++ rest) dash_cut (number_front head some) closed-byte,
          (λ value. no_number text (length up_to-dash) value closed),
          dash_sound,
        )

    -- 60: no digit
    pub second_none : (1 ≤ length (digits_of high) → ⊥) → Lowest text (ListShape second_at)
    second_none none = subst (λ (n : ℕ). Lowest text (ListShape n)) dash-length (no_second none)

    module _ (some_high : 1 ≤ length (digits_of high)) where
      last_front : IsFront up_to_last
      last_front =
          front_item before item.start (digits_of head ++ (dash ∷ digits_of high)) (record { first = value_of (digits_of head); last = value_of (digits_of high) })
          (inr (record { low = digits_of head; high = digits_of high; bytes = refl; from = number_front head some; to = number_front high some_high }))

      not_broken : BreaksAt text second_at → ⊥
      not_broken = not_broken_below text up_to_last (behind_digits high ++ rest) last_bytes last_front second_at (omega (arith, last_length, some_high))

      second_sound : SoundBelow text second_at
      second_sound = subst (λ (n : ℕ). SoundBelow text n) dash-length dash_sound

      -- 61
      pub second_too_large : (value_of (digits_of high) ≤ most_listed → ⊥) → Lowest text (ListNumber second_at)
      unfolding Lowest
      second_too_large over = (
        second_over text at first_stands dash_stands (omega (arith, some_high, ap length digits_second)) (omega (arith, over, ap value_of digits_second)),
        not_broken,
        second_sound,
      )

      -- 62
      pub second_below : (value_of (digits_of head) ≤ value_of (digits_of high) → ⊥) → Lowest text (ListRange second_at)
      unfolding Lowest
      second_below falls = (
        second_falls text at first_stands dash_stands (omega (arith, some_high, ap length digits_second)) (omega (arith, falls, ap value_of digits_second, value_here text before head rest item)),
        not_broken,
        second_sound,
      )

      module _ (listed-high : value_of (digits_of high) ≤ most_listed) (rises : value_of (digits_of head) ≤ value_of (digits_of high)) where
        pub past_second : NumbersBelow text (suc (second_at + digits_at text second_at))
        past_second =
            past_number text second_at below_second
            (second_right text at first_stands dash_stands (omega (arith, listed-high, ap value_of digits_second)) (omega (arith, rises, ap value_of digits_second, value_here text before head rest item)))

        no_comma : count is_comma high ≡ 0
        no_comma = omega (arith, item.no_comma, ap (count is_comma) (digits_cut head ∙ ap (digits_of head ++◌) dashed), count-append is_comma (digits_of head) (dash ∷ high), count_cons is_comma dash high)

        -- 60: something other than a comma
        second_followed : (b : ℕ) (left : List ℕ) → behind_digits high ≡ b ∷ left → Lowest text (ListShape (length up_to_last))
        unfolding Lowest
        second_followed b left is =
            let closed : is_digit b ≡ false = closed_first high b left is in (
              broken_last text before item.start (digits_of head) (digits_of high) (value_of (digits_of head)) (value_of (digits_of high)) b (left ++ rest) last_cut
                  (number_front head some) (number_front high some_high) closed (comma_none high b left is no_comma),
              (λ value. no_number text (length up_to_last) value
                  (ap is_digit (byte_behind text up_to_last (behind_digits high ++ rest) last_bytes ∙ ap (λ (l : List ℕ). get_or (l ++ rest) 0 0) is) ∙ closed)),
              sound_below text up_to_last (behind_digits high ++ rest) last_bytes last_front (λ k within. past_second k (omega (arith, within, last_length, ap length digits_second))),
            )
          where
            last_cut : text ≡ before ++ (digits_of head ++ (dash ∷ (digits_of high ++ (b ∷ (left ++ rest)))))
            last_cut =
                dash_cut
                ∙ ap (λ (l : List ℕ). before ++ (digits_of head ++ (dash ∷ l))) (ap (◌++ rest) (digits_cut high ∙ ap (digits_of high ++◌) is) ∙ append_assoc (digits_of high) (b ∷ left) rest)

        pub second_unended : (length (behind_digits high) ≤ 0 → ⊥) → Lowest text (ListShape (second_at + length (digits_of high)))
        second_unended more = go (behind_digits high) refl
          where
            go : (left : List ℕ) → behind_digits high ≡ left → Lowest text (ListShape (suc (at + digits_at text at) + length (digits_of high)))
            go [] is = absurd (more (omega (arith, ap length is)))
            go (b ∷ left) is = subst (λ (n : ℕ). Lowest text (ListShape n)) last_length (second_followed b left is)
