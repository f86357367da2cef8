-- What is wrong where the first number of an item breaks a rule, and that nothing is wrong up to its end where it breaks none.
use mathlib.Core.Path.{◌≡◌, refl, sym, ap, ◌∙◌, subst}
use mathlib.Core.Bool.{false}
use mathlib.Core.List.{List, [], ◌∷◌, ◌++◌, append_assoc}
use mathlib.Core.Logic.{inl}
use Prim.Native.Nat.{ℕ, suc, ◌+◌, ◌≤◌, ◌<◌}
use native.Mathlib.Omega.{arith}
use native.Mathlib.Nat.{add-zero}
use lib.Dec.{eqb}
use lib.ListN.{length, get_or, drop, length-append}
use lib.Seq.{drop-append_seam, get_or-append-add}
use borrow.Author.Tests.{eq-eqb}
use Rattle.laws.proofs.Every.{clash}
use Rattle.model.specs.declared.answer.ListCause.{ListCause}
use Rattle.model.specs.declared.answer.ListCause.TheVariants.{ListShape, ListNumber, ListRange, ListLength}
use Rattle.form.specs.Bytes.{comma, is_digit}
use Rattle.form.specs.Parts.{count}
use Rattle.form.specs.Numbers.{digits_of, behind_digits, value_of}
use Rattle.form.proofs.Parts.{count-append, none_first}
use Rattle.form.proofs.Digits.{digits_cut, digits_over}
use Rattle.list_form.specs.Items.{dash, most_listed}
use Rattle.list_form.specs.Offences.{IsFront, BreaksAt, NumberAt, NumberOver, RangeFalls, SoundBelow}
use Rattle.list_form.proofs.Items.{digits_front, number_front}
use Rattle.list_form.proofs.Fronts.{not_broken_below}
use Rattle.list_form.proofs.Starts.{ItemStart, front_start, front_item}
use Rattle.list_form.proofs.Broken.{broken_start, broken_first}
use Rattle.list_form.proofs.Places.{digits_at, value_at, byte_at, closed_at, no_number, NumbersBelow, past_number, BehindComma, first_over, first_right}
use Rattle.list_form.proofs.Sound.{sound_below}
use Rattle.list.specs.Read.{is_comma, is_dashed}

-- what is wrong at the lowest place, by the cause of the refusal; no other cause has that place
unfoldable pub Lowest : List ℕ → ListCause → Type 0
Lowest text (ListShape at) = BreaksAt text at × ((value : ℕ) → NumberAt text at value → ⊥) × SoundBelow text at
Lowest text (ListNumber at) = NumberOver text at × (BreaksAt text at → ⊥) × SoundBelow text at
Lowest text (ListRange at) = RangeFalls text at × (BreaksAt text at → ⊥) × SoundBelow text at
Lowest text ListLength = ⊥

-- an item begins here, all before it being right, and is followed by a comma or nothing
pub record AtItem (text before head rest : List ℕ) : Type 0 where
  pub bytes : text ≡ before ++ (head ++ rest)
  pub start : ItemStart before
  pub behind-comma : BehindComma text (length before)
  pub below : NumbersBelow text (length before)
  pub closed : is_digit (get_or rest 0 0) ≡ false
  pub no_comma : count is_comma head ≡ 0
  pub some : 0 < length text

-- the byte behind a front
pub byte_behind : (text front s : List ℕ) → text ≡ front ++ s → byte_at text (length front) ≡ get_or s 0 0
byte_behind text front s bytes = ap (λ (n : ℕ). get_or text n 0) (sym (add-zero (length front))) ∙ ap (λ (t : List ℕ). get_or t (length front + 0) 0) bytes ∙ get_or-append-add front s 0 0

-- what stands behind the digits of bytes without a comma
pub closed_first : (s : List ℕ) (b : ℕ) (left : List ℕ) → behind_digits s ≡ b ∷ left → is_digit b ≡ false
closed_first s b left is = ap (λ (l : List ℕ). is_digit (get_or l 0 0)) (sym is) ∙ digits_over s

pub comma_none : (s : List ℕ) (b : ℕ) (left : List ℕ) → behind_digits s ≡ b ∷ left → count is_comma s ≡ 0 → b ≡ comma → ⊥
comma_none s b left is none e =
    let left-none : count is_comma (behind_digits s) ≡ 0 = omega (arith, none, ap (count is_comma) (digits_cut s), count-append is_comma (digits_of s) (behind_digits s)) in
    clash (sym (none_first is_comma b left (ap (count is_comma) (sym is) ∙ left-none)) ∙ eq-eqb b comma e)

module _ (text before head rest : List ℕ) (item : AtItem text before head rest) where
  abbrev at : ℕ
  at = length before

  pub digits_here : digits_of (drop at text) ≡ digits_of head
  digits_here = ap digits_of (ap (drop at) item.bytes ∙ drop-append_seam before (head ++ rest)) ∙ digits_front head rest item.closed

  pub count_here : digits_at text at ≡ length (digits_of head)
  count_here = ap length digits_here

  pub value_here : value_at text at ≡ value_of (digits_of head)
  value_here = ap value_of digits_here

  -- cut behind the first number
  pub cut_here : text ≡ before ++ (digits_of head ++ (behind_digits head ++ rest))
  cut_here = item.bytes ∙ ap (before ++◌) (ap (◌++ rest) (digits_cut head) ∙ append_assoc (digits_of head) (behind_digits head) rest)

  number_bytes : text ≡ (before ++ digits_of head) ++ (behind_digits head ++ rest)
  number_bytes = cut_here ∙ sym (append_assoc before (digits_of head) (behind_digits head ++ rest))

  number_ends : length (before ++ digits_of head) ≡ at + length (digits_of head)
  number_ends = length-append before (digits_of head)

  -- 60: no digit
  pub first_none : (1 ≤ length (digits_of head) → ⊥) → Lowest text (ListShape at)
  unfolding Lowest
  first_none none =
      let empty : digits_at text at ≡ 0 = omega (arith, none, count_here) in
      let closed : is_digit (byte_at text at) ≡ false = ap (λ (n : ℕ). is_digit (byte_at text n)) (omega (arith, empty)) ∙ closed_at text at in
      let closed-byte : is_digit (get_or (head ++ rest) 0 0) ≡ false = ap is_digit (sym (byte_behind text before (head ++ rest) item.bytes)) ∙ closed in (
        broken_start text before item.start (head ++ rest) item.bytes closed-byte item.some,
        (λ value. no_number text at value closed),
        sound_below text before (head ++ rest) item.bytes (front_start before item.start) item.below,
      )

  module _ (some : 1 ≤ length (digits_of head)) where
    number_is_front : IsFront (before ++ digits_of head)
    number_is_front = front_item before item.start (digits_of head) (record { first = value_of (digits_of head); last = value_of (digits_of head) }) (inl (number_front head some, refl))

    -- 61
    pub first_too_large : (value_of (digits_of head) ≤ most_listed → ⊥) → Lowest text (ListNumber at)
    unfolding Lowest
    first_too_large over = (
      first_over text at item.behind-comma (omega (arith, some, count_here)) (omega (arith, over, value_here)),
      not_broken_below text (before ++ digits_of head) (behind_digits head ++ rest) number_bytes number_is_front at (omega (arith, some, number_ends)),
      sound_below text before (head ++ rest) item.bytes (front_start before item.start) item.below,
    )

    module _ (listed : value_of (digits_of head) ≤ most_listed) where
      pub past_first : NumbersBelow text (suc (at + digits_at text at))
      past_first = past_number text at item.below (first_right text at item.behind-comma (omega (arith, listed, value_here)))

      -- 60: something that no item goes on with
      first_followed : (b : ℕ) (left : List ℕ) → behind_digits head ≡ b ∷ left → is_dashed head ≡ false → Lowest text (ListShape (length (before ++ digits_of head)))
      unfolding Lowest
      first_followed b left is dashed =
          let closed : is_digit b ≡ false = closed_first head b left is in
          let no-dash : b ≡ dash → ⊥ = λ e. clash (sym dashed ∙ ap (λ (l : List ℕ). eqb (get_or l 0 0) dash) is ∙ eq-eqb b dash e) in (
            broken_first text before item.start (digits_of head) (value_of (digits_of head)) b (left ++ rest) (cut_here ∙ ap (λ (l : List ℕ). before ++ (digits_of head ++ (l ++ rest))) is) (number_front head some) closed
                no-dash (comma_none head b left is item.no_comma),
            (λ value. no_number text (length (before ++ digits_of head)) value
                (ap is_digit (byte_behind text (before ++ digits_of head) (behind_digits head ++ rest) number_bytes ∙ ap (λ (l : List ℕ). get_or (l ++ rest) 0 0) is) ∙ closed)),
            sound_below text (before ++ digits_of head) (behind_digits head ++ rest) number_bytes number_is_front (λ k within. past_first k (omega (arith, within, number_ends, count_here))),
          )

      pub first_unended : is_dashed head ≡ false → (length (behind_digits head) ≤ 0 → ⊥) → Lowest text (ListShape (at + length (digits_of head)))
      first_unended dashed more = go (behind_digits head) refl
        where
          go : (left : List ℕ) → behind_digits head ≡ left → Lowest text (ListShape (at + length (digits_of head)))
          go [] is = absurd (more (omega (arith, ap length is)))
          go (b ∷ left) is = subst (λ (n : ℕ). Lowest text (ListShape n)) number_ends (first_followed b left is dashed)
