-- "times in milliseconds as typed: digits, then optionally a comma or point and one or two digits, never more", and their ticks of 10 microseconds.
use Rattle.std.specs.Prelude.{ℕ, ◌+◌, ◌-◌, ◌*◌, ◌^◌, ◌≡◌, Bool, false, List, ◌∷◌, ◌++◌, ◌⊎◌, length, eqb}
use Rattle.laws.specs.Choice.{pick, within}
use Rattle.model.specs.Rules.{InRange}
use Rattle.form.specs.Bytes.{IsMark, is_mark}
use Rattle.form.specs.Parts.{count, part}
use Rattle.form.specs.Numbers.{Digits, all_digits, value_of, IsNumber, is_number}

-- "one or two digits, never more": one counts tenths of a millisecond, two count hundredths
pub record IsDecimals (s : List ℕ) (hundredths : ℕ) : Type 0 where
  pub digits : Digits s
  pub one_or_two : InRange 1 2 (length s)
  pub valued : hundredths ≡ value_of s * 10 ^ (2 - length s)

abbrev pub is_decimals : List ℕ → Bool
is_decimals s = pick (within 1 2 (length s)) (all_digits s) false

-- "digits": whole milliseconds, each 100 ticks
pub record IsWholeTime (s : List ℕ) (ticks : ℕ) : Type 0 where
  pub milliseconds : ℕ
  pub number : IsNumber s milliseconds
  pub valued : ticks ≡ 100 * milliseconds

-- "digits, then .. a comma or point and one or two digits"
pub record IsDecimalTime (s : List ℕ) (ticks : ℕ) : Type 0 where
  pub whole : List ℕ
  pub mark : ℕ
  pub decimals : List ℕ
  pub milliseconds : ℕ
  pub hundredths : ℕ
  pub bytes : s ≡ whole ++ (mark ∷ decimals)
  pub number : IsNumber whole milliseconds
  pub marked : IsMark mark
  pub decimal : IsDecimals decimals hundredths
  pub valued : ticks ≡ 100 * milliseconds + hundredths

-- a time as typed, and its ticks
abbrev pub IsTime : List ℕ → ℕ → Type 0
IsTime s ticks = IsWholeTime s ticks ⊎ IsDecimalTime s ticks

-- cut at its comma or point: digits alone, or digits before it and one or two behind it
unfoldable pub is_time : List ℕ → Bool
is_time s =
    pick (eqb (count is_mark s) 0)
    (is_number s)
    (pick (eqb (count is_mark s) 1) (pick (is_number (part is_mark 0 s)) (is_decimals (part is_mark 1 s)) false) false)

-- the ticks of a time: where no comma or point stands, nothing stands behind it
unfoldable pub ticks_of : List ℕ → ℕ
ticks_of s = 100 * value_of (part is_mark 0 s) + value_of (part is_mark 1 s) * 10 ^ (2 - length (part is_mark 1 s))
