-- "digits": strings of digits and their value.
use Rattle.std.specs.Prelude.{ℕ, suc, ◌+◌, ◌-◌, ◌*◌, ◌^◌, ◌<◌, min, ◌≡◌, Bool, true, false, List, [], ◌∷◌, length, drop, ltb}
use Rattle.laws.specs.Choice.{pick}
use Rattle.form.specs.Bytes.{zero_digit, IsDigit, is_digit}
use Rattle.form.specs.Parts.{up_to}

-- each byte is a digit
unfoldable pub Digits : List ℕ → Type 0
Digits [] = Unit
Digits (b ∷ s) = IsDigit b × Digits s

unfoldable pub all_digits : List ℕ → Bool
all_digits [] = true
all_digits (b ∷ s) = pick (is_digit b) (all_digits s) false

-- the digits that s begins with
unfoldable pub digits_of : List ℕ → List ℕ
digits_of s = up_to (λ b. pick (is_digit b) false true) s

-- what stands behind them
abbrev pub behind_digits : List ℕ → List ℕ
behind_digits s = drop (length (digits_of s)) s

-- the value of a string of digits: a digit counts ten times what it would one place further
unfoldable pub value_of : List ℕ → ℕ
value_of [] = 0
value_of (b ∷ s) = (b - zero_digit) * 10 ^ length s + value_of s

-- a number as typed: one digit or more; leading zeros are read
pub record IsNumber (s : List ℕ) (value : ℕ) : Type 0 where
  pub some : 0 < length s
  pub digits : Digits s
  pub valued : value ≡ value_of s

abbrev pub is_number : List ℕ → Bool
is_number s = pick (ltb 0 (length s)) (all_digits s) false

-- "a number over 1,048,575": what is typed is at most this
abbrev pub most_typed : ℕ
most_typed = 1_048_575

-- a number as far as it matters: one that is over is the first that is
abbrev pub capped : ℕ → ℕ
capped value = min value (suc most_typed)
