-- What each piece taken from a text holds, and where the next one begins; s is the text from where it is taken.
use Rattle.std.specs.Prelude.{ℕ, suc, ◌+◌, ◌-◌, ◌*◌, ◌^◌, ◌≤◌, ◌≡◌, Bool, true, false, List, length, get_or, drop, eqb, Option, is_some}
use Rattle.std.specs.Option.{ForSome}
use Rattle.laws.specs.Choice.{pick, within}
use Rattle.laws.specs.Sums.{only}
use Rattle.typed.specs.declared.FieldEnd.{FieldEnd}
use Rattle.typed.specs.declared.FieldEnd.TheVariants.{Semicolon, LineFeed}
use Rattle.form.specs.Bytes.{is_mark, is_end, semicolon, line_feed}
use Rattle.form.specs.Parts.{up_to}
use Rattle.form.specs.Numbers.{digits_of, value_of, capped}

abbrev pub TakesDigits : List ℕ → (at value next : ℕ) → Type 0
TakesDigits s at value next = (value ≡ capped (value_of (digits_of s))) × (next ≡ at + length (digits_of s))

-- a comma or point, and one or two digits; or no comma or point, and nothing
unfoldable pub decimals_good : List ℕ → Bool
decimals_good s = pick (is_mark (get_or s 0 0)) (within 1 2 (length (digits_of (drop 1 s)))) true

-- how many bytes they are
unfoldable pub decimals_length : List ℕ → ℕ
decimals_length s = only (is_mark (get_or s 0 0)) (suc (length (digits_of (drop 1 s))))

unfoldable pub decimals_value : List ℕ → ℕ
decimals_value s = only (is_mark (get_or s 0 0)) (value_of (digits_of (drop 1 s)) * 10 ^ (2 - length (digits_of (drop 1 s))))

pub record TakesDecimals (s : List ℕ) (at : ℕ) (taken : Option ℕ) (next : ℕ) : Type 0 where
  pub told : is_some taken ≡ decimals_good s
  pub valued : ForSome taken (λ decimals. decimals ≡ decimals_value s)
  pub few : ForSome taken (λ decimals. decimals ≤ 99)
  pub next_at : next ≡ at + decimals_length s

-- the field that s begins with: up to a semicolon or a line feed
unfoldable pub field_of : List ℕ → List ℕ
field_of s = up_to is_end s

-- the byte that ends a field: the last of its line by a line feed, the others by a semicolon
abbrev pub end_byte : FieldEnd → ℕ
end_byte Semicolon = semicolon
end_byte LineFeed = line_feed

-- the byte at i ends a field
abbrev pub ends_at : FieldEnd → List ℕ → ℕ → Bool
ends_at end s i = eqb (get_or s i 0) (end_byte end)

-- a field that passes a test and is ended as it should be: its value, and where the next one begins
pub record TakesFormField (passes : List ℕ → Bool) (value : List ℕ → ℕ) (end : FieldEnd) (s : List ℕ) (at : ℕ) (taken : Option ℕ) (next : ℕ) : Type 0 where
  pub told : is_some taken ≡ pick (ends_at end s (length (field_of s))) (passes (field_of s)) false
  pub valued : ForSome taken (λ field. field ≡ capped (value (field_of s)))
  pub next_at : ForSome taken (λ field. next ≡ at + suc (length (field_of s)))
