-- "Each byte is decided by its range: digit, comma or point, semicolon, line feed, anything else."
use Rattle.std.specs.Prelude.{ℕ, ◌≡◌, Bool, true, List, [], ◌∷◌, ◌⊎◌, eqb}
use Prim.Native.Char.{code}
use Prim.Native.String.{String, [] as end, ◌∷◌ as ◌then◌}
use Rattle.laws.specs.Choice.{pick, within}
use Rattle.model.specs.Rules.{InRange}

-- the bytes of a text of one-byte characters
unfoldable pub bytes_of : String → List ℕ
bytes_of end = []
bytes_of (c then s) = code c ∷ bytes_of s

-- the bytes of `0`, `9`, `,`, `.`, `;` and of a line feed
abbrev pub zero_digit : ℕ
zero_digit = 48

abbrev pub nine_digit : ℕ
nine_digit = 57

abbrev pub comma : ℕ
comma = 44

abbrev pub point : ℕ
point = 46

abbrev pub semicolon : ℕ
semicolon = 59

abbrev pub line_feed : ℕ
line_feed = 10

-- "digit"
abbrev pub IsDigit : ℕ → Type 0
IsDigit b = InRange zero_digit nine_digit b

abbrev pub is_digit : ℕ → Bool
is_digit b = within zero_digit nine_digit b

-- "comma or point"
abbrev pub IsMark : ℕ → Type 0
IsMark b = (b ≡ comma) ⊎ (b ≡ point)

abbrev pub is_mark : ℕ → Bool
is_mark b = pick (eqb b comma) true (eqb b point)

abbrev pub is_semicolon : ℕ → Bool
is_semicolon b = eqb b semicolon

abbrev pub is_line_feed : ℕ → Bool
is_line_feed b = eqb b line_feed

-- a semicolon or a line feed: what ends a field
abbrev pub is_end : ℕ → Bool
is_end b = pick (is_semicolon b) true (is_line_feed b)
