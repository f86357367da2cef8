-- "Each byte is decided by its range: digit, comma or point, semicolon, line feed, anything else."
use Rattle.std.specs.Prelude.{ℕ, List, get_or}
use Rattle.laws.specs.Choice.{pick}
use Rattle.form.specs.Bytes.{is_digit, is_mark, is_semicolon, is_line_feed}
use Rattle.typed.specs.declared.Kind.{Kind}
use Rattle.typed.specs.declared.Kind.TheVariants.{Digit, Mark, Semicolon, LineFeed, Other}
use Rattle.typed.specs.declared.FieldEnd.{FieldEnd}
use Rattle.typed.specs.declared.FieldEnd.TheVariants as field

-- what a byte is
unfoldable pub kind_of : ℕ → Kind
kind_of b = pick (is_digit b) Digit (pick (is_mark b) Mark (pick (is_semicolon b) Semicolon (pick (is_line_feed b) LineFeed Other)))

-- the kind of the byte at i; past the end there is none
abbrev pub kind_at : List ℕ → ℕ → Kind
kind_at s i = kind_of (get_or s i 0)

-- the kind of the byte that ends a field
abbrev pub end_kind : FieldEnd → Kind
end_kind field.Semicolon = Semicolon
end_kind field.LineFeed = LineFeed
