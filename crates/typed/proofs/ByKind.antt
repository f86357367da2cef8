-- What the kind of a byte tells of it.
use mathlib.Core.Path.{◌≡◌, refl, sym, ap}
use mathlib.Core.Bool.{Bool, true, false}
use lib.Dec.{eqb}
use denote.Enum.Bare.{sameb}
use Prim.Native.Nat.{ℕ}
use borrow.Author.Tests.{eqb-true}
use Rattle.laws.specs.Choice.{pick}
use Rattle.laws.proofs.Choice.{within_true}
use Rattle.form.specs.Bytes.{semicolon, is_digit, is_mark, is_semicolon, is_line_feed}
use Rattle.form.proofs.Bytes.{digit_no_mark, digit_no_semicolon, digit_no_line_feed, mark_true, mark_no_semicolon, mark_no_line_feed}
use Rattle.typed.specs.declared.Kind.{Kind}
use Rattle.typed.specs.contracts.Kind.{the_type}
use Rattle.typed.specs.declared.Kind.TheVariants.{Digit, Mark, Semicolon, LineFeed, Other}
use Rattle.typed.specs.declared.FieldEnd.{FieldEnd}
use Rattle.typed.specs.declared.FieldEnd.TheVariants as field
use Rattle.typed.specs.Kinds.{kind_of, end_kind}
use Rattle.typed.specs.Taken.{end_byte}

-- whether a kind is this one
abbrev pub is_kind : Kind → Kind → Bool
is_kind one other = sameb the_type one other

-- of a byte of a kind, each test of a kind
pub record KindTells (b : ℕ) (kind : Kind) : Type 0 where
  pub digit_is : is_digit b ≡ is_kind kind Digit
  pub mark_is : is_mark b ≡ is_kind kind Mark
  pub semicolon_is : is_semicolon b ≡ is_kind kind Semicolon
  pub feed_is : is_line_feed b ≡ is_kind kind LineFeed

pub kind_tells : (b : ℕ) → KindTells b (kind_of b)
unfolding kind_of
kind_tells b = go (is_digit b) (is_mark b) (is_semicolon b) (is_line_feed b) refl refl refl refl
  where
    go : (d m s l : Bool) → is_digit b ≡ d → is_mark b ≡ m → is_semicolon b ≡ s → is_line_feed b ≡ l
        → KindTells b (pick d Digit (pick m Mark (pick s Semicolon (pick l LineFeed Other))))
    go true m s l d-is m-is s-is l-is = record { digit_is = d-is; mark_is = digit_no_mark b (within_true _ _ b d-is); semicolon_is = digit_no_semicolon b (within_true _ _ b d-is); feed_is = digit_no_line_feed b (within_true _ _ b d-is) }
    go false true s l d-is m-is s-is l-is = record { digit_is = d-is; mark_is = m-is; semicolon_is = mark_no_semicolon b (mark_true b m-is); feed_is = mark_no_line_feed b (mark_true b m-is) }
    go false false true l d-is m-is s-is l-is = record { digit_is = d-is; mark_is = m-is; semicolon_is = s-is; feed_is = ap is_line_feed (eqb-true b semicolon s-is) }
    go false false false true d-is m-is s-is l-is = record { digit_is = d-is; mark_is = m-is; semicolon_is = s-is; feed_is = l-is }
    go false false false false d-is m-is s-is l-is = record { digit_is = d-is; mark_is = m-is; semicolon_is = s-is; feed_is = l-is }

-- a byte of the kind that ends a field is the byte that ends it
pub end_told : (b : ℕ) (end : FieldEnd) → is_kind (kind_of b) (end_kind end) ≡ eqb b (end_byte end)
end_told b field.Semicolon = sym (kind_tells b).semicolon_is
end_told b field.LineFeed = sym (kind_tells b).feed_is

-- and the other way: the kind of a byte by its test
pub digit_kind : (b : ℕ) → is_digit b ≡ true → kind_of b ≡ Digit
unfolding kind_of
digit_kind b e = rw e

pub other_kind : (b : ℕ) → is_digit b ≡ false → is_mark b ≡ false → is_semicolon b ≡ false → is_line_feed b ≡ false → kind_of b ≡ Other
unfolding kind_of
other_kind b d m s l = rw (d, m, s, l)
