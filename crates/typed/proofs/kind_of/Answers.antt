use mathlib.Core.Path.{◌≡◌, sym}
use mathlib.Core.Logic.{inl, inr}
use mathlib.Core.Bool.{false}
use Prim.Native.Nat.{ℕ, ◌<◌, ◌≤◌}
use native.Mathlib.Omega.{arith}
use types.Run.{OneOf}
use mathlib.Core.List.{[], ◌∷◌}
use borrow.Author.Tests.{le-leb, lt-leb, ne_eqb}
use Rattle.laws.proofs.Choice.{true_within}
use Rattle.form.specs.Bytes.{is_digit, comma, point, semicolon, line_feed}
use Rattle.typed.specs.Kinds.{kind_of}
use Rattle.typed.specs.declared.Kind.TheVariants.{Mark, Other}
use Rattle.typed.proofs.ByKind.{digit_kind, other_kind}
use Rattle.typed.proofs.kind_of.Goals as goal

mark_of : (b : ℕ) → OneOf (comma ∷ point ∷ []) b → Mark ≡ kind_of b
unfolding kind_of
mark_of b (inl h) = rw h
mark_of b (inr h) = rw h

pub returns-in-44 : goal.returns-in-44
returns-in-44 c = mark_of _ c.in-44.is

pub returns-in-59 : goal.returns-in-59
unfolding kind_of
returns-in-59 c = rw c.in-59.is

pub returns-in-10 : goal.returns-in-10
unfolding kind_of
returns-in-10 c = rw c.in-10.is

pub returns-in-48-to-57 : goal.returns-in-48-to-57
returns-in-48-to-57 c = sym (digit_kind _ (true_within 48 57 c.args.byte (omega arith) (omega arith)))

-- none of the bytes that are named
none_named : (b : ℕ) → is_digit b ≡ false → (((Unit {0} × (OneOf (comma ∷ point ∷ []) b → ⊥)) × (OneOf (semicolon ∷ []) b → ⊥)) × (OneOf (line_feed ∷ []) b → ⊥)) → Other ≡ kind_of b
none_named b d none = sym (other_kind b d (rw (ne_eqb b comma (λ h. none.0.0.1 (inl h)), ne_eqb b point (λ h. none.0.0.1 (inr h)))) (ne_eqb b semicolon none.0.1) (ne_eqb b line_feed none.1))

pub returns-in_default : goal.returns-in_default
returns-in_default c = let low : c.args.byte < 48 = omega arith in none_named _ (rw (lt-leb _ _ low)) c.in_default.in_default-own.rest

pub returns-in_default-2 : goal.returns-in_default-2
returns-in_default-2 c = let low : 48 ≤ c.args.byte = omega arith in let high : 57 < c.args.byte = omega arith in none_named _ (rw (le-leb _ _ low) (lt-leb _ 57 high)) c.in_default.in_default-own.rest
