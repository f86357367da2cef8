-- A byte is of one kind: the tests of the kinds exclude each other.
use mathlib.Core.Path.{◌≡◌, refl, ap}
use mathlib.Core.Bool.{Bool, true, false}
use mathlib.Core.Logic.{⊎_elim, inl, inr}
use Prim.Native.Nat.{ℕ}
use native.Mathlib.Omega.{arith}
use lib.Dec.{eqb}
use borrow.Author.Tests.{eqb-true, ne_eqb}
use Rattle.form.specs.Bytes.{comma, point, semicolon, line_feed, IsDigit, IsMark, is_mark, is_semicolon, is_line_feed}

pub digit_no_mark : (b : ℕ) → IsDigit b → is_mark b ≡ false
digit_no_mark b d = let least = d.0 in rw (ne_eqb b comma (λ e. omega arith)) (ne_eqb b point (λ e. omega arith))

pub digit_no_semicolon : (b : ℕ) → IsDigit b → is_semicolon b ≡ false
digit_no_semicolon b d = let most = d.1 in ne_eqb b semicolon (λ e. omega arith)

pub digit_no_line_feed : (b : ℕ) → IsDigit b → is_line_feed b ≡ false
digit_no_line_feed b d = let least = d.0 in ne_eqb b line_feed (λ e. omega arith)

pub mark_true : (b : ℕ) → is_mark b ≡ true → IsMark b
mark_true b e = go (eqb b comma) refl
  where
    go : (x : Bool) → eqb b comma ≡ x → IsMark b
    go true h = inl (eqb-true b comma h)
    go false h = inr (eqb-true b point (rw h at e))

pub true_mark : (b : ℕ) → IsMark b → is_mark b ≡ true
true_mark b = λ m. ⊎_elim (λ e. ap is_mark e) (λ e. ap is_mark e) m

pub mark_no_semicolon : (b : ℕ) → IsMark b → is_semicolon b ≡ false
mark_no_semicolon b m = ⊎_elim (λ e. ap is_semicolon e) (λ e. ap is_semicolon e) m

pub mark_no_line_feed : (b : ℕ) → IsMark b → is_line_feed b ≡ false
mark_no_line_feed b m = ⊎_elim (λ e. ap is_line_feed e) (λ e. ap is_line_feed e) m
