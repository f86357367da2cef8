-- The digits that some bytes begin with: where they end, and what follows.
use mathlib.Core.Path.{◌≡◌, refl, sym, ap, ◌∙◌}
use mathlib.Core.Bool.{Bool, true, false}
use mathlib.Core.List.{List, [], ◌∷◌, ◌++◌}
use Prim.Native.Nat.{ℕ, ◌≤◌}
use native.Mathlib.Omega.{arith}
use native.Mathlib.Decide.{dec_le}
use lib.ListN.{length, get_or, drop, drop_of_length-le, take-append-drop}
use lib.Seq.{drop-cons}
use Rattle.laws.specs.Choice.{pick}
use Rattle.laws.proofs.Choice.{within_true}
use Rattle.form.specs.Bytes.{is_digit}
use Rattle.form.specs.Parts.{up_to}
use Rattle.form.specs.Numbers.{Digits, digits_of}
use Rattle.form.proofs.Parts.{length-up_to, up_to-take}

pub digits_more : (b : ℕ) (s : List ℕ) → is_digit b ≡ true → digits_of (b ∷ s) ≡ b ∷ digits_of s
unfolding digits_of up_to
digits_more b s e = rw e

pub digits_stop : (b : ℕ) (s : List ℕ) → is_digit b ≡ false → digits_of (b ∷ s) ≡ []
unfolding digits_of up_to
digits_stop b s e = rw e

pub digits_none : digits_of [] ≡ []
unfolding digits_of up_to
digits_none = refl

-- no digits begin where a byte is none, and past the end
pub digits_stopped : (text : List ℕ) (next : ℕ) → is_digit (get_or text next 0) ≡ false → digits_of (drop next text) ≡ []
digits_stopped text next e = go (dec_le (length text) next)
  where
    go : Dec (length text ≤ next) → digits_of (drop next text) ≡ []
    go (yes past) = ap digits_of (drop_of_length-le text past) ∙ digits_none
    go (no inside) = ap digits_of (drop-cons text next 0 (omega (arith, inside))) ∙ digits_stop _ _ e

pub digits_past : (text : List ℕ) (next : ℕ) → length text ≤ next → digits_of (drop next text) ≡ []
digits_past text next past = ap digits_of (drop_of_length-le text past) ∙ digits_none

-- the digits that a text begins with, and what follows
pub digits_are : (s : List ℕ) → Digits (digits_of s)
unfolding Digits digits_of up_to
digits_are [] = tt
digits_are (b ∷ s) = go (is_digit b) refl (digits_are s)
  where
    go : (x : Bool) → is_digit b ≡ x → Digits (digits_of s) → Digits (pick (pick x false true) [] (b ∷ digits_of s))
    go true e earlier = (within_true _ _ b e, earlier)
    go false e earlier = tt

pub digits_cut : (s : List ℕ) → s ≡ digits_of s ++ drop (length (digits_of s)) s
unfolding digits_of
digits_cut s = sym (ap (λ (front : List ℕ). front ++ drop (length (up_to (λ b. pick (is_digit b) false true) s)) s) (up_to-take (λ b. pick (is_digit b) false true) s) ∙ take-append-drop (length (up_to (λ b. pick (is_digit b) false true) s)) s)

pub length_digits : (s : List ℕ) → length (digits_of s) ≤ length s
unfolding digits_of
length_digits s = length-up_to _ s

pub digits_over : (s : List ℕ) → is_digit (get_or (drop (length (digits_of s)) s) 0 0) ≡ false
unfolding digits_of up_to
digits_over [] = refl
digits_over (b ∷ s) = go (is_digit b) refl (digits_over s)
  where
    go : (x : Bool) → is_digit b ≡ x → is_digit (get_or (drop (length (digits_of s)) s) 0 0) ≡ false
        → is_digit (get_or (drop (length (pick (pick x false true) [] (b ∷ digits_of s))) (b ∷ s)) 0 0) ≡ false
    go true e earlier = earlier
    go false e earlier = e
