-- Strings of digits: their test, what is not in them, and that they have one value.
use mathlib.Core.Path.{◌≡◌, refl, sym, ◌∙◌}
use mathlib.Core.Bool.{Bool, true, false}
use mathlib.Core.List.{List, [], ◌∷◌}
use Prim.Native.Nat.{ℕ}
use lib.ListN.{length}
use borrow.Author.Tests.{lt-ltb, ltb-true}
use Rattle.laws.proofs.Choice.{both, within_true, true_within}
use Rattle.form.specs.Bytes.{zero_digit, nine_digit, IsDigit, is_digit}
use Rattle.form.specs.Parts.{count}
use Rattle.form.specs.Numbers.{Digits, all_digits, value_of, IsNumber, is_number}
use Rattle.form.proofs.Parts.{count_nil, none_cons}

-- the test of digits
pub digits_true : (s : List ℕ) → all_digits s ≡ true → Digits s
unfolding Digits all_digits
digits_true [] e = tt
digits_true (b ∷ s) e = let r = both (is_digit b) (all_digits s) e in (within_true zero_digit nine_digit b r.0, digits_true s r.1)

pub true_digits : (s : List ℕ) → Digits s → all_digits s ≡ true
unfolding Digits all_digits
true_digits [] d = refl
true_digits (b ∷ s) d = rw (true_within zero_digit nine_digit b d.0.0 d.0.1) (true_digits s d.1)

-- digits have none of what no digit is
pub digits_none : (passes : ℕ → Bool) → ((b : ℕ) → IsDigit b → passes b ≡ false) → (s : List ℕ) → Digits s → count passes s ≡ 0
unfolding Digits
digits_none passes apart [] d = count_nil passes
digits_none passes apart (b ∷ s) d = none_cons passes b s (apart b d.0) (digits_none passes apart s d.1)

-- the value of no digits
pub value_nil : value_of [] ≡ 0
unfolding value_of
value_nil = refl

-- the test of a number
pub number_true : (s : List ℕ) → is_number s ≡ true → IsNumber s (value_of s)
number_true s e =
    let r = both _ (all_digits s) e in
    record { some = ltb-true 0 (length s) r.0; digits = digits_true s r.1; valued = refl }

pub true_number : (s : List ℕ) (value : ℕ) → IsNumber s value → is_number s ≡ true
true_number s value n = rw (lt-ltb 0 (length s) n.some) (true_digits s n.digits)

pub number_once : (s : List ℕ) (one other : ℕ) → IsNumber s one → IsNumber s other → one ≡ other
number_once s one other n m = n.valued ∙ sym m.valued
