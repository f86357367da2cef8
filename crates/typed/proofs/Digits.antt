-- The digits that a text begins with, taken one by one: what they are worth with a value before them.
use mathlib.Core.Path.{◌≡◌, refl, sym, ap, ◌∙◌}
use mathlib.Core.Bool.{true}
use mathlib.Core.List.{List, [], ◌∷◌}
use Prim.Native.Nat.{ℕ, zero, suc, ◌+◌, ◌-◌, ◌*◌, ◌^◌, ◌≤◌, ◌<◌, min}
use native.Mathlib.Omega.{arith}
use native.Mathlib.Decide.{dec_le}
use native.Mathlib.Numerals.{add-one}
use native.Mathlib.Nat.{mul-le-mul_right, pow-suc, mul_assoc, mul_comm, add-mul}
use lib.ListN.{length, get_or, drop}
use lib.Seq.{drop-cons}
use Rattle.form.specs.Bytes.{zero_digit, is_digit}
use Rattle.form.specs.Numbers.{Digits, digits_of, value_of, most_typed, capped}
use Rattle.form.proofs.Digits.{digits_more}

pub power_positive : (n : ℕ) → 1 ≤ 10 ^ n
power_positive zero = omega arith
power_positive (suc n) = let p = power_positive n in let e = pow-suc 10 n in omega (arith, p, e)

-- a value that is over stays over, whatever stands behind it
pub capped_scaled : (x power y : ℕ) → 1 ≤ power → capped (capped x * power + y) ≡ capped (x * power + y)
capped_scaled x power y p = go (dec_le x (suc most_typed))
  where
    go : Dec (x ≤ suc most_typed) → capped (capped x * power + y) ≡ capped (x * power + y)
    go (yes few) = let e : min x 1_048_576 ≡ x = omega (arith, few) in rw e
    go (no many) =
        let e : min x 1_048_576 ≡ 1_048_576 = omega (arith, many) in
        let least : 1_048_576 ≤ 1_048_576 * power = omega (arith, p) in
        let grows : 1_048_576 * power ≤ x * power = mul-le-mul_right power (omega (arith, many)) in
        rw e (omega (arith, least, grows))

-- what digits are worth behind a value
unfoldable pub worth : ℕ → List ℕ → ℕ
worth value digits = value * 10 ^ length digits + value_of digits

pub worth_none : (value : ℕ) → worth value [] ≡ value
unfolding worth value_of
worth_none value = omega arith

pub worth_more : (value b : ℕ) (digits : List ℕ) → worth value (b ∷ digits) ≡ worth (value * 10 + (b - zero_digit)) digits
unfolding worth value_of
worth_more value b digits =
    let p : value * 10 ^ suc (length digits) ≡ value * 10 * 10 ^ length digits = ap (λ (x : ℕ). value * x) (pow-suc 10 (length digits) ∙ mul_comm (10 ^ length digits) 10) ∙ sym (mul_assoc value 10 (10 ^ length digits)) in
    let q = add-mul (value * 10) (b - zero_digit) (10 ^ length digits) in
    omega (arith, p, q)

pub worth_capped : (value : ℕ) (digits : List ℕ) → capped (worth (capped value) digits) ≡ capped (worth value digits)
unfolding worth
worth_capped value digits = capped_scaled value (10 ^ length digits) (value_of digits) (power_positive (length digits))

-- so many digits are worth less than ten to that power
pub value_below : (digits : List ℕ) → Digits digits → value_of digits < 10 ^ length digits
unfolding Digits value_of
value_below [] d = omega arith
value_below (b ∷ digits) d =
    let most : b - zero_digit ≤ 9 = omega (arith, d.0.1) in
    let high : (b - zero_digit) * 10 ^ length digits ≤ 9 * 10 ^ length digits = mul-le-mul_right (10 ^ length digits) most in
    omega (arith, high, value_below digits d.1, pow-suc 10 (length digits))

-- digits are being taken from a place on, and stand at the next: where they end, and what they are worth, stay the same
pub record Taking (text : List ℕ) (at value next : ℕ) : Type 0 where
  pub inside : next ≤ length text
  pub few : value ≤ suc most_typed
  pub ends : at + length (digits_of (drop at text)) ≡ next + length (digits_of (drop next text))
  pub valued : capped (value_of (digits_of (drop at text))) ≡ capped (worth value (digits_of (drop next text)))

pub taking_first : (text : List ℕ) (at : ℕ) → at ≤ length text → Taking text at 0 at
unfolding worth
taking_first text at in-text = record { inside = in-text; few = omega arith; ends = refl; valued = ap capped (omega arith) }

pub taking_more : (text : List ℕ) (at value next : ℕ) → Taking text at value next → next < length text → is_digit (get_or text next 0) ≡ true
    → Taking text at (capped (value * 10 + (get_or text next 0 - zero_digit))) (next + 1)
taking_more text at value next t more digit =
    let cut : drop next text ≡ get_or text next 0 ∷ drop (suc next) text = drop-cons text next 0 more in
    let front : digits_of (drop next text) ≡ get_or text next 0 ∷ digits_of (drop (next + 1) text) = ap digits_of cut ∙ digits_more _ _ digit ∙ ap (λ (n : ℕ). get_or text next 0 ∷ digits_of (drop n text)) (sym (add-one next)) in
    let longer : length (digits_of (drop next text)) ≡ suc (length (digits_of (drop (next + 1) text))) = ap length front in
    record {
      inside = omega (arith, more);
      few = omega arith;
      ends = t.ends ∙ omega (arith, longer);
      valued =
          t.valued ∙ ap (λ (digits : List ℕ). capped (worth value digits)) front ∙ ap capped (worth_more value (get_or text next 0) (digits_of (drop (next + 1) text)))
          ∙ sym (worth_capped (value * 10 + (get_or text next 0 - zero_digit)) (digits_of (drop (next + 1) text)));
    }

pub taking_last : (text : List ℕ) (at value next : ℕ) → Taking text at value next → digits_of (drop next text) ≡ []
    → (value ≡ capped (value_of (digits_of (drop at text)))) × (next ≡ at + length (digits_of (drop at text)))
taking_last text at value next t none =
    let plain : capped (worth value (digits_of (drop next text))) ≡ capped value = ap (λ (digits : List ℕ). capped (worth value digits)) none ∙ ap capped (worth_none value) in
    let low : capped value ≡ value = omega (arith, t.few) in
    let short : length (digits_of (drop next text)) ≡ 0 = ap length none in
    (sym (t.valued ∙ plain ∙ low), omega (arith, t.ends, short))
