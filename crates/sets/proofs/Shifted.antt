-- The processors of what the machine's operations on words give.
use Prim.Native.Nat.{ℕ, zero, suc, ◌+◌, ◌-◌, ◌*◌, ◌/◌, ◌%◌, ◌^◌, ◌≤◌, ◌<◌}
use native.Mathlib.Nat.{pow-suc, mod-lt, lt_of_lt_of_le}
use native.Mathlib.Decide.{dec_le}
use native.Mathlib.Omega.{arith}
use mathlib.Core.Path.{◌≡◌, refl, sym, ap, ◌∙◌}
use mathlib.Core.Bool.{true, false}
use lib.Dec.{eqb, leb, ltb, lit<}
use lib.Pow.{pow_pos, pow_mono, shl_lt, shl_exact, shl-shr, shr-shr, ones_split, ones_lt, high}
use lib.Bits.{bit_or, or_lt, or_shr, or_mod, shifted_half, shifted_even}
use borrow.Author.Tests.{le-leb, lt-leb, lt-ltb, le-ltb}
use Rattle.laws.specs.Choice.{pick}
use Rattle.laws.proofs.Choice.{pick-never}
use Rattle.model.specs.Limits.{most_processors}
use Rattle.sets.specs.Sets.{IsSet, has, word_of, union, span}
use Rattle.sets.proofs.Processors.{has_first, has_half, has_none, has_word, has_past, set_is_set, set-has, same_processors, union_is_set, union-has}

-- `|`, digit by digit
or_digits : (x y : ℕ) → x < 2 → y < 2 → eqb (bit_or x y) 1 ≡ pick (eqb x 1) true (eqb y 1)
or_digits zero zero l m = refl
or_digits zero (suc zero) l m = refl
or_digits zero (suc (suc y)) l m = absurd (omega arith)
or_digits (suc zero) zero l m = refl
or_digits (suc zero) (suc zero) l m = refl
or_digits (suc zero) (suc (suc y)) l m = absurd (omega arith)
or_digits (suc (suc x)) y l m = absurd (omega arith)

or_has : (one other k : ℕ) → has (bit_or one other) k ≡ pick (has one k) true (has other k)
unfolding has
or_has one other k =
    let a : ℕ = one / 2 ^ k in
    let b : ℕ = other / 2 ^ k in
    ap (λ (x : ℕ). eqb (x % 2) 1) (or_shr one other k)
    ∙ ap (λ (x : ℕ). eqb x 1) (or_mod a b 1)
    ∙ or_digits (a % 2) (b % 2) (mod-lt a (lit< tt)) (mod-lt b (lit< tt))

pub or_union : (one other : ℕ) → IsSet one → IsSet other → bit_or one other ≡ union one other
or_union one other is are =
    same_processors (bit_or one other) (union one other) (or_lt most_processors one other is are) (union_is_set one other) (λ k below.
    or_has one other k ∙ sym (union-has one other k below))

-- shifted up: nothing below, and the same from there on
shifted_below : (w from k : ℕ) → k < from → has (w * 2 ^ from) k ≡ false
shifted_below w zero k below = absurd (omega arith)
shifted_below w (suc from) zero below = has_first _ ∙ ap (λ (x : ℕ). eqb x 1) (shifted_even w from)
shifted_below w (suc from) (suc k) below = has_half _ k ∙ ap (λ (x : ℕ). has x k) (shifted_half w from) ∙ shifted_below w from k (omega arith)

shifted_from : (w from k : ℕ) → has (w * 2 ^ from) (from + k) ≡ has w k
unfolding has
shifted_from w from k = ap (λ (x : ℕ). eqb (x % 2) 1) (sym (shr-shr (w * 2 ^ from) from k) ∙ ap (λ (x : ℕ). x / 2 ^ k) (shl-shr w from))

-- all digits set
ones_word : (n : ℕ) → 2 ^ n - 1 ≡ word_of (λ k. true) n
unfolding word_of
ones_word zero = refl
ones_word (suc n) = omega (arith, ones_word n, pow-suc 2 n, pow_pos n)

ones_has : (n k : ℕ) → k < n → has (2 ^ n - 1) k ≡ true
ones_has n k below = ap (λ (x : ℕ). has x k) (ones_word n) ∙ has_word (λ j. true) n k below

pub span_is_set : (first count : ℕ) → IsSet (span first count)
unfolding span
span_is_set first count = set_is_set _

pub span-has : (first count k : ℕ) → k < most_processors → has (span first count) k ≡ pick (leb first k) (ltb k (first + count)) false
unfolding span
span-has first count k below = set-has (λ j. pick (leb first j) (ltb j (first + count)) false) k below

pub span_none : (first : ℕ) → 0 ≡ span first 0
span_none first = same_processors 0 (span first 0) (pow_pos most_processors) (span_is_set first 0) (λ k below. has_none k ∙ sym (span-has first 0 k below ∙ outside k))
  where
    outside : (k : ℕ) → pick (leb first k) (ltb k (first + 0)) false ≡ false
    outside k = elim (dec_le first k) [
      | yes from ↦ ap (λ b. pick (leb first k) b false) (le-ltb k (first + 0) (omega arith)) ∙ pick-never (leb first k)
      | no under ↦ ap (λ b. pick b (ltb k (first + 0)) false) (lt-leb first k (omega arith))
    ]

shifted_span : (first count k : ℕ) → has ((2 ^ count - 1) * 2 ^ first) k ≡ pick (leb first k) (ltb k (first + count)) false
shifted_span first count k = elim (dec_le first k) [
  | yes from ↦
      (let above : first + (k - first) ≡ k = omega arith in
      ap (has ((2 ^ count - 1) * 2 ^ first)) (sym above) ∙ shifted_from (2 ^ count - 1) first (k - first) ∙ inside from ∙ ap (λ b. pick b (ltb k (first + count)) false) (sym (le-leb first k from)))
  | no under ↦ shifted_below (2 ^ count - 1) first k (omega arith) ∙ ap (λ b. pick b (ltb k (first + count)) false) (sym (lt-leb first k (omega arith)))
]
  where
    inside : first ≤ k → has (2 ^ count - 1) (k - first) ≡ ltb k (first + count)
    inside from = elim (dec_le count (k - first)) [
      | yes past ↦ has_past count (2 ^ count - 1) (k - first) (ones_lt count) past ∙ sym (le-ltb k (first + count) (omega arith))
      | no before ↦ ones_has count (k - first) (omega arith) ∙ sym (lt-ltb k (first + count) (omega arith))
    ]

pub ones_span : (first count : ℕ) → first + count ≤ most_processors → (2 ^ most_processors - 1) / 2 ^ (most_processors - count) * 2 ^ first % 2 ^ most_processors ≡ span first count
ones_span first count fits =
    let exact : count + (most_processors - count) ≡ most_processors = omega arith in
    let ones = ap (λ (x : ℕ). (2 ^ x - 1) / 2 ^ (most_processors - count)) (sym exact)
    ∙ ap (λ (x : ℕ). x / 2 ^ (most_processors - count)) (ones_split count (most_processors - count))
    ∙ high (2 ^ count - 1) (most_processors - count) (ones_lt (most_processors - count)) in
    let inside : count + first ≤ most_processors = omega arith in
    ap (λ (x : ℕ). x * 2 ^ first % 2 ^ most_processors) ones
    ∙ shl_exact count first most_processors (ones_lt count) inside
    ∙ same_processors ((2 ^ count - 1) * 2 ^ first) (span first count) (lt_of_lt_of_le (shl_lt count first (ones_lt count)) (pow_mono inside)) (span_is_set first count)
    (λ k below. shifted_span first count k ∙ sym (span-has first count k below))
