-- A word by its processors, sets of processors, and unions.
use Prim.Native.Nat.{ℕ, zero, suc, ◌+◌, ◌*◌, ◌/◌, ◌%◌, ◌^◌, ◌≤◌, ◌<◌}
use native.Mathlib.Nat.{div-one, pow-suc, mod-lt}
use native.Mathlib.Numerals.{one-add}
use native.Mathlib.Decide.{dec_le}
use native.Mathlib.Omega.{arith}
use mathlib.Core.Path.{◌≡◌, refl, sym, ap, ◌∙◌, subst}
use mathlib.Core.Bool.{Bool, true, false}
use lib.Dec.{T, eqb, lit<}
use lib.Pow.{shr-shr}
use borrow.Author.Tests.{eq-eqb, ne_eqb, eqb-true}
use Rattle.laws.specs.Choice.{pick}
use Rattle.laws.specs.Sums.{only}
use Rattle.model.specs.Limits.{most_processors}
use Rattle.sets.specs.Sets.{IsSet, has, word_of, set_of, union}

pub has_first : (w : ℕ) → has w 0 ≡ eqb (w % 2) 1
unfolding has
has_first w = ap (λ (x : ℕ). eqb (x % 2) 1) (div-one w)

pub has_half : (w k : ℕ) → has w (suc k) ≡ has (w / 2) k
unfolding has
has_half w k = ap (λ (x : ℕ). eqb (x % 2) 1) (ap (λ (x : ℕ). w / 2 ^ x) (sym (one-add k)) ∙ sym (shr-shr w 1 k))

-- the empty set
pub has_none : (k : ℕ) → has 0 k ≡ false
unfolding has
has_none zero = refl
has_none (suc k) = has_half 0 k ∙ has_none k

-- the lowest digit, and the rest
digit_rest : (b : Bool) (x : ℕ) → (only b 1 + 2 * x) / 2 ≡ x
digit_rest true x = omega arith
digit_rest false x = omega arith

digit_first : (b : Bool) (x : ℕ) → eqb ((only b 1 + 2 * x) % 2) 1 ≡ b
digit_first true x = eq-eqb ((1 + 2 * x) % 2) 1 (omega arith)
digit_first false x = ne_eqb ((0 + 2 * x) % 2) 1 (λ (e : (0 + 2 * x) % 2 ≡ 1). omega arith)

one_digit : (b : Bool) → only b 1 ≤ 1
one_digit true = omega arith
one_digit false = omega arith

pub word_below : (p : ℕ → Bool) (n : ℕ) → word_of p n < 2 ^ n
unfolding word_of
word_below p zero = lit< tt
word_below p (suc n) = omega (arith, word_below (λ k. p (suc k)) n, pow-suc 2 n, one_digit (p 0))

pub has_word : (p : ℕ → Bool) (n k : ℕ) → k < n → has (word_of p n) k ≡ p k
unfolding word_of
has_word p zero k l = absurd (omega arith)
has_word p (suc n) zero l = has_first _ ∙ digit_first (p 0) _
has_word p (suc n) (suc k) l = has_half _ k ∙ ap (λ (x : ℕ). has x k) (digit_rest (p 0) _) ∙ has_word (λ j. p (suc j)) n k (omega arith)

-- nothing from the word's length on
pub has_past : (n w k : ℕ) → w < 2 ^ n → n ≤ k → has w k ≡ false
has_past zero w k below from = ap (λ (x : ℕ). has x k) (omega arith) ∙ has_none k
has_past (suc n) w zero below from = absurd (omega arith)
has_past (suc n) w (suc k) below from = has_half w k ∙ has_past n (w / 2) k (omega (arith, pow-suc 2 n)) (omega arith)

-- a digit by its test
same_digit : (x y : ℕ) → x < 2 → y < 2 → eqb x 1 ≡ eqb y 1 → x ≡ y
same_digit zero zero l m e = refl
same_digit zero (suc y) l m e = let one : suc y ≡ 1 = omega arith in omega (arith, eqb-true 0 1 (e ∙ eq-eqb _ _ one))
same_digit (suc x) zero l m e = let one : suc x ≡ 1 = omega arith in omega (arith, eqb-true 0 1 (sym e ∙ eq-eqb _ _ one))
same_digit (suc x) (suc y) l m e = omega arith

pub same_word : (n a b : ℕ) → a < 2 ^ n → b < 2 ^ n → ((k : ℕ) → k < n → has a k ≡ has b k) → a ≡ b
same_word zero a b l m same = omega arith
same_word (suc n) a b l m same =
    let first = same_digit (a % 2) (b % 2) (mod-lt a (lit< tt)) (mod-lt b (lit< tt)) (sym (has_first a) ∙ same 0 (omega arith) ∙ has_first b) in
    let rest = same_word n (a / 2) (b / 2) (omega (arith, pow-suc 2 n)) (omega (arith, pow-suc 2 n)) (λ k below. sym (has_half a k) ∙ same (suc k) (omega arith) ∙ has_half b k) in
    omega (arith, first, rest)

pub set_is_set : (passes : ℕ → Bool) → IsSet (set_of passes)
set_is_set passes = word_below passes most_processors

pub set-has : (passes : ℕ → Bool) (k : ℕ) → k < most_processors → has (set_of passes) k ≡ passes k
set-has passes k below = has_word passes most_processors k below

pub set_past : (set k : ℕ) → IsSet set → most_processors ≤ k → has set k ≡ false
set_past set k is from = has_past most_processors set k is from

pub has_below : (set k : ℕ) → IsSet set → has set k ≡ true → k < most_processors
has_below set k is there = elim (dec_le most_processors k) [
  | yes past ↦ absurd (subst T (sym there ∙ set_past set k is past) tt)
  | no below ↦ omega arith
]

pub same_processors : (one other : ℕ) → IsSet one → IsSet other → ((k : ℕ) → k < most_processors → has one k ≡ has other k) → one ≡ other
same_processors one other is are same = same_word most_processors one other is are same

pub union_is_set : (one other : ℕ) → IsSet (union one other)
unfolding union
union_is_set one other = set_is_set _

pub union-has : (one other k : ℕ) → k < most_processors → has (union one other) k ≡ pick (has one k) true (has other k)
unfolding union
union-has one other k below = set-has (λ j. pick (has one j) true (has other j)) k below

either_assoc : (a b c : Bool) → pick (pick a true b) true c ≡ pick a true (pick b true c)
either_assoc true b c = refl
either_assoc false b c = refl

either_comm : (a b : Bool) → pick a true b ≡ pick b true a
either_comm true true = refl
either_comm true false = refl
either_comm false true = refl
either_comm false false = refl

pub union_assoc : (one other third : ℕ) → union (union one other) third ≡ union one (union other third)
union_assoc one other third =
    same_processors _ _ (union_is_set (union one other) third) (union_is_set one (union other third)) (λ k below.
    union-has (union one other) third k below
    ∙ ap (λ b. pick b true (has third k)) (union-has one other k below)
    ∙ either_assoc (has one k) (has other k) (has third k)
    ∙ ap (λ b. pick (has one k) true b) (sym (union-has other third k below))
    ∙ sym (union-has one (union other third) k below))

pub union_comm : (one other : ℕ) → union one other ≡ union other one
union_comm one other =
    same_processors _ _ (union_is_set one other) (union_is_set other one) (λ k below.
    union-has one other k below ∙ either_comm (has one k) (has other k) ∙ sym (union-has other one k below))

-- the empty set adds nothing
pub union_none : (set : ℕ) → IsSet set → union 0 set ≡ set
union_none set is =
    same_processors _ _ (union_is_set 0 set) is (λ k below. union-has 0 set k below ∙ ap (λ b. pick b true (has set k)) (has_none k))

pub none_union : (set : ℕ) → IsSet set → union set 0 ≡ set
none_union set is = union_comm set 0 ∙ union_none set is
