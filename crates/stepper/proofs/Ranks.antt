-- Laws of a set of ranks: a rank joins, a rank leaves, the lowest.
use Prim.Native.Nat.{ℕ, zero, suc, ◌-◌, ◌*◌, ◌/◌, ◌%◌, ◌^◌, ◌≤◌, ◌<◌, max}
use mathlib.Core.Path.{◌≡◌, refl, sym, ap, ◌∙◌}
use mathlib.Core.Logic.{◌≢◌}
use native.Mathlib.Nat.{pow-suc, one-mul, mod-eq_of_lt}
use native.Mathlib.Omega.{arith}
use lib.Bits.{bit_or, or_step}
use lib.Count.{count_trailing_zeros, under}
use lib.Pow.{pow-lt}
use Rattle.stepper.specs.Ranks.{rank_bit, LowestRank}

-- a bit is 0 or 1
pub bit_most : (w r : ℕ) → rank_bit w r ≤ 1
unfolding rank_bit
bit_most w zero = omega arith
bit_most w (suc r) = bit_most (w / 2) r

pub bit_none : (r : ℕ) → rank_bit 0 r ≡ 0
unfolding rank_bit
bit_none zero = refl
bit_none (suc r) = bit_none r

-- of two sets together
pub bit_or_lem : (a b r : ℕ) → rank_bit (bit_or a b) r ≡ max (rank_bit a r) (rank_bit b r)
unfolding rank_bit
bit_or_lem a b zero = omega (arith, or_step a b)
bit_or_lem a b (suc r) =
    let half : bit_or a b / 2 ≡ bit_or (a / 2) (b / 2) = omega (arith, or_step a b) in
    ap (λ (x : ℕ). rank_bit x r) half ∙ bit_or_lem (a / 2) (b / 2) r

pub bit_own : (r : ℕ) → rank_bit (2 ^ r) r ≡ 1
unfolding rank_bit
bit_own zero = refl
bit_own (suc r) = let half : 2 ^ suc r / 2 ≡ 2 ^ r = omega (arith, pow-suc 2 r) in ap (λ (x : ℕ). rank_bit x r) half ∙ bit_own r

pub bit_other : (r s : ℕ) → rank_bit (2 ^ r) s ≡ 1 → s ≡ r
unfolding rank_bit
bit_other zero zero e = refl
bit_other zero (suc s) e = absurd (omega (arith, bit_none s))
bit_other (suc r) zero e = absurd (omega (arith, pow-suc 2 r))
bit_other (suc r) (suc s) e = let half : 2 ^ suc r / 2 ≡ 2 ^ r = omega (arith, pow-suc 2 r) in ap suc (bit_other r s (ap (λ (x : ℕ). rank_bit x s) (sym half) ∙ e))

-- a rank that is in the set
pub bit_within : (w r : ℕ) → rank_bit w r ≡ 1 → 2 ^ r ≤ w
unfolding rank_bit
bit_within w zero e = omega arith
bit_within w (suc r) e = omega (arith, pow-suc 2 r, bit_within (w / 2) r e)

-- it leaves
pub bit_left : (w r : ℕ) → rank_bit w r ≡ 1 → rank_bit (w - 2 ^ r) r ≡ 0
unfolding rank_bit
bit_left w zero e = omega arith
bit_left w (suc r) e =
    let half : (w - 2 ^ suc r) / 2 ≡ w / 2 - 2 ^ r = omega (arith, pow-suc 2 r, bit_within (w / 2) r e) in
    ap (λ (x : ℕ). rank_bit x r) half ∙ bit_left (w / 2) r e

-- and the others stay
pub bit_stays : (w r s : ℕ) → rank_bit w r ≡ 1 → s ≢ r → rank_bit (w - 2 ^ r) s ≡ rank_bit w s
unfolding rank_bit
bit_stays w zero zero e n = absurd (n refl)
bit_stays w zero (suc s) e n = let half : (w - 1) / 2 ≡ w / 2 = omega arith in ap (λ (x : ℕ). rank_bit x s) half
bit_stays w (suc r) zero e n = omega (arith, pow-suc 2 r, bit_within (w / 2) r e)
bit_stays w (suc r) (suc s) e n =
    let half : (w - 2 ^ suc r) / 2 ≡ w / 2 - 2 ^ r = omega (arith, pow-suc 2 r, bit_within (w / 2) r e) in
    ap (λ (x : ℕ). rank_bit x s) half ∙ bit_stays (w / 2) r s e (λ q. n (ap suc q))

lowest_more : (w r : ℕ) → w % 2 ≡ 0 → LowestRank (w / 2) r → LowestRank w (suc r)
unfolding rank_bit
lowest_more w r e l = record { inside = l.inside; none_below = below }
  where
    below : (s : ℕ) → s < suc r → rank_bit w s ≡ 0
    below zero h = e
    below (suc s) h = l.none_below s (omega arith)

lowest_here : (w : ℕ) → w % 2 ≡ 1 → LowestRank w 0
unfolding rank_bit
lowest_here w e = record { inside = e; none_below = λ s h. absurd (omega arith) }

pub trailing : (k w : ℕ) → 0 < w → w < 2 ^ k → (count_trailing_zeros k w < k) × LowestRank w (count_trailing_zeros k w)
unfolding count_trailing_zeros
trailing zero w some few = absurd (omega arith)
trailing (suc k) w some few = go (λ (h : 0 < w / 2). trailing k (w / 2) h (omega (arith, pow-suc 2 k))) (w % 2) refl
  where
    go : (0 < w / 2 → (count_trailing_zeros k (w / 2) < k) × LowestRank (w / 2) (count_trailing_zeros k (w / 2)))
        → (d : ℕ) → w % 2 ≡ d → (under d (count_trailing_zeros k (w / 2)) < suc k) × LowestRank w (under d (count_trailing_zeros k (w / 2)))
    go ih zero e = let l = ih (omega arith) in (omega (arith, l.0), lowest_more w (count_trailing_zeros k (w / 2)) e l.1)
    go ih (suc d) e = (omega arith, lowest_here w (omega arith))

-- a 32-bit shift of 1 by a rank
pub one_shifted : (r : ℕ) → r < 32 → 1 * 2 ^ r % 2 ^ 32 ≡ 2 ^ r
one_shifted r below = rw one-mul (mod-eq_of_lt (pow-lt {j = 32} below))
