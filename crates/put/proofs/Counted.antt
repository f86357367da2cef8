-- Digits counted: each turn counts one and takes it from the number.
use mathlib.Core.Path.{◌≡◌, refl}
use Prim.Native.Nat.{ℕ, zero, suc, ◌+◌, ◌/◌, ◌^◌, ◌≤◌, ◌<◌}
use native.Mathlib.Nat.{pow-suc}
use native.Mathlib.Omega.{arith}
use Rattle.form.specs.Written.{digit_count, digits_in}
use Rattle.form.proofs.Written.{digit_count_one, digit_count_more}

-- so many are counted, what is left has the others, and there may be so many more than its first
pub record Counted (number digits left : ℕ) : Type 0 where
  pub more : ℕ
  pub most : digits + more ≡ 10
  pub few : left < 10 ^ suc more
  pub in_all : digits + digit_count more left ≡ suc (digits_in number)

pub counted_none : (number : ℕ) → number < 2 ^ 32 → Counted number 1 number
counted_none number small = record { more = 9; most = refl; few = omega arith; in_all = omega arith }

pub counted_more : (number digits left : ℕ) → 10 ≤ left → Counted number digits left → Counted number (digits + 1) (left / 10)
counted_more number digits left large counted = go counted.more counted.most counted.few counted.in_all
  where
    go : (more : ℕ) → digits + more ≡ 10 → left < 10 ^ suc more → digits + digit_count more left ≡ suc (digits_in number) → Counted number (digits + 1) (left / 10)
    go zero most few in_all = absurd (omega arith)
    go (suc more) most few in_all = record { more = more; most = omega arith; few = omega (arith, pow-suc 10 (suc more)); in_all = omega (arith, digit_count_more more left large) }

pub counted_all : (number digits left : ℕ) → left < 10 → Counted number digits left → digits ≡ digits_in number
counted_all number digits left small counted = omega (arith, counted.in_all, digit_count_one counted.more left small)
