-- The machine's count of ones is the number of processors.
use Prim.Native.Nat.{ℕ, zero, suc, ◌+◌, ◌/◌, ◌%◌, ◌^◌, ◌<◌}
use native.Mathlib.Nat.{pow-suc, mod-lt}
use native.Mathlib.Omega.{arith}
use mathlib.Core.Path.{◌≡◌, refl, sym, ap, ap₂, ◌∙◌}
use lib.Dec.{eqb, lit<}
use lib.Count.{ones, ones_step}
use Rattle.laws.specs.Sums.{only, sum}
use Rattle.laws.proofs.Sums.{sum_same}
use Rattle.laws.proofs.Inserted.{sum_first}
use Rattle.model.specs.Limits.{most_processors}
use Rattle.sets.specs.Sets.{IsSet, has, processors_below, size_of_set}
use Rattle.sets.proofs.Processors.{has_first, has_half}

digit_counts : (x : ℕ) → x < 2 → only (eqb x 1) 1 ≡ x
digit_counts zero l = refl
digit_counts (suc zero) l = refl
digit_counts (suc (suc x)) l = absurd (omega arith)

none_counts : (w : ℕ) → w ≡ 0 → ones w ≡ 0
unfolding ones
none_counts w e = ap ones e

ones_below : (n w : ℕ) → w < 2 ^ n → ones w ≡ processors_below w n
unfolding sum
ones_below zero w below = none_counts w (omega arith)
ones_below (suc n) w below =
    ones_step w
    ∙ ap₂ ◌+◌
    (sym (ap (λ b. only b 1) (has_first w) ∙ digit_counts (w % 2) (mod-lt w (lit< tt))))
    (ones_below n (w / 2) (omega (arith, pow-suc 2 n)) ∙ sum_same (λ j. only (has (w / 2) j) 1) (λ j. only (has w (suc j)) 1) n (λ j l. ap (λ b. only b 1) (sym (has_half w j))))
    ∙ sym (sum_first (λ j. only (has w j) 1) n)

pub ones_size : (set : ℕ) → IsSet set → ones set ≡ size_of_set set
unfolding size_of_set
ones_size set is = ones_below most_processors set is
