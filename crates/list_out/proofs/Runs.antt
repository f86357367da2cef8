-- Laws of the runs of a set: where one begins, and where it ends.
use mathlib.Core.Path.{◌≡◌, refl, sym, ap, ◌∙◌}
use mathlib.Core.Bool.{Bool, true, false, not}
use Prim.Native.Nat.{ℕ, zero, suc, ◌+◌, ◌-◌, ◌/◌, ◌%◌, ◌^◌, ◌<◌}
use native.Mathlib.Nat.{pow-suc}
use native.Mathlib.Numerals.{add-one}
use native.Mathlib.Omega.{arith}
use native.Mathlib.Decide.{dec_le}
use borrow.Author.Tests.{eqb-true, eqb-false}
use lib.Count.{count_trailing_zeros}
use lib.Pow.{shr_le, shr-shr}
use Rattle.model.specs.Limits.{most_processors}
use Rattle.sets.specs.Sets.{IsSet, has}
use Rattle.list_form.specs.Items.{most_listed}
use Rattle.list_form.specs.Runs.{begins_run, run_end}

-- none begins where the set does not have the processor; the first begins one, and any other where the one below it is not in the set
pub none_begins : (set k : ℕ) → has set k ≡ false → begins_run set k ≡ false
unfolding begins_run
none_begins set zero out = out
none_begins set (suc k) out = rw out

pub first_begins : (set k : ℕ) → k ≡ 0 → has set k ≡ true → begins_run set k ≡ true
unfolding begins_run
first_begins set zero front in-it = in-it
first_begins set (suc k) front in-it = absurd (omega arith)

pub begins_above : (set k : ℕ) (below : Bool) → (k ≡ 0 → ⊥) → has set k ≡ true → has set (k - 1) ≡ below → begins_run set k ≡ not below
unfolding begins_run
begins_above set zero below behind in-it is_below = absurd (behind refl)
begins_above set (suc k) below behind in-it is_below = go below (ap (has set) (sym one_down) ∙ is_below)
  where
    one_down : suc k - 1 ≡ k
    one_down = omega arith

    go : (below : Bool) → has set k ≡ below → begins_run set (suc k) ≡ not below
    go true e = rw (in-it, e)
    go false e = rw (in-it, e)

run_ends : (set k more : ℕ) → has set (suc k) ≡ false → run_end set k more ≡ k
unfolding run_end
run_ends set k zero out = refl
run_ends set k (suc more) out = rw out

run_goes_on : (set k more : ℕ) → has set (suc k) ≡ true → run_end set k (suc more) ≡ run_end set (suc k) more
unfolding run_end
run_goes_on set k more in-it = rw in-it

-- the digit of a processor
digit_one : (set k : ℕ) → has set k ≡ true → set / 2 ^ k % 2 ≡ 1
unfolding has
digit_one set k in-it = eqb-true _ _ in-it

digit_zero : (set k : ℕ) → has set k ≡ false → set / 2 ^ k % 2 ≡ 0
unfolding has
digit_zero set k out = let other = eqb-false (set / 2 ^ k % 2) 1 out in elim (dec_le 1 (set / 2 ^ k % 2)) [ yes some ↦ absurd (other (omega arith)) | no none ↦ omega arith ]

-- a zero is counted, and a one ends the count
zeros_more : (n a : ℕ) → a % 2 ≡ 0 → count_trailing_zeros (suc n) a ≡ suc (count_trailing_zeros n (a / 2))
unfolding count_trailing_zeros
zeros_more n a even = rw even

zeros_none : (n a : ℕ) → a % 2 ≡ 1 → count_trailing_zeros (suc n) a ≡ 0
unfolding count_trailing_zeros
zeros_none n a odd = rw odd

-- the word of the processors above one
abbrev above : (set k : ℕ) → ℕ
above set k = set / 2 ^ suc k

-- a word of so many digits, each the other
abbrev turned : (n word : ℕ) → ℕ
turned n word = 2 ^ n - 1 - word

-- one more is left out by halving
half_again : (set k : ℕ) → set / 2 ^ k / 2 ≡ above set k
half_again set k = shr-shr set k 1 ∙ ap (λ (j : ℕ). set / 2 ^ j) (add-one k)

turned_half : (n word : ℕ) → word < 2 ^ suc n → turned (suc n) word / 2 ≡ turned n (word / 2)
turned_half n word few = omega (arith, pow-suc 2 n)

-- a run goes up to the first zero above it
run_end_zeros : (more set k : ℕ) → above set k < 2 ^ more → run_end set k more ≡ k + count_trailing_zeros (suc more) (turned (suc more) (above set k))
unfolding run_end
run_end_zeros zero set k few = omega (arith, zeros_none 0 (turned 1 (above set k)) (omega arith))
run_end_zeros (suc more) set k few = go (has set (suc k)) refl (run_end_zeros more set (suc k) (omega (arith, half_again set (suc k), pow-suc 2 more)))
  where
    go : (in-it : Bool) → has set (suc k) ≡ in-it
        → run_end set (suc k) more ≡ suc k + count_trailing_zeros (suc more) (turned (suc more) (above set (suc k)))
        → run_end set k (suc more) ≡ k + count_trailing_zeros (suc (suc more)) (turned (suc (suc more)) (above set k))
    go true in-it rest =
        let half = turned_half (suc more) (above set k) (omega (arith, pow-suc 2 (suc more))) ∙ ap (turned (suc more)) (half_again set (suc k)) in
        let zeros = zeros_more (suc more) (turned (suc (suc more)) (above set k)) (omega (arith, digit_one set (suc k) in-it, pow-suc 2 (suc more))) ∙ ap (λ (w : ℕ). suc (count_trailing_zeros (suc more) w)) half in
        run_goes_on set k more in-it ∙ rest ∙ omega (arith, zeros)
    go false out rest =
        run_ends set k (suc more) out ∙ omega (arith, zeros_none (suc more) (turned (suc (suc more)) (above set k)) (omega (arith, digit_zero set (suc k) out, pow-suc 2 (suc more))))

-- the end of a run by its set's word
pub run_end_word : (set first : ℕ) → IsSet set → first + count_trailing_zeros most_processors (turned most_processors (set / 2 ^ first / 2)) ≡ run_end set first most_listed
run_end_word set first is_set =
    let few : set / 2 ^ first / 2 < 2 ^ most_listed = omega (arith, shr_le set first) in
    ap (λ (w : ℕ). first + count_trailing_zeros most_processors (turned most_processors w)) (half_again set first) ∙ sym (run_end_zeros most_listed set first (omega (arith, few, half_again set first)))
