-- The lowest so many of a set: which they are, and how many.
use Prim.Native.Nat.{ℕ, zero, suc, ◌+◌, ◌≤◌, ◌<◌, min}
use native.Mathlib.Decide.{dec_lt}
use native.Mathlib.Omega.{arith}
use mathlib.Core.Path.{◌≡◌, refl, sym, ap, ◌∙◌}
use mathlib.Core.Bool.{Bool, true, false}
use lib.Dec.{ltb}
use borrow.Author.Tests.{lt-ltb, le-ltb, ltb-true}
use Rattle.laws.specs.Choice.{pick}
use Rattle.laws.specs.Sums.{only}
use Rattle.laws.proofs.Choice.{both}
use Rattle.laws.proofs.Sums.{sum_none, sum_suc}
use Rattle.laws.proofs.Growth.{sum_grows}
use Rattle.model.specs.Limits.{most_processors}
use Rattle.sets.specs.Sets.{IsSet, has, processors_below, size_of_set, lowest_of}
use Rattle.sets.specs.Claims.{LowestAre}
use Rattle.sets.proofs.Processors.{set_is_set, set-has, has_below, same_processors}
use Rattle.sets.proofs.Chosen.{is_low}

-- one more processor of a set of which m are below it
low_step : (there : Bool) (m low count : ℕ) → low ≡ min m count → low + only (pick there (ltb m count) false) 1 ≡ min (m + only there 1) count
low_step true m low count e = elim (dec_lt m count) [
  | yes fewer ↦ (rw (lt-ltb m count fewer) (omega arith))
  | no enough ↦ (rw (le-ltb m count (omega arith)) (omega arith))
]
low_step false m low count e = omega arith

module _ (set count : ℕ) where
  pub low_is_set : IsSet (lowest_of set count)
  unfolding lowest_of
  low_is_set = set_is_set (is_low set count)

  low_has : (k : ℕ) → k < most_processors → has (lowest_of set count) k ≡ is_low set count k
  unfolding lowest_of
  low_has k below = set-has (is_low set count) k below

  low_told : (k : ℕ) → has (lowest_of set count) k ≡ true → (k < most_processors) × (has set k ≡ true) × (processors_below set k < count)
  low_told k h =
      let below = has_below (lowest_of set count) k low_is_set h in
      let low = both (has set k) (ltb (processors_below set k) count) (sym (low_has k below) ∙ h) in (below, low.0, ltb-true _ _ low.1)

  told_low : (k : ℕ) → k < most_processors → has set k ≡ true → processors_below set k < count → has (lowest_of set count) k ≡ true
  told_low k below there fewer = low_has k below ∙ rw (there, lt-ltb (processors_below set k) count fewer)

  lows_below : (n : ℕ) → n ≤ most_processors → processors_below (lowest_of set count) n ≡ min (processors_below set n) count
  lows_below zero l = omega (arith, sum_none (λ j. only (has (lowest_of set count) j) 1), sum_none (λ j. only (has set j) 1))
  lows_below (suc n) l =
      sum_suc (λ j. only (has (lowest_of set count) j) 1) n
      ∙ ap (λ b. processors_below (lowest_of set count) n + only b 1) (low_has n (omega arith))
      ∙ low_step (has set n) (processors_below set n) (processors_below (lowest_of set count) n) count (lows_below n (omega arith))
      ∙ ap (λ (m : ℕ). min m count) (sym (sum_suc (λ j. only (has set j) 1) n))

  low_many : count ≤ size_of_set set → size_of_set (lowest_of set count) ≡ count
  unfolding size_of_set
  low_many enough = omega (arith, lows_below most_processors (omega arith))

  -- fewer are below one of the set than it has
  processors_grow : (k : ℕ) → k < most_processors → has set k ≡ true → processors_below set k < size_of_set set
  unfolding size_of_set
  processors_grow k below there =
      let f : ℕ → ℕ = λ j. only (has set j) 1 in
      let more : processors_below set (suc k) ≡ processors_below set k + 1 = sum_suc f k ∙ ap (λ b. processors_below set k + only b 1) there in
      omega (arith, more, sum_grows f (suc k) most_processors below)

  low_all : IsSet set → size_of_set set ≤ count → lowest_of set count ≡ set
  low_all is few = same_processors (lowest_of set count) set low_is_set is (λ k below. low_has k below ∙ go k below (has set k) refl)
    where
      go : (k : ℕ) → k < most_processors → (b : Bool) → has set k ≡ b → pick b (ltb (processors_below set k) count) false ≡ b
      go k below true e = lt-ltb (processors_below set k) count (omega (arith, processors_grow k below e, few))
      go k below false e = refl

pub lowest_are : LowestAre
lowest_are set count is = record {
  from_set = λ k h. (low_told set count k h).1;
  below = λ j k h there l.
      let low = low_told set count k h in
      told_low set count j (omega (arith, l, low.0)) there (omega (arith, low.2, sum_grows (λ i. only (has set i) 1) j k (omega (arith, l))));
  so_many = low_many set count;
  or_all = low_all set count is;
}
