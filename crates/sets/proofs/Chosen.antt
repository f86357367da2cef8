-- The processors that pass a test, chosen processor by processor.
use Prim.Native.Nat.{ℕ, ◌+◌, ◌≤◌, ◌<◌}
use native.Mathlib.Nat.{eq-or-lt_of_le}
use native.Mathlib.Decide.{dec_le}
use native.Mathlib.Omega.{arith}
use mathlib.Core.Path.{◌≡◌, sym, ap, ◌∙◌}
use mathlib.Core.Bool.{Bool, true, false}
use mathlib.Core.Logic.{⊎_elim}
use lib.Dec.{leb, ltb}
use lib.Pow.{pow_pos}
use borrow.Author.Tests.{le-leb, lt-leb, lt-ltb, le-ltb}
use Rattle.laws.specs.Choice.{pick}
use Rattle.laws.specs.Sums.{only}
use Rattle.laws.proofs.Choice.{pick_told}
use Rattle.laws.proofs.Only.{only_le}
use Rattle.laws.proofs.Picked.{sum_most}
use Rattle.model.specs.Limits.{most_processors}
use Rattle.sets.specs.Sets.{has, set_of, processors_below, union, lowest_of, span}
use Rattle.sets.proofs.Processors.{has_none, set_is_set, set-has, same_processors, union_is_set, union-has}
use Rattle.sets.proofs.Shifted.{span-has}

abbrev passes_below : (ℕ → Bool) → (p k : ℕ) → Bool
passes_below passes p k = pick (ltb k p) (passes k) false

-- those below p that pass
abbrev pub chosen_below : (ℕ → Bool) → (p : ℕ) → ℕ
chosen_below passes p = set_of (passes_below passes p)

pub chosen_none : (passes : ℕ → Bool) → 0 ≡ chosen_below passes 0
chosen_none passes =
    same_processors 0 (chosen_below passes 0) (pow_pos most_processors) (set_is_set (passes_below passes 0)) (λ k below.
    has_none k ∙ sym (set-has (passes_below passes 0) k below ∙ ap (λ b. pick b (passes k) false) (le-ltb k 0 (omega arith))))

chosen_all : (passes : ℕ → Bool) → chosen_below passes most_processors ≡ set_of passes
chosen_all passes =
    same_processors (chosen_below passes most_processors) (set_of passes) (set_is_set (passes_below passes most_processors)) (set_is_set passes) (λ k below.
    set-has (passes_below passes most_processors) k below ∙ ap (λ b. pick b (passes k) false) (lt-ltb k most_processors below) ∙ sym (set-has passes k below))

-- a span of one where it passes, of none where it does not
one_more : (b : Bool) (p : ℕ) → ltb p (p + only b 1) ≡ b
one_more true p = lt-ltb p (p + 1) (omega arith)
one_more false p = le-ltb p (p + 0) (omega arith)

next_passes : (passes : ℕ → Bool) (p k : ℕ) → pick (passes_below passes p k) true (pick (leb p k) (ltb k (p + only (passes p) 1)) false) ≡ passes_below passes (p + 1) k
next_passes passes p k = elim (dec_le p k) [
  | yes from ↦ ⊎_elim here above (eq-or-lt_of_le from)
  | no under ↦
      (rw (lt-ltb k p (omega arith), lt-ltb k (p + 1) (omega arith), lt-leb p k (omega arith)) (pick_told (passes k)))
]
  where
    here : p ≡ k → pick (passes_below passes p k) true (pick (leb p k) (ltb k (p + only (passes p) 1)) false) ≡ passes_below passes (p + 1) k
    here e = rw (← e) (rw (le-ltb p p (omega arith), lt-ltb p (p + 1) (omega arith), le-leb p p (omega arith)) (one_more (passes p) p))

    above : p < k → pick (passes_below passes p k) true (pick (leb p k) (ltb k (p + only (passes p) 1)) false) ≡ passes_below passes (p + 1) k
    above l = rw (le-ltb k p (omega arith), le-ltb k (p + 1) (omega arith), le-leb p k (omega arith)) (le-ltb k (p + only (passes p) 1) (omega (arith, only_le (passes p) 1)))

pub chosen_more : (passes : ℕ → Bool) (p : ℕ) → union (chosen_below passes p) (span p (only (passes p) 1)) ≡ chosen_below passes (p + 1)
chosen_more passes p =
    let one = span p (only (passes p) 1) in
    same_processors (union (chosen_below passes p) one) (chosen_below passes (p + 1)) (union_is_set (chosen_below passes p) one) (set_is_set (passes_below passes (p + 1))) (λ k below.
    union-has (chosen_below passes p) one k below
    ∙ ap (λ b. pick b true (has one k)) (set-has (passes_below passes p) k below)
    ∙ ap (λ b. pick (passes_below passes p k) true b) (span-has p (only (passes p) 1) k below)
    ∙ next_passes passes p k
    ∙ sym (set-has (passes_below passes (p + 1)) k below))

-- the test of the lowest so many
abbrev pub is_low : (set count k : ℕ) → Bool
is_low set count k = pick (has set k) (ltb (processors_below set k) count) false

pub lowest_all : (set count : ℕ) → chosen_below (is_low set count) most_processors ≡ lowest_of set count
unfolding lowest_of
lowest_all set count = chosen_all (is_low set count)

pub processors_most : (set k : ℕ) → processors_below set k ≤ k
processors_most set k = omega (arith, sum_most (λ j. only (has set j) 1) 1 k (λ j l. only_le (has set j) 1))
