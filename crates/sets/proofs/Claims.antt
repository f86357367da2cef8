-- Sets are by their processors as specs/Claims.antt says.
use Prim.Native.Nat.{ℕ, zero, suc, ◌+◌, ◌-◌, ◌≤◌, ◌<◌, min}
use native.Mathlib.Decide.{dec_le}
use native.Mathlib.Omega.{arith}
use mathlib.Core.Path.{◌≡◌, refl, sym, ap, ◌∙◌}
use mathlib.Core.Bool.{Bool, true, false}
use mathlib.Core.Logic.{◌↔◌, ◌⊎◌, inl, inr}
use lib.Dec.{leb, ltb}
use borrow.Author.Tests.{le-leb, lt-leb, lt-ltb, le-ltb, leb-true, ltb-true}
use Rattle.laws.specs.Choice.{pick}
use Rattle.laws.specs.Sums.{only, sum}
use Rattle.laws.proofs.Choice.{both, pick-never}
use Rattle.laws.proofs.Sums.{sum_none, sum_suc, sum_same}
use Rattle.model.specs.declared.build.Partition.{Partition}
use Rattle.model.specs.Limits.{most_processors}
use Rattle.model.specs.Processors.{volume_of, processor_of, AmongLowest}
use Rattle.sets.specs.Sets.{IsSet, has, size_of_set, span, partition_set}
use Rattle.sets.specs.Claims.{ProcessorsPass, NonePast, SameProcessors, UnionHas, PartitionHas, PartitionSize}
use Rattle.sets.proofs.Processors.{set_is_set, set-has, set_past, has_below, same_processors, union-has}
use Rattle.sets.proofs.Shifted.{span_is_set, span-has}

pub processors_pass : ProcessorsPass
processors_pass passes = (set_is_set passes, set-has passes)

pub none_past : NonePast
none_past set is k from = set_past set k is from

pub same_processors_are : SameProcessors
same_processors_are one other is are = (λ e k below. ap (λ (w : ℕ). has w k) e, same_processors one other is are)

either : (a b : Bool) → (pick a true b ≡ true) ↔ ((a ≡ true) ⊎ (b ≡ true))
either true b = (λ e. inl refl, λ e. refl)
either false b = (inr, λ e. elim e [ inl never ↦ cc never | inr told ↦ told ])

pub union_has_either : UnionHas
union_has_either one other k below =
    let told = union-has one other k below in
    (λ h. (either (has one k) (has other k)).0 (sym told ∙ h), λ h. told ∙ (either (has one k) (has other k)).1 h)

abbrev spanned : (first count k : ℕ) → Bool
spanned first count k = pick (leb first k) (ltb k (first + count)) false

spanned_inside : (first count k : ℕ) → first ≤ k → k < first + count → spanned first count k ≡ true
spanned_inside first count k from to = rw (le-leb first k from, lt-ltb k (first + count) to)

pub partition_is_set : (place : Partition) → IsSet (partition_set place)
unfolding partition_set
partition_is_set place = span_is_set place.first (volume_of place)

pub partition_has : PartitionHas
unfolding partition_set AmongLowest processor_of
partition_has place fits x = (there, back)
  where
    first : ℕ
    first = place.first

    count : ℕ
    count = volume_of place

    there : has (span first count) x ≡ true → (k : ℕ) × (k < count) × (x ≡ first + k)
    there h =
        let inside = both (leb first x) (ltb x (first + count)) (sym (span-has first count x (has_below (span first count) x (span_is_set first count) h)) ∙ h) in
        let from = leb-true first x inside.0 in
        let to = ltb-true x (first + count) inside.1 in
        (x - first, omega (arith, from, to), omega (arith, from))

    back : (k : ℕ) × (k < count) × (x ≡ first + k) → has (span first count) x ≡ true
    back at = span-has first count x (omega (arith, fits, at.1, at.2)) ∙ spanned_inside first count x (omega (arith, at.2)) (omega (arith, at.1, at.2))

span-step : (first count n : ℕ) → min (n - first) count + only (spanned first count n) 1 ≡ min (suc n - first) count
span-step first count n = elim (dec_le first n) [
  | yes from ↦ elim (dec_le (first + count) n) [
    | yes past ↦ (rw (le-ltb n (first + count) past, pick-never (leb first n)) (omega arith))
    | no to ↦ (rw (spanned_inside first count n from (omega arith)) (omega arith))
  ]
  | no under ↦ (rw (lt-leb first n (omega arith)) (omega arith))
]

spanned_below : (first count n : ℕ) → sum (λ k. only (spanned first count k) 1) n ≡ min (n - first) count
spanned_below first count zero = omega (arith, sum_none (λ k. only (spanned first count k) 1))
spanned_below first count (suc n) =
    sum_suc (λ k. only (spanned first count k) 1) n
    ∙ ap (λ (m : ℕ). m + only (spanned first count n) 1) (spanned_below first count n)
    ∙ span-step first count n

pub span_size : (first count : ℕ) → first + count ≤ most_processors → size_of_set (span first count) ≡ count
unfolding size_of_set
span_size first count fits =
    sum_same (λ k. only (has (span first count) k) 1) (λ k. only (spanned first count k) 1) most_processors (λ k below. ap (λ b. only b 1) (span-has first count k below))
    ∙ spanned_below first count most_processors
    ∙ omega (arith, fits)

pub partition_size : PartitionSize
unfolding partition_set
partition_size place fits = span_size place.first (volume_of place) fits
