-- Laws of the build's records as they are taken: the fields cut from a record's one number, and one record more without spare bits.
use mathlib.Core.Path.{◌≡◌, refl, sym, ap, ◌∙◌}
use mathlib.Core.Bool.{Bool, true, ◌&&◌}
use mathlib.Core.List.{List, [], ◌∷◌, ◌++◌}
use Prim.Native.Nat.{ℕ, zero, suc, ◌+◌, ◌-◌, ◌*◌, ◌/◌, ◌%◌, ◌^◌}
use native.Mathlib.Nat.{add-zero, zero-add, add_assoc}
use native.Mathlib.Numerals.{add-one}
use native.Mathlib.Omega.{arith}
use lib.Dec.{eqb}
use lib.ListN.{replicate}
use Rattle.laws.specs.Every.{every}
use Rattle.laws.specs.Joined.{filled}
use Rattle.laws.proofs.Joined.{joined_same}
use Rattle.bits.specs.Field.{field}
use Rattle.bits.proofs.Field.{field-within}
use Rattle.bits.specs.Layout.{Layout, bits_in, numbers_at}
use Rattle.model.specs.Limits.{most_tasks, most_partitions, zero_partition, zero_member}
use Rattle.model.specs.Layouts.{build_length}
use Rattle.build.specs.Build.{partition_fields, partition_at, member_fields, member_at}
use Rattle.build.specs.Taken.{partition_in, partition_spare_in, member_in, member_spare_in, partitions_clear, members_clear}

-- a record's one number, cut into its fields
abbrev pub cut_by : Layout → ℕ → List ℕ
cut_by [] number = []
cut_by (width ∷ layout) number = (number / 2 ^ bits_in layout % 2 ^ width) ∷ cut_by layout number

-- the same from behind so many bits on
cut_behind : (s : List ℕ) (layout : Layout) (at front : ℕ) → numbers_at s (at + front) layout ≡ cut_by layout (field s at (front + bits_in layout))
unfolding numbers_at
cut_behind s [] at front = refl
cut_behind s (width ∷ layout) at front =
    let k = bits_in layout in
    let e : front + (width + k) ≡ front + width + k = sym (add_assoc front width k) in
    let tail : numbers_at s (at + front + width) layout ≡ cut_by layout (field s at (front + width + k)) =
    ap (λ (x : ℕ). numbers_at s x layout) (add_assoc at front width) ∙ cut_behind s layout at (front + width) in
    rw (e, field-within s at front width k, tail)

pub cut_at : (s : List ℕ) (at : ℕ) (layout : Layout) (number : ℕ) → number ≡ field s at (bits_in layout) → numbers_at s at layout ≡ cut_by layout number
cut_at s at layout number e =
    ap (λ (x : ℕ). numbers_at s x layout) (sym (add-zero at)) ∙ cut_behind s layout at 0 ∙ ap (λ (n : ℕ). cut_by layout (field s at n)) (zero-add (bits_in layout)) ∙ rw e

-- a test of each number below a bound: none, and one more
pub every_none : (passes : ℕ → Bool) → true ≡ every passes 0
unfolding every
every_none passes = refl

pub every_next : (passes : ℕ → Bool) (n : ℕ) → every passes (n + 1) ≡ (every passes n && passes n)
unfolding every
every_next passes n = rw add-one

-- the records one behind another are those of the build
module _ (s : List ℕ) where
  pub places_taken : (count : ℕ) → filled (λ p. partition_in s (build_length 1 0 0 + 2 * p)) zero_partition most_partitions count ≡ filled (partition_at s) zero_partition most_partitions count
  unfolding partition_fields
  places_taken count = ap (λ xs. xs ++ replicate (most_partitions - count) zero_partition) (joined_same _ _ count (λ p l. let e : build_length 1 0 0 + 2 * p ≡ build_length 1 p 0 = omega arith in ap (λ (from : ℕ). partition_in s from ∷ []) e))

  every_same : (p q : ℕ → Bool) (n : ℕ) → ((i : ℕ) → p i ≡ q i) → every p n ≡ every q n
  unfolding every
  every_same p q zero same = refl
  every_same p q (suc n) same = rw (every_same p q n same, same n)

  pub places_clear : (count : ℕ) → every (λ p. eqb (partition_spare_in s (build_length 1 0 0 + 2 * p)) 0) count ≡ partitions_clear s count
  unfolding partition_fields partitions_clear
  places_clear count = every_same _ _ count (λ p. let e : build_length 1 0 0 + 2 * p ≡ build_length 1 p 0 = omega arith in ap (λ (from : ℕ). eqb (partition_spare_in s from) 0) e)

  pub members_taken : (partitions count : ℕ) → filled (λ i. member_in s (build_length 1 partitions 0 + 4 * i)) zero_member most_tasks count ≡ filled (member_at s partitions) zero_member most_tasks count
  unfolding member_fields
  members_taken partitions count = ap (λ xs. xs ++ replicate (most_tasks - count) zero_member) (joined_same _ _ count (λ i l. let e : build_length 1 partitions 0 + 4 * i ≡ build_length 1 partitions i = omega arith in ap (λ (from : ℕ). member_in s from ∷ []) e))

  pub tasks_clear : (partitions count : ℕ) → every (λ i. eqb (member_spare_in s (build_length 1 partitions 0 + 4 * i)) 0) count ≡ members_clear s partitions count
  unfolding member_fields members_clear
  tasks_clear partitions count = every_same _ _ count (λ i. let e : build_length 1 partitions 0 + 4 * i ≡ build_length 1 partitions i = omega arith in ap (λ (from : ℕ). eqb (member_spare_in s from) 0) e)
