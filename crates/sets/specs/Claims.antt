-- What sets are, by the processors that they have; proved in proofs/.
use Rattle.std.specs.Prelude.{ℕ, ◌+◌, ◌≤◌, ◌<◌, ◌≡◌, Bool, true, false, ◌↔◌, ◌⊎◌}
use Rattle.model.specs.declared.build.Partition.{Partition}
use Rattle.model.specs.Limits.{most_processors}
use Rattle.model.specs.Processors.{volume_of, OfPartition}
use Rattle.sets.specs.Sets.{IsSet, has, set_of, size_of_set, union, lowest_of, partition_set}

-- a set has just the processors that pass its test, and none from 64 on
abbrev pub ProcessorsPass : Type 0
ProcessorsPass = (passes : ℕ → Bool) → IsSet (set_of passes) × ((k : ℕ) → k < most_processors → has (set_of passes) k ≡ passes k)

abbrev pub NonePast : Type 0
NonePast = (set : ℕ) → IsSet set → (k : ℕ) → most_processors ≤ k → has set k ≡ false

-- two sets are equal exactly when they have the same processors
abbrev pub SameProcessors : Type 0
SameProcessors = (one other : ℕ) → IsSet one → IsSet other → (one ≡ other) ↔ ((k : ℕ) → k < most_processors → has one k ≡ has other k)

-- a processor is in a union exactly when it is in one of the two
abbrev pub UnionHas : Type 0
UnionHas = (one other k : ℕ) → k < most_processors → (has (union one other) k ≡ true) ↔ ((has one k ≡ true) ⊎ (has other k ≡ true))

-- the lowest so many of a set: so many or all, and each that is left out stands above them
pub record AreLowest (set count chosen : ℕ) : Type 0 where
  pub from_set : (k : ℕ) → has chosen k ≡ true → has set k ≡ true
  pub below : (j k : ℕ) → has chosen k ≡ true → has set j ≡ true → j < k → has chosen j ≡ true
  pub so_many : count ≤ size_of_set set → size_of_set chosen ≡ count
  pub or_all : size_of_set set ≤ count → chosen ≡ set

abbrev pub LowestAre : Type 0
LowestAre = (set count : ℕ) → IsSet set → AreLowest set count (lowest_of set count)

-- the set of a partition has the partition's processors, as many as its volume
abbrev pub PartitionHas : Type 0
PartitionHas = (place : Partition) → place.first + volume_of place ≤ most_processors → (x : ℕ) → (has (partition_set place) x ≡ true) ↔ OfPartition place x

abbrev pub PartitionSize : Type 0
PartitionSize = (place : Partition) → place.first + volume_of place ≤ most_processors → size_of_set (partition_set place) ≡ volume_of place
