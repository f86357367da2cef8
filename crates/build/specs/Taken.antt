-- The build's records taken: what stands in the record that begins at a byte, and that no spare bit is set.
use Rattle.std.specs.Prelude.{ℕ, ◌*◌, ◌≡◌, Bool, ◌&&◌, List, get_or, eqb}
use Rattle.laws.specs.Every.{every}
use Rattle.bits.specs.Layout.{numbers_at}
use Rattle.model.specs.declared.build.Partition.{Partition}
use Rattle.model.specs.declared.build.Member.{Member}
use Rattle.model.specs.Layouts.{partition_record, member_record}
use Rattle.build.specs.declared.BuildTaken.{BuildTaken}
use Rattle.build.specs.Build.{build_header_of, partition_from, partition_spare_at, member_from, member_spare_at, build_at}

abbrev pub partition_in : List ℕ → (from : ℕ) → Partition
partition_in s from = partition_from (numbers_at s (8 * from) (partition_record 1))

abbrev pub partition_spare_in : List ℕ → (from : ℕ) → ℕ
partition_spare_in s from = get_or (numbers_at s (8 * from) (partition_record 1)) 2 0

abbrev pub member_in : List ℕ → (from : ℕ) → Member
member_in s from = member_from (numbers_at s (8 * from) member_record)

abbrev pub member_spare_in : List ℕ → (from : ℕ) → ℕ
member_spare_in s from = get_or (numbers_at s (8 * from) member_record) 3 0

-- no spare bit of the partitions' records is set
unfoldable pub partitions_clear : List ℕ → (partitions : ℕ) → Bool
partitions_clear s partitions = every (λ p. eqb (partition_spare_at s p) 0) partitions

-- nor of the tasks' records
unfoldable pub members_clear : List ℕ → (partitions tasks : ℕ) → Bool
members_clear s partitions tasks = every (λ i. eqb (member_spare_at s partitions i) 0) tasks

-- 23's test, and the build
abbrev pub TakesBuild : List ℕ → BuildTaken → Type 0
TakesBuild s taken =
    (taken.clear ≡ (partitions_clear s (build_header_of s).partitions && members_clear s (build_header_of s).partitions (build_header_of s).tasks)) × (taken.build ≡ build_at s)
