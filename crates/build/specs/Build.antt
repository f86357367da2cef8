-- "Bits on the wire", the build: its records, its bytes, and the build that stands in some bytes.
use Rattle.std.specs.Prelude.{ℕ, ◌*◌, ◌≤◌, ◌<◌, ◌^◌, List, [], ◌∷◌, ◌++◌, get_or}
use Rattle.laws.specs.Joined.{joined, filled}
use Rattle.bits.specs.Layout.{record_bytes, FitIn, numbers_at}
use Rattle.model.specs.declared.build.Partition.{Partition}
use Rattle.model.specs.declared.build.Member.{Member}
use Rattle.model.specs.declared.build.Build.{Build}
use Rattle.model.specs.Limits.{most_tasks, most_partitions, zero_partition, zero_member, place_of, member_of}
use Rattle.model.specs.Layouts.{build_header, partition_record, member_record, build_length}
use Rattle.build.specs.declared.BuildHeader.{BuildHeader}

-- a header as the numbers in its fields: "version 4 (=1), M 7, n 6, partition count p 7"; and the header that such numbers make
abbrev pub build_header_numbers : BuildHeader → List ℕ
build_header_numbers header = header.version ∷ header.processors ∷ header.tasks ∷ header.partitions ∷ []

abbrev pub build_header_from : List ℕ → BuildHeader
build_header_from numbers = record { version = get_or numbers 0 0; processors = get_or numbers 1 0; tasks = get_or numbers 2 0; partitions = get_or numbers 3 0 }

-- a partition as the numbers in its record's fields, with its spare bits: "volume 7, first processor 6, spare 3"; and back
abbrev pub partition_numbers : Partition → (spare : ℕ) → List ℕ
partition_numbers place spare = place.volume ∷ place.first ∷ spare ∷ []

abbrev pub partition_from : List ℕ → Partition
partition_from numbers = record { volume = get_or numbers 0 0; first = get_or numbers 1 0 }

-- a task's record as the numbers in its fields, with its spare bit: "partition 6, rank 5, worst response 20, spare 1"; and back
abbrev pub member_numbers : Member → (spare : ℕ) → List ℕ
member_numbers member spare = member.partition ∷ member.rank ∷ member.response ∷ spare ∷ []

abbrev pub member_from : List ℕ → Member
member_from numbers = record { partition = get_or numbers 0 0; rank = get_or numbers 1 0; response = get_or numbers 2 0 }

-- the header that stands in the bytes
unfoldable pub build_header_of : List ℕ → BuildHeader
build_header_of s = build_header_from (numbers_at s 0 build_header)

-- the numbers in the record of partition p
unfoldable pub partition_fields : List ℕ → ℕ → List ℕ
partition_fields s p = numbers_at s (8 * build_length 1 p 0) (partition_record 1)

abbrev pub partition_at : List ℕ → ℕ → Partition
partition_at s p = partition_from (partition_fields s p)

abbrev pub partition_spare_at : List ℕ → ℕ → ℕ
partition_spare_at s p = get_or (partition_fields s p) 2 0

-- the numbers in the record of task i, behind so many partitions
unfoldable pub member_fields : List ℕ → (partitions i : ℕ) → List ℕ
member_fields s partitions i = numbers_at s (8 * build_length 1 partitions i) member_record

abbrev pub member_at : List ℕ → (partitions i : ℕ) → Member
member_at s partitions i = member_from (member_fields s partitions i)

abbrev pub member_spare_at : List ℕ → (partitions i : ℕ) → ℕ
member_spare_at s partitions i = get_or (member_fields s partitions i) 3 0

-- the build that stands in the bytes, zero past its counts
unfoldable pub build_at : List ℕ → Build
build_at s =
    let header = build_header_of s in
    record {
      processors = header.processors;
      tasks = header.tasks;
      partitions = header.partitions;
      places = filled (partition_at s) zero_partition most_partitions header.partitions;
      members = filled (member_at s header.partitions) zero_member most_tasks header.tasks;
    }

-- "Partition records, then task records": the bytes of a build; "Spare bits are zero."
unfoldable pub partition_bytes : Build → (partitions : ℕ) → List ℕ
partition_bytes b partitions = joined (λ p. record_bytes (partition_record 1) (partition_numbers (place_of b p) 0)) partitions

unfoldable pub member_bytes : Build → (tasks : ℕ) → List ℕ
member_bytes b tasks = joined (λ i. record_bytes member_record (member_numbers (member_of b i) 0)) tasks

abbrev pub build_header_for : Build → BuildHeader
build_header_for b = record { version = 1; processors = b.processors; tasks = b.tasks; partitions = b.partitions }

unfoldable pub build_bytes : Build → List ℕ
build_bytes b = record_bytes build_header (build_header_numbers (build_header_for b)) ++ (partition_bytes b b.partitions ++ member_bytes b b.tasks)

-- each number fits its field
pub record FieldsFit (b : Build) : Type 0 where
  pub processors : b.processors < 2 ^ 7
  pub tasks : b.tasks ≤ most_tasks
  pub partitions : b.partitions ≤ most_partitions
  pub each_place : (p : ℕ) → p < b.partitions → FitIn (partition_record 1) (partition_numbers (place_of b p) 0)
  pub each_member : (i : ℕ) → i < b.tasks → FitIn member_record (member_numbers (member_of b i) 0)
