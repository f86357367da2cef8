-- The build's layout, tied both ways: what was written reads back, and bytes that hold a build are that build's; claims, proved in proofs/.
use Rattle.std.specs.Prelude.{ℕ, ◌≤◌, ◌<◌, ◌≡◌, List, ◌++◌, length}
use Rattle.bits.specs.Layout.{Bytes}
use Rattle.model.specs.declared.build.Build.{Build}
use Rattle.model.specs.Limits.{most_tasks, most_partitions, zero_partition, zero_member, place_of, member_of}
use Rattle.model.specs.Layouts.{build_length}
use Rattle.build.specs.Build.{build_header_of, partition_spare_at, member_spare_at, build_at, build_bytes, FieldsFit}

-- tables of 32 places, zero past the counts
pub record ZeroPast (b : Build) : Type 0 where
  pub places_length : length b.places ≡ most_partitions
  pub members_length : length b.members ≡ most_tasks
  pub places_past : (p : ℕ) → b.partitions ≤ p → place_of b p ≡ zero_partition
  pub members_past : (i : ℕ) → b.tasks ≤ i → member_of b i ≡ zero_member

-- the bytes hold this build: its version is 1, its fields read as they are, and "Spare bits are zero."
pub record Holds (s : List ℕ) (b : Build) : Type 0 where
  pub version : (build_header_of s).version ≡ 1
  pub build : build_at s ≡ b
  pub partition_spares : (p : ℕ) → p < b.partitions → partition_spare_at s p ≡ 0
  pub member_spares : (i : ℕ) → i < b.tasks → member_spare_at s b.partitions i ≡ 0

-- "Length 3 + 2p + 4n."
abbrev pub LengthRight : Type 0
LengthRight = (b : Build) → length (build_bytes b) ≡ build_length 1 b.partitions b.tasks

-- whatever follows a build's bytes, they hold it
abbrev pub ReadsBack : Type 0
ReadsBack = (b : Build) (rest : List ℕ) → FieldsFit b → ZeroPast b → Holds (build_bytes b ++ rest) b

-- and whatever bytes of that length hold a build are its bytes
abbrev pub WritesBack : Type 0
WritesBack = (s : List ℕ) (b : Build) → Bytes s → b.partitions ≤ most_partitions → b.tasks ≤ most_tasks
    → length s ≡ build_length 1 b.partitions b.tasks → Holds s b → s ≡ build_bytes b
