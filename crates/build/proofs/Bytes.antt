-- The bytes of a build's records one by one, and how long they are together.
use mathlib.Core.Path.{◌≡◌}
use mathlib.Core.List.{List}
use Prim.Native.Nat.{ℕ, ◌*◌, ◌≤◌}
use lib.ListN.{length, get_or, take}
use Rattle.std.specs.List.{flat_map}
use Rattle.laws.specs.Joined.{joined}
use Rattle.laws.proofs.Joined.{length-joined}
use Rattle.bits.specs.Layout.{record_bytes}
use Rattle.bits.proofs.Records.{length_record}
use Rattle.bits.proofs.Written.{joined_written}
use Rattle.model.specs.declared.build.Partition.{Partition}
use Rattle.model.specs.declared.build.Member.{Member}
use Rattle.model.specs.declared.build.Build.{Build}
use Rattle.model.specs.Limits.{zero_partition, zero_member}
use Rattle.model.specs.Layouts.{partition_record, member_record}
use Rattle.build.specs.Build.{partition_numbers, member_numbers, partition_bytes, member_bytes}

module _ (places : List Partition) where
  abbrev pub place_bytes : ℕ → List ℕ
  place_bytes p = record_bytes (partition_record 1) (partition_numbers (get_or places p zero_partition) 0)

  pub length_places : (count : ℕ) → length (joined place_bytes count) ≡ 2 * count
  length_places count = length-joined place_bytes 2 count (λ p. length_record (partition_record 1) _)

module _ (members : List Member) where
  abbrev pub task_bytes : ℕ → List ℕ
  task_bytes i = record_bytes member_record (member_numbers (get_or members i zero_member) 0)

  pub length_tasks : (count : ℕ) → length (joined task_bytes count) ≡ 4 * count
  length_tasks count = length-joined task_bytes 4 count (λ i. length_record member_record _)

-- the records of a build, as they are put from its tables
module _ (b : Build) where
  pub places_written : b.partitions ≤ length b.places → partition_bytes b b.partitions ≡ flat_map (λ place. record_bytes (partition_record 1) (partition_numbers place 0)) (take b.partitions b.places)
  unfolding partition_bytes
  places_written within = joined_written (λ (place : Partition). record_bytes (partition_record 1) (partition_numbers place 0)) b.places zero_partition b.partitions within

  pub members_written : b.tasks ≤ length b.members → member_bytes b b.tasks ≡ flat_map (λ member. record_bytes member_record (member_numbers member 0)) (take b.tasks b.members)
  unfolding member_bytes
  members_written within = joined_written (λ (member : Member). record_bytes member_record (member_numbers member 0)) b.members zero_member b.tasks within
