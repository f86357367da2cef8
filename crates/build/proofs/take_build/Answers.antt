use Prim.Native.Nat.{ℕ}
use mathlib.Core.Path.{◌≡◌, ◌∙◌}
use mathlib.Core.List.{List}
use Rattle.laws.specs.Joined.{filled}
use Rattle.model.specs.declared.build.Partition.{Partition}
use Rattle.model.specs.declared.build.Member.{Member}
use Rattle.model.specs.Limits.{most_tasks, most_partitions, zero_partition, zero_member}
use Rattle.build.specs.declared.BuildHeader.{BuildHeader}
use Rattle.build.specs.Build.{build_header_of, partition_at, member_at, build_at}
use Rattle.build.specs.Taken.{partitions_clear, members_clear}
use Rattle.build.proofs.Records.{places_taken, places_clear, members_taken, tasks_clear}
use Rattle.build.proofs.take_build.Goals as goal

-- the build that was taken is the one that stands in the bytes
build-same : (s : List ℕ) (h : BuildHeader) (places : List Partition) (members : List Member) → h ≡ build_header_of s →
    places ≡ filled (partition_at s) zero_partition most_partitions h.partitions → members ≡ filled (member_at s h.partitions) zero_member most_tasks h.tasks →
    record { processors = h.processors; tasks = h.tasks; partitions = h.partitions; places = places; members = members } ≡ build_at s
unfolding build_at
build-same s h places members e p m = rw (p, m, e)

pub returns : goal.returns
returns c =
    let s = c.args.build.now in
    let h = c.args.header in
    let p = c.take_table-places in
    let m = c.take_table-members in
    let places-clear : p.result.clear ≡ partitions_clear s h.partitions = rw c.bytes.ensures at p.ensures.clear ∙ places_clear s h.partitions in
    let members-clear : m.result.clear ≡ members_clear s h.partitions h.tasks = rw c.bytes-2.ensures at m.ensures.clear ∙ tasks_clear s h.partitions h.tasks in
    let places = rw c.bytes.ensures at p.ensures.table ∙ places_taken s h.partitions in
    let members = rw c.bytes-2.ensures at m.ensures.table ∙ members_taken s h.partitions h.tasks in (
      rw (places-clear, members-clear, c.requires.0),
      build-same s h _ _ c.requires.0 places members,
    )
