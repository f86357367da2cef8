-- The bytes of each record as those of the writer's one number.
use mathlib.Core.Path.{◌≡◌, ap}
use Prim.Native.Nat.{◌+◌, ◌*◌}
use native.Mathlib.Omega.{arith}
use Rattle.bits.specs.Layout.{packed, record_bytes}
use Rattle.model.specs.declared.build.Partition.{Partition}
use Rattle.model.specs.declared.build.Member.{Member}
use Rattle.model.specs.Layouts.{build_header, partition_record, member_record}
use Rattle.build.specs.declared.BuildHeader.{BuildHeader}
use Rattle.build.specs.Build.{build_header_numbers, partition_numbers, member_numbers}

pub header_number : (h : BuildHeader) → packed 3 (((h.version * 128 + h.processors) * 64 + h.tasks) * 128 + h.partitions) ≡ record_bytes build_header (build_header_numbers h)
unfolding record_bytes
header_number h = ap (packed 3) (omega arith)

pub partition_number : (place : Partition) → packed 2 ((place.volume * 64 + place.first) * 8) ≡ record_bytes (partition_record 1) (partition_numbers place 0)
unfolding record_bytes
partition_number place = ap (packed 2) (omega arith)

pub member_number : (member : Member) → packed 4 (((member.partition * 32 + member.rank) * 1_048_576 + member.response) * 2) ≡ record_bytes member_record (member_numbers member 0)
unfolding record_bytes
member_number member = ap (packed 4) (omega arith)
