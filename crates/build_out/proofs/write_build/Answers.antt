use Prim.Native.Nat.{ℕ, ◌+◌, ◌*◌}
use mathlib.Core.Path.{◌≡◌, ap, ◌∙◌}
use mathlib.Core.List.{◌++◌}
use native.Mathlib.Omega.{arith}
use lib.ListN.{drop}
use Rattle.laws.proofs.Front.{front_step}
use Rattle.bits.specs.Layout.{record_bytes}
use Rattle.bits.proofs.Records.{length_record}
use Rattle.model.specs.Layouts.{build_header, build_length}
use Rattle.build.specs.Build.{build_header_numbers, build_header_for, partition_bytes, member_bytes, build_bytes}
use Rattle.build_out.proofs.write_build.Goals as goal

pub returns : goal.returns
unfolding build_bytes
returns c =
    let a = c.args in
    let b = a.build in
    let size : 3 + (2 * b.partitions + 4 * b.tasks) ≡ build_length 1 b.partitions b.tasks = omega arith in
    front_step (record_bytes build_header (build_header_numbers (build_header_for b))) (partition_bytes b b.partitions ++ member_bytes b b.tasks) a.out.now c.put_header.new.out c.put_build_records.new.out 3 (2 * b.partitions + 4 * b.tasks) (length_record build_header _) c.put_header.ensures c.put_build_records.ensures ∙ ap (λ (n : ℕ). build_bytes b ++ drop n a.out.now) size
