use Prim.Native.Nat.{◌*◌, ◌≤◌}
use mathlib.Core.Path.{◌≡◌}
use native.Mathlib.Omega.{arith}
use lib.ListN.{length, take}
use lib.Seq.{length-take-le}
use Rattle.laws.proofs.Front.{front_step}
use Rattle.build.specs.Build.{partition_bytes, member_bytes}
use Rattle.build.proofs.Bytes.{length_places, places_written, members_written}
use Rattle.build_out.proofs.put_build_records.Goals as goal

pub returns : goal.returns
unfolding partition_bytes
returns c =
    let out = c.args.out.now in
    let b = c.args.build.now in
    let places : b.partitions ≤ length b.places = omega (arith, c.requires.0.partitions) in
    let members : b.tasks ≤ length b.members = omega (arith, c.requires.0.tasks) in
    let place-count : length (take b.partitions b.places) ≡ b.partitions = length-take-le b.partitions b.places places in
    let member-count : length (take b.tasks b.members) ≡ b.tasks = length-take-le b.tasks b.members members in
    let first = rw (place-count, ← places_written b places) at c.put_records.ensures in
    let second = rw (member-count, ← members_written b members) at c.put_records-2.ensures in
    front_step (partition_bytes b b.partitions) (member_bytes b b.tasks) out c.put_records.new.out c.put_records-2.new.out (2 * b.partitions) (4 * b.tasks) (length_places b.places b.partitions) first second
