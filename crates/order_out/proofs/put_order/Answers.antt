use Prim.Native.Nat.{◌*◌, ◌≤◌}
use mathlib.Core.Path.{◌≡◌}
use native.Mathlib.Omega.{arith}
use lib.ListN.{length, take}
use lib.Seq.{length-take-le}
use Rattle.laws.proofs.Front.{front_step}
use Rattle.bits.specs.Layout.{record_bytes}
use Rattle.bits.proofs.Records.{length_record}
use Rattle.model.specs.Layouts.{order_header}
use Rattle.order.specs.Order.{header_numbers, header_for, table_bytes, order_bytes}
use Rattle.order_out.proofs.Bytes.{table_written}
use Rattle.order_out.proofs.put_order.Goals as goal

pub returns : goal.returns
unfolding order_bytes
returns c =
    let a = c.args in
    let o = a.order.now in
    let tasks = o.tasks in
    let within : tasks ≤ length o.table = omega (arith, c.requires.0.tasks, c.requires.2) in
    let count : length (take tasks o.table) ≡ tasks = length-take-le tasks o.table within in
    let put = rw (count, ← table_written o within) at c.put_records.ensures in
    front_step (record_bytes order_header (header_numbers (header_for o.processors o.tasks))) (table_bytes o o.tasks) a.out.now c.put_header.new.out c.put_records.new.out 3 (9 * o.tasks) (length_record order_header _) c.put_header.ensures put
