-- Laws of the order's bytes as the writer computes them.
use mathlib.Core.Path.{◌≡◌, ap, ◌∙◌}
use mathlib.Core.List.{List, ◌++◌}
use Prim.Native.Nat.{ℕ, ◌+◌, ◌*◌, ◌/◌, ◌%◌, ◌≤◌}
use native.Mathlib.Omega.{arith}
use lib.ListN.{length, get_or, take, length-append}
use Rattle.std.specs.List.{flat_map}
use Rattle.laws.specs.Joined.{joined}
use Rattle.laws.proofs.Joined.{length-joined}
use Rattle.bits.specs.Layout.{packed, number_in, record_bytes, FitIn}
use Rattle.bits.proofs.Written.{joined_written}
use Rattle.bits.proofs.Records.{packed_two, length_record}
use Rattle.model.specs.declared.order.Task.{Task}
use Rattle.model.specs.declared.order.Order.{Order}
use Rattle.model.specs.Limits.{zero_task}
use Rattle.model.specs.Layouts.{order_header, task_record, order_length}
use Rattle.order.specs.Order.{header_numbers, header_for, task_numbers, task_bytes, table_bytes, order_bytes}

pub header_bytes_lem : (processors tasks : ℕ) → record_bytes order_header (header_numbers (header_for processors tasks)) ≡ packed 3 (((128 + processors) * 64 + tasks) * 128)
unfolding record_bytes
header_bytes_lem processors tasks = ap (packed 3) (omega arith)

-- a record's 72 bits, in two numbers of 5 and 4 bytes
pub task_bytes_lem : (t : Task) → FitIn (task_record 1) (task_numbers t 0) →
    task_bytes t ≡ packed 5 ((t.width * 1_048_576 + t.period) * 8_192 + t.deadline / 128) ++ packed 4 (t.deadline % 128 * 33_554_432 + t.run * 32)
unfolding record_bytes
task_bytes_lem t fits =
    let high = (t.width * 1_048_576 + t.period) * 8_192 + t.deadline / 128 in
    let low = t.deadline % 128 * 33_554_432 + t.run * 32 in
    let e : number_in (task_record 1) (task_numbers t 0) ≡ high * 4_294_967_296 + low = omega arith in
    ap (packed 9) e ∙ packed_two 5 4 high low (omega arith)

-- the records of a table's first tasks
abbrev pub records_of : List Task → ℕ → List ℕ
records_of table tasks = joined (λ i. task_bytes (get_or table i zero_task)) tasks

pub length_records : (table : List Task) (tasks : ℕ) → length (records_of table tasks) ≡ 9 * tasks
length_records table tasks = length-joined (λ i. task_bytes (get_or table i zero_task)) 9 tasks (λ i. length_record (task_record 1) _)

pub length_order : (o : Order) → length (order_bytes o) ≡ order_length 1 o.tasks
unfolding order_bytes table_bytes
length_order o = rw (length-append, length_record, length_records o.table o.tasks)

-- the records of an order's tasks, as they are put from its table
pub table_written : (o : Order) → o.tasks ≤ length o.table → table_bytes o o.tasks ≡ flat_map task_bytes (take o.tasks o.table)
unfolding table_bytes
table_written o within = joined_written task_bytes o.table zero_task o.tasks within
