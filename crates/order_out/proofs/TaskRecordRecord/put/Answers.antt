use Prim.Native.Nat.{◌+◌, ◌*◌, ◌/◌, ◌%◌}
use mathlib.Core.Path.{◌∙◌}
use Rattle.laws.proofs.Front.{front_step}
use Rattle.bits.specs.Layout.{packed}
use Rattle.bits.proofs.Records.{length-packed}
use Rattle.order_out.proofs.Bytes.{task_bytes_lem}
use Rattle.order_out.proofs.TaskRecordRecord.put.Goals as goal

pub returns : goal.returns
returns c =
    let second = c.put_number-2 in
    let t = c.args.task in
    let high = packed 5 ((t.width * 1_048_576 + t.period) * 8_192 + t.deadline / 128) in
    let low = packed 4 (t.deadline % 128 * 33_554_432 + t.run * 32) in
    front_step high low c.args.out.now c.put_number.new.out second.new.out 5 4 (length-packed 5 _) (cc) (cc) ∙ rw (task_bytes_lem t c.requires.fields)
