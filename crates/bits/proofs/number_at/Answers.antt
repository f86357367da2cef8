use Rattle.std.proofs.Common.{◌≡◌, ◌<◌, ◌+◌, ◌∙◌, sym, get_or, arith}
use native.Mathlib.Nat.{le_antisymm}
use Rattle.bits.proofs.Field.{field_none, field_under, field_bytes_more}
use Rattle.bits.proofs.number_at.Goals as goal

pub loop-i-init : goal.loop-i-init
loop-i-init c = sym (field_none _ _)

pub overflow_mul-number : goal.overflow_mul-number
overflow_mul-number c =
    let small : c.loop-i.number < 72_057_594_037_927_936 = rw c.loop-i.invariant (field_under c.args.s.now _ _ 56 (omega arith)) in
    omega arith

pub overflow_add-number : goal.overflow_add-number
overflow_add-number c =
    let small : c.loop-i.number < 72_057_594_037_927_936 = rw c.loop-i.invariant (field_under c.args.s.now _ _ 56 (omega arith)) in
    omega arith

pub loop-i-preserved : goal.loop-i-preserved
loop-i-preserved c =
    let byte : get_or c.args.s.now (c.args.from + c.loop-i.i) 0 < 256 = omega arith in
    cc (field_bytes_more c.args.s.now _ _ byte)

pub returns : goal.returns
returns c =
    let all : c.loop-i.i ≡ c.args.count = le_antisymm c.loop-i.auto.i-end c.loop-i-test.false in
    c.loop-i.invariant ∙ rw all
