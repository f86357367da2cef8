use borrow.Author.Rules.{rules}
use mathlib.Core.Path.{◌≡◌, refl, ap, ◌∙◌}
use Prim.Native.Nat.{ℕ}
use native.Mathlib.Nat.{le_antisymm}
use mathlib.Core.List.{List, ◌++◌}
use lib.ListN.{length, drop}
use Rattle.model.specs.declared.order.Order.{Order}
use Rattle.form.specs.Written.{order_text}
use Rattle.put.specs.Put.{HasRoom}
use Rattle.put.proofs.Put.{put_front, parts_none, part_room, parts_more}
use Rattle.text_out.proofs.Lines.{line_of, lines_of}
use Rattle.text_out.proofs.put_lines.Goals as goal

pub loop-line-init : goal.loop-line-init
loop-line-init c = let new = c.new-output.ensures in (refl, search rules, rw (new.front, new.same_bytes) (parts_none (line_of c.args.order.now.table) c.args.out.now))

-- the room for all
lines-room : (order : Order) (output : List ℕ) → HasRoom 0 (order_text order) output → HasRoom 0 (lines_of order.table order.tasks) output
unfolding order_text
lines-room order output room = room

pub put_line-requires : goal.put_line-requires
put_line-requires c =
    let o = c.args.order.now in
    part_room (line_of o.table) _ _ (lines-room o c.args.out.now c.requires.room) _ c.loop-line-test.true c.loop-line.invariant.2

pub loop-line-preserved : goal.loop-line-preserved
loop-line-preserved c =
    let o = c.args.order.now in
    let l = c.loop-line in
    (c.put_line.ensures.same_reference ∙ l.invariant.0, search rules, parts_more (line_of o.table) _ _ (lines-room o c.args.out.now c.requires.room) _ c.loop-line-test.true l.invariant.2 c.put_line.ensures.put)

pub returns : goal.returns
unfolding order_text
returns c =
    let o = c.args.order.now in
    let l = c.loop-line in
    let name = l.invariant.0 ∙ c.new-output.ensures.same_reference in
    let left : c.out-1.given.0 ≡ l.output.bytes.now = search rules in
    left ∙ l.invariant.2.written ∙ put_front _ _ ∙ ap (λ (n : ℕ). lines_of o.table n ++ drop (length (lines_of o.table n)) c.args.out.now) (le_antisymm l.invariant.1 c.loop-line-test.false)
