use mathlib.Core.Path.{sym, ap, ◌∙◌, subst}
use Prim.Native.Nat.{◌+◌, ◌≤◌, ◌<◌}
use native.Mathlib.Omega.{arith}
use lib.ListN.{length}
use Rattle.std.specs.Prelude.{Ok}
use Rattle.sets.specs.Sets.{union}
use Rattle.model.proofs.Rules.{given_done, given_refused, handed_on}
use Rattle.list.specs.Taken.{all_answer, all_set}
use Rattle.list.proofs.Items.{ItemsLeft, item_held, all_left, items_stop, items_more, taken_span}
use Rattle.list.proofs.take_items.Goals as goal

pub loop-item-init : goal.loop-item-init
loop-item-init c = (rw c.new-reader.ensures.at (all_left c.args.text.now), cc)

pub take_item-requires : goal.take_item-requires
take_item-requires c = rw c.loop-item.invariant.1 c.requires

pub returns-in_err-item : goal.returns-in_err-item
returns-in_err-item c =
    let text = c.args.text.now in
    let l = c.loop-item in
    let item = rw l.invariant.1 at c.take_item.ensures.item in
    let inside : l.reader.at ≤ length text = rw l.invariant.1 at l.reader.inside in
    let passed = handed_on c.from_residual.result c.from_residual.ensures.1 in
    rw passed (sym (given_refused (all_set text) (all_answer text) (items_stop text l.reader.at l.set l.invariant.0 inside c.take_item.result _ item _ c.in_err-item.was)))

pub overflow_add-item : goal.overflow_add-item
overflow_add-item c =
    let held = item_held _ _ _ _ _ _ c.take_item.ensures.item c.in_ok-item.was in
    omega (arith, held.last_is, held.right.listed)

pub overflow_sub-item : goal.overflow_sub-item
overflow_sub-item c =
    let held = item_held _ _ _ _ _ _ c.take_item.ensures.item c.in_ok-item.was in
    omega (arith, held.first_is, held.last_is, held.right.rises)

pub span-processors-requires : goal.span-processors-requires
span-processors-requires c =
    let held = item_held _ _ _ _ _ _ c.take_item.ensures.item c.in_ok-item.was in
    omega (arith, held.first_is, held.last_is, held.right.rises, held.right.listed)

pub returns-then-reader-text : goal.returns-then-reader-text
returns-then-reader-text c =
    let text = c.args.text.now in
    let l = c.loop-item in
    let item = rw l.invariant.1 at c.take_item.ensures.item in
    let inside : l.reader.at ≤ length text = rw l.invariant.1 at l.reader.inside in
    let held = item_held _ _ _ _ _ _ item c.in_ok-item.was in
    let over = items_more text l.reader.at l.set l.invariant.0 inside c.take_item.result _ item _ c.in_ok-item.was in
    let past : length text < c.take_item.new.reader.at + 1 = omega (arith, c.if-reader-text.true) in
    let processors = taken_span _ _ _ _ _ held ∙ sym c.span-processors.ensures in
    ap Ok (c.union-set.ensures ∙ sym (ap (union l.set) processors) ∙ sym (over.set_over past)) ∙ sym (given_done (all_set text) (all_answer text) (over.answer_over past))

pub loop-item-smaller : goal.loop-item-smaller
loop-item-smaller c =
    let text = c.args.text.now in
    let item = rw c.loop-item.invariant.1 at c.take_item.ensures.item in
    let held = item_held _ _ _ _ _ _ item c.in_ok-item.was in
    let within : c.skip.new.self.at ≤ length text = rw (c.skip.ensures.text, c.take_item.ensures.text, c.loop-item.invariant.1) at c.skip.new.self.inside in
    omega (arith, held.next_at, c.skip.ensures.at, within)

pub loop-item-preserved : goal.loop-item-preserved
loop-item-preserved c =
    let text = c.args.text.now in
    let l = c.loop-item in
    let item = rw l.invariant.1 at c.take_item.ensures.item in
    let inside : l.reader.at ≤ length text = rw l.invariant.1 at l.reader.inside in
    let held = item_held _ _ _ _ _ _ item c.in_ok-item.was in
    let next = items_more text l.reader.at l.set l.invariant.0 inside c.take_item.result _ item _ c.in_ok-item.was in
    let processors = taken_span _ _ _ _ _ held ∙ sym c.span-processors.ensures in
    (rw c.skip.ensures.at (subst (ItemsLeft text (c.take_item.new.reader.at + 1)) (ap (union l.set) processors ∙ sym c.union-set.ensures) next), cc)
