use borrow.Author.Rules.{rules}
use mathlib.Core.Path.{◌≡◌, refl, ◌∙◌}
use native.Mathlib.Nat.{lt_of_lt_of_le}
use Rattle.put.proofs.Put.{put_front}
use Rattle.list_out.proofs.Ahead.{all_ahead, none_ahead, run_room, less_ahead}
use Rattle.list_out.proofs.put_list.Goals as goal

pub loop-processor-init : goal.loop-processor-init
loop-processor-init c = let new = c.new-output.ensures in (refl, rw (new.front, new.same_bytes) (all_ahead _ _ c.requires))

pub put_run-requires-clause-below : goal.put_run-requires-clause-below
put_run-requires-clause-below c = lt_of_lt_of_le c.loop-processor-test.true c.above_all-processor-end.ensures.few

pub put_run-requires-clause-room : goal.put_run-requires-clause-room
put_run-requires-clause-room c = run_room _ _ _ _ _ c.loop-processor.invariant.1 (lt_of_lt_of_le c.loop-processor-test.true c.above_all-processor-end.ensures.few)

pub loop-processor-preserved : goal.loop-processor-preserved
loop-processor-preserved c =
    let below = lt_of_lt_of_le c.loop-processor-test.true c.above_all-processor-end.ensures.few in
    (c.put_run.ensures.same_reference ∙ c.loop-processor.invariant.0, less_ahead _ _ _ _ _ c.loop-processor.invariant.1 below _ _ c.put_run.ensures.put)

pub returns : goal.returns
returns c =
    let l = c.loop-processor in
    let name = l.invariant.0 ∙ c.new-output.ensures.same_reference in
    let left : c.out-1.given.0 ≡ l.output.bytes.now = search rules in
    left ∙ none_ahead _ _ _ _ _ l.invariant.1 _ c.above_all-processor-end.ensures.above c.loop-processor-test.false ∙ put_front _ _
