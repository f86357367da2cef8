use Rattle.std.proofs.Common.{arith, ap, ◌∙◌, ◌+◌}
use Rattle.model.proofs.Rules.{handed_on}
use Rattle.placing.specs.declared.TaskLine.{TaskLine}
use Rattle.fit.proofs.Loop.{at_first, all_done, one_refused, one_more}
use Rattle.fit.proofs.taking.take_turns.Goals as goal

pub loop-init : goal.loop-init
loop-init c = (c.requires, at_first _ c.requires _ _ c.nothing-placing.ensures c.empty.ensures, ap (λ (x : TaskLine). x.placed) c.empty.ensures)

pub take_turn-requires : goal.take_turn-requires
take_turn-requires c =
    record { limits = c.loop.invariant.0; rows = c.row_table-table.ensures; early = omega (arith, c.loop.invariant.2, c.loop-test.true); lines = c.loop.invariant.1.lines }

pub returns-in_err-placing : goal.returns-in_err-placing
returns-in_err-placing c =
    rw (handed_on c.from_residual.result c.from_residual.ensures.1)
    (one_refused _ _ _ _ c.loop.invariant.1 (omega (arith, c.loop.invariant.2, c.loop-test.true)) _ _ c.take_turn.ensures _ c.in_err-placing.was)

pub loop-preserved : goal.loop-preserved
loop-preserved c = (
  c.loop.invariant.0,
  one_more _ _ _ _ c.loop.invariant.1 (omega (arith, c.loop.invariant.2, c.loop-test.true)) _ _ c.take_turn.ensures _ c.in_ok-placing.was,
  c.take_turn.ensures.one_more _ c.in_ok-placing.was ∙ ap (λ n. n + 1) c.loop.invariant.2,
)

pub returns : goal.returns
returns c = all_done _ _ _ _ c.loop.invariant.1 (omega (arith, c.loop.invariant.2, c.loop-test.false))
