use Rattle.std.proofs.Common.{◌+◌, ap, arith}
use Rattle.model.specs.Limits.{cost}
use Rattle.asked.specs.declared.lines.Line.{Line}
use Rattle.asked.proofs.RowLaws.{fit_fewer, cost_most}
use Rattle.asked.proofs.Slopes.{line_none, line_small, line_grown}
use Rattle.asked.proofs.lines.line_below.Goals as goal

pub loop-r-init : goal.loop-r-init
loop-r-init c = line_none c.args.rows.now c.args.w c.args.reach

pub line_of-its-requires : goal.line_of-its-requires
unfolding cost
line_of-its-requires c =
    let fit = c.requires.0 in
    let l = c.loop-r-test.true in
    ((fit.each c.loop-r.r l).period_least, cost_most c.args.rows.now c.args.count fit c.loop-r.r l, c.requires.1)

pub overflow_add-rest : goal.overflow_add-rest
overflow_add-rest c =
    let a = c.args in
    let n = c.loop-r.r + 1 in
    let few = line_small a.rows.now a.w a.reach n (fit_fewer a.rows.now a.count n (omega arith) c.requires.0) c.requires.1 in
    let more = line_grown a.rows.now a.w a.reach c.loop-r.r c.loop-r.rest c.loop-r.slope c.line_of-its.result c.loop-r.invariant c.line_of-its.ensures in
    record { fits = omega (arith, few.0, ap (λ (x : Line). x.rest) more) }

pub overflow_add-slope : goal.overflow_add-slope
overflow_add-slope c =
    let a = c.args in
    let n = c.loop-r.r + 1 in
    let few = line_small a.rows.now a.w a.reach n (fit_fewer a.rows.now a.count n (omega arith) c.requires.0) c.requires.1 in
    let more = line_grown a.rows.now a.w a.reach c.loop-r.r c.loop-r.rest c.loop-r.slope c.line_of-its.result c.loop-r.invariant c.line_of-its.ensures in
    record { fits = omega (arith, few.1, ap (λ (x : Line). x.slope) more) }

pub loop-r-preserved : goal.loop-r-preserved
loop-r-preserved c =
    line_grown c.args.rows.now c.args.w c.args.reach c.loop-r.r c.loop-r.rest c.loop-r.slope c.line_of-its.result c.loop-r.invariant c.line_of-its.ensures
