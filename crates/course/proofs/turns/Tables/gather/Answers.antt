use mathlib.Core.Path.{sym, ◌∙◌}
use Rattle.course.proofs.Gathering.{gathered_none, joins_before, joins_not, rank_here, rank_few, gathered_more, gathered_all}
use Rattle.course.proofs.turns.Tables.gather.Goals as goal

pub loop-i-init : goal.loop-i-init
loop-i-init c = λ so. gathered_none so

pub with_rank-set-requires : goal.with_rank-set-requires
with_rank-set-requires c =
    let so = c.requires in
    let here = joins_before so c.loop-i.ahead (c.loop-i.invariant so).there (sym c.joined.ensures ∙ c.loop-i-test.true) in
    rank_few so c.loop-i.ahead here.0

pub loop-i-preserved : goal.loop-i-preserved
loop-i-preserved c = λ so.
    let a = c.loop-i.ahead in
    let here = joins_before so a (c.loop-i.invariant so).there (sym c.joined.ensures ∙ c.loop-i-test.true) in
    rw (c.with_rank-set.ensures, rank_here so a here.0) (gathered_more so a c.loop-i.set (c.loop-i.invariant so) here.0 here.1)

pub returns : goal.returns
returns c = λ so. gathered_all so c.loop-i.ahead c.loop-i.set (c.loop-i.invariant so) (joins_not so c.loop-i.ahead (c.loop-i.invariant so).there (sym c.joined.ensures ∙ c.loop-i-test.false))
