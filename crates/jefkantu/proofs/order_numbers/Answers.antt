use mathlib.Core.Path.{◌≡◌, ap, ◌∙◌}
use native.Mathlib.Omega.{arith}
use Rattle.jefkantu.proofs.Numbers.{numbers_to, numbers_none, numbers_more, numbers_all}
use Rattle.jefkantu.proofs.order_numbers.Goals as goal

pub loop-i-init : goal.loop-i-init
loop-i-init c = numbers_none c.args.order.processors c.args.order.tasks c.args.order.table

pub loop-i-preserved : goal.loop-i-preserved
loop-i-preserved c =
    let o = c.args.order in
    rw c.loop-i.invariant (numbers_more o.processors o.tasks o.table c.loop-i.i c.loop-i-test.true)

pub returns : goal.returns
returns c =
    let o = c.args.order in
    let all : c.loop-i.i ≡ 32 = omega arith in
    c.loop-i.invariant ∙ ap (numbers_to o.processors o.tasks o.table) all ∙ numbers_all o.processors o.tasks o.table
