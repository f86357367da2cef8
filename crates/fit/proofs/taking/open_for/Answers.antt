use Rattle.std.proofs.Common.{sym, ap, ◌∙◌, Ok}
use Rattle.fitting.specs.declared.Placing.{Placing}
use Rattle.fitting.specs.Steps.{put, told}
use Rattle.fitting.proofs.Turning.{opening_new, opening_none}
use Rattle.fit.proofs.taking.open_for.Goals as goal

pub returns-then-order-placing : goal.returns-then-order-placing
returns-then-order-placing c =
    let a = c.args in
    ap told (sym (opening_none a.order.now a.placing.now a.task c.if-order-placing.true))

pub returns : goal.returns
returns c =
    let a = c.args in
    ap Ok (c.put.ensures ∙ ap (λ (s : Placing). put s a.task a.placing.now.opened) c.open_next.ensures)
    ∙ ap told (sym (opening_new a.order.now a.placing.now a.task c.if-order-placing.false))
