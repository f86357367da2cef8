use Rattle.std.proofs.Common.{◌<◌, sym, ◌∙◌, arith}
use Rattle.model.specs.Limits.{most_tasks}
use Rattle.late_find.proofs.Higher.{higher_none, higher_next, higher_stays}
use Rattle.late_find.proofs.higher_of.Goals as goal
use Rattle.late_find.proofs.higher_of.Goals.{then-is_above, else-is_above}

pub loop-i-init : goal.loop-i-init
loop-i-init c = higher_none _ _ _ c.requires.places

pub loop-i-preserved : goal.loop-i-preserved
loop-i-preserved c =
    let l = c.loop-i in
    let keys = c.args.keys.now in
    let named = c.args.named in elim c.if-is_above.branch [
      | then-is_above w ↦ (let few : l.i < most_tasks = omega arith in
          rw (w.numbers-is, w.count-is) (higher_next keys named l.i l.numbers l.count l.invariant few (sym c.is_above.ensures ∙ w.if-is_above.true)))
      | else-is_above w ↦ rw (w.numbers-is, w.count-is) (higher_stays keys named l.i l.numbers l.count l.invariant (sym c.is_above.ensures ∙ w.if-is_above.false))
    ]
