use Rattle.std.proofs.Common.{sym, ◌∙◌}
use Rattle.late_find.proofs.Below.{longest_none, longest_next, longest_stays, longest_other}
use Rattle.late_find.proofs.longest_below.Goals as goal
use Rattle.late_find.proofs.longest_below.Goals.{then-is_above+then-is_longer, else-is_above, else-is_above-via-then-is_above+else-is_longer, else-is_above-via-else-is_above}

pub loop-i-init : goal.loop-i-init
loop-i-init c = longest_none _ _ _

pub loop-i-preserved : goal.loop-i-preserved
loop-i-preserved c =
    let l = c.loop-i in
    let table = c.args.table.now in
    let keys = c.args.keys.now in
    let named = c.args.named in elim c.if-is_above.branch [
      | then-is_above+then-is_longer w ↦ rw w.longest-is (longest_next table keys named l.i l.longest l.invariant (sym c.is_above.ensures ∙ w.if-is_above.true) (sym w.is_longer.ensures ∙ w.if-is_longer.true))
      | else-is_above w ↦ elim w.else-is_above.branch [
        | else-is_above-via-then-is_above+else-is_longer w' ↦ rw w.longest-is (longest_stays table keys named l.i l.longest l.invariant (sym c.is_above.ensures ∙ w'.if-is_above.true) (sym w'.is_longer.ensures ∙ w'.if-is_longer.false))
        | else-is_above-via-else-is_above w' ↦ rw w.longest-is (longest_other table keys named l.i l.longest l.invariant (sym c.is_above.ensures ∙ w'.if-is_above.false))
      ]
    ]
