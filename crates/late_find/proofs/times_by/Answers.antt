use Rattle.std.proofs.Common.{◌≢◌, ◌<◌, length, arith, rules, get_or-set_other, get_or-set_same, below_more}
use Rattle.late_find.proofs.times_by.Goals as goal

pub loop-i-preserved : goal.loop-i-preserved
loop-i-preserved c =
    let l = c.loop-i in
    record {
      places = search rules;
      each = below_more _ _
          (λ k h. let ne : k ≢ l.i = omega arith in rw get_or-set_other (l.invariant.each k h))
          (let lt : l.i < length l.times = omega arith in rw get_or-set_same c.comes.ensures);
    }
