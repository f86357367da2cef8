use Rattle.std.proofs.Common.{◌+◌, ◌-◌, ◌≤◌}
use Rattle.asked.proofs.Seeking.{Seeking}
use Rattle.asked.proofs.met.Given as goal

abbrev pub invariant-loop-w : goal.invariant-loop-w
invariant-loop-w l = record {
  seeking : Seeking l.rows l.count l.base l.due l.all l.next l.w;
  pace : l.pace.waited ≤ 15;
}

abbrev pub decreases-loop-w : goal.decreases-loop-w
decreases-loop-w l = l.limit + 1 - l.w
