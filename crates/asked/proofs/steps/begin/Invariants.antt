use Rattle.std.proofs.Common.{◌≡◌}
use Rattle.laws.specs.Joined.{overlaid}
use Rattle.laws.specs.Sums.{least}
use Rattle.asked.specs.Rows.{asked_by}
use Rattle.asked.specs.Steps.{far, due_after}
use Rattle.asked.proofs.steps.begin.Given as goal

abbrev pub invariant-loop-r : goal.invariant-loop-r
invariant-loop-r l = record {
  all : l.all ≡ asked_by l.rows l.r l.w;
  next : l.next ≡ least far (due_after l.rows l.w) l.r;
  dues : l.due ≡ overlaid (due_after l.rows l.w) l.r l.fn.due;
}
