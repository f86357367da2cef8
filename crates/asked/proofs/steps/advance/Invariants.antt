use Rattle.std.proofs.Common.{◌≡◌, ◌*◌, leb, get_or}
use Rattle.laws.specs.Joined.{overlaid}
use Rattle.laws.specs.Sums.{only, sum, least}
use Rattle.asked.specs.Rows.{cost_at}
use Rattle.asked.specs.Steps.{far, onward}
use Rattle.asked.proofs.steps.advance.Given as goal

abbrev pub invariant-loop-r : goal.invariant-loop-r
invariant-loop-r l = record {
  all : l.all ≡ sum (λ i. only (leb (get_or l.fn.due i 0) l.w) 1 * cost_at l.rows i) l.r;
  next : l.next ≡ least far (onward l.rows l.fn.due l.w) l.r;
  dues : l.due ≡ overlaid (onward l.rows l.fn.due l.w) l.r l.fn.due;
}
