use Rattle.std.proofs.Common.{◌≡◌, ◌+◌, ◌-◌}
use Rattle.laws.specs.Sums.{largest}
use Rattle.asked.specs.Rows.{cost_at}
use Rattle.trial.proofs.longest.Given as goal

abbrev pub invariant-loop-r : goal.invariant-loop-r
invariant-loop-r l = l.most ≡ largest (λ s. cost_at l.rows (l.from + s)) (l.r - l.from)
