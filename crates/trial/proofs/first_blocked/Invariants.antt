use Rattle.std.proofs.Common.{◌≢◌, ℕ, ◌≤◌, ◌<◌}
use Rattle.asked.specs.Rows.{cost_at}
use Rattle.trial.proofs.first_blocked.Given as goal

abbrev pub invariant-loop-higher : goal.invariant-loop-higher
invariant-loop-higher l =
    cost_at l.rows l.newcomer ≤ l.other → (by : ℕ) × (l.higher ≤ by) × (by < l.count) × (by ≢ l.newcomer) × (cost_at l.rows l.newcomer ≤ cost_at l.rows by)
