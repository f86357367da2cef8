use mathlib.Core.Path.{◌≡◌}
use Rattle.laws.specs.Joined.{filled}
use Rattle.model.specs.Limits.{most_tasks, zero_task}
use Rattle.model.proofs.Rules.{AllPass}
use Rattle.order.specs.Order.{task_start, task_at, spare_rules}
use Rattle.order.proofs.read_table.Given as goal

abbrev pub invariant-loop-i : goal.invariant-loop-i
invariant-loop-i l = (l.reader.at ≡ task_start l.i) × (l.reader.order.now ≡ l.order) × AllPass (spare_rules l.order l.i) × (l.table ≡ filled (task_at l.order) zero_task most_tasks l.i)
