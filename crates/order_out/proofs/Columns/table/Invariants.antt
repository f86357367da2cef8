use mathlib.Core.Path.{◌≡◌}
use Rattle.laws.specs.Joined.{filled}
use Rattle.model.specs.Limits.{most_tasks, zero_task}
use Rattle.order_out.specs.Write.{columns_of, column_task}
use Rattle.order_out.proofs.Columns.table.Given as goal

abbrev pub invariant-loop-row : goal.invariant-loop-row
invariant-loop-row l = l.table ≡ filled (column_task (columns_of l.self)) zero_task most_tasks l.row
