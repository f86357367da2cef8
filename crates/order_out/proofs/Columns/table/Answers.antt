use mathlib.Core.Path.{ap, ◌∙◌}
use native.Mathlib.Nat.{le_antisymm}
use native.Mathlib.Omega.{arith}
use lib.ListN.{replicate}
use Rattle.laws.proofs.Joined.{filled_none, filled_more}
use Rattle.model.specs.Limits.{most_tasks, zero_task}
use Rattle.order_out.specs.Write.{columns_of, column_task}
use Rattle.order_out.proofs.Columns.table.Goals as goal

pub loop-row-init : goal.loop-row-init
loop-row-init c = ap (replicate most_tasks) c.zero-table.ensures ∙ filled_none (column_task (columns_of c.args.self.now)) zero_task most_tasks

pub loop-row-preserved : goal.loop-row-preserved
loop-row-preserved c = cc (filled_more (column_task (columns_of c.args.self.now)) zero_task most_tasks c.loop-row.row (omega arith))

pub returns : goal.returns
returns c = c.loop-row.invariant ∙ rw (le_antisymm c.loop-row.auto.row-end c.loop-row-test.false ∙ c.min-row-end.ensures)
