use Rattle.order_out.specs.Write.{column_order}
use Rattle.order_out.proofs.Columns.order.Goals as goal

pub returns : goal.returns
unfolding column_order
returns c = rw (c.min-tasks.ensures, c.table.ensures)
