use mathlib.Core.Path.{refl}
use Rattle.order_out.specs.Write.{column_task}
use Rattle.order_out.proofs.Columns.task.Goals as goal

pub returns : goal.returns
unfolding column_task
returns c = refl
