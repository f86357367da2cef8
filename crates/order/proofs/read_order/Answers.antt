use mathlib.Core.Path.{sym, ◌∙◌}
use Rattle.order.proofs.Rules.{reading_done, reading_refused}
use Rattle.order.proofs.read_order.Goals as goal

pub returns-in-Ok : goal.returns-in-Ok
returns-in-Ok c = reading_done c.args.order.now (sym c.read.ensures ∙ c.in-Ok.is)

pub returns-in-Err : goal.returns-in-Err
returns-in-Err c = rw c.empty.ensures (reading_refused c.args.order.now (sym c.read.ensures ∙ c.in-Err.is))
