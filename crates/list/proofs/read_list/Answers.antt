use mathlib.Core.Path.{sym, ◌∙◌}
use Rattle.list.proofs.Items.{read_refused, read_done}
use Rattle.list.proofs.read_list.Goals as goal

pub returns-in-Ok : goal.returns-in-Ok
returns-in-Ok c = read_done c.args.text.now _ (sym c.take_list.ensures ∙ c.in-Ok.is)

pub returns-in-Err : goal.returns-in-Err
returns-in-Err c = read_refused c.args.text.now _ (sym c.take_list.ensures ∙ c.in-Err.is)
