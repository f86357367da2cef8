use mathlib.Core.Path.{sym, ◌∙◌}
use Rattle.model.proofs.Rules.{handed_on}
use Rattle.inspect.proofs.Answers.{says_no, says_yes}
use Rattle.inspect.proofs.check.Goals as goal

pub returns-in_err-check_both : goal.returns-in_err-check_both
returns-in_err-check_both c = handed_on _ c.from_residual.ensures.1 ∙ sym (says_no c.args.order.now c.args.build.now c.check_both.ensures c.in_err-check_both.was)

pub returns : goal.returns
returns c = sym (says_yes c.args.order.now c.args.build.now c.check_both.ensures c.in_ok-check_both.was)
