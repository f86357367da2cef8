use mathlib.Core.Path.{◌∙◌}
use Rattle.model.proofs.Rules.{handed_on}
use Rattle.inspect.proofs.Answers.{order_refused, order_within, build_refused, both_done}
use Rattle.inspect.proofs.check_both.Goals as goal

pub returns-in_err-order : goal.returns-in_err-order
returns-in_err-order c = handed_on _ c.from_residual.ensures.1 ∙ order_refused c.args.order.now c.args.build.now c.read.ensures c.in_err-order.was

pub check_build-requires : goal.check_build-requires
check_build-requires c = order_within c.args.order.now c.args.build.now c.read.ensures c.in_ok-order.was

pub returns-in_err-build : goal.returns-in_err-build
returns-in_err-build c =
    handed_on _ c.from_residual-in_err-build.ensures.1 ∙ build_refused c.args.order.now c.args.build.now c.read.ensures c.in_ok-order.was c.check_build.ensures c.in_err-build.was

pub returns : goal.returns
returns c = both_done c.args.order.now c.args.build.now c.read.ensures c.in_ok-order.was c.check_build.ensures c.in_ok-build.was
