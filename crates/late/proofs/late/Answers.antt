use Rattle.std.proofs.Common.{◌≡◌, Err, Some, None, sym, ◌∙◌, arith}
use Rattle.model.specs.declared.answer.Refusal.TheVariants.{OfLate}
use Rattle.model.specs.declared.answer.LateCause.TheVariants.{NotLate}
use Rattle.model.proofs.Rules.{handed_on}
use Rattle.late.proofs.Parts.{shows_order, shows_not_late, takes, names, shows_late}
use Rattle.late.proofs.late.Goals as goal

pub returns-in_err-read : goal.returns-in_err-read
returns-in_err-read c = rw (handed_on _ c.from_residual.ensures.1) (shows_order _ _ c.read.ensures _ c.in_err-read.was)

pub returns-in_err-task : goal.returns-in_err-task
returns-in_err-task c =
    let none : c.late_task.result ≡ None = grind arith in
    let is : c.from_residual-in_err-task.result ≡ Err (OfLate NotLate) = handed_on _ c.from_residual-in_err-task.ensures.1 ∙ sym c.in_err-task.was ∙ grind arith in
    rw is (shows_not_late _ _ c.read.ensures c.in_ok-read.was c.check-checked.ensures c.args.out.now (sym c.late_task.ensures ∙ none))

pub take_build-taken-requires : goal.take_build-taken-requires
take_build-taken-requires c =
    let some : c.late_task.result ≡ Some c.in_ok-task.task = grind arith in
    takes _ _ c.read.ensures c.in_ok-read.was c.check-checked.ensures (sym c.late_task.ensures ∙ some) c.read_build_header-header.ensures

pub show_script-requires : goal.show_script-requires
show_script-requires c =
    let some : c.late_task.result ≡ Some c.in_ok-task.task = grind arith in
    names _ _ c.read.ensures c.in_ok-read.was c.check-checked.ensures (sym c.late_task.ensures ∙ some) c.take_build-taken.ensures

pub returns : goal.returns
returns c =
    let some : c.late_task.result ≡ Some c.in_ok-task.task = grind arith in
    shows_late _ _ c.read.ensures c.in_ok-read.was c.check-checked.ensures (sym c.late_task.ensures ∙ some) c.take_build-taken.ensures _ c.show_script.ensures
