use Rattle.std.specs.Prelude.{Ok}
use lib.ListN.{replicate}
use mathlib.Core.Path.{◌≡◌, refl, sym, ap, ◌∙◌}
use native.Mathlib.Nat.{le_antisymm}
use native.Mathlib.Omega.{arith}
use Rattle.laws.proofs.Joined.{filled_none, filled_more}
use Rattle.model.specs.Limits.{most_tasks, zero_task}
use Rattle.model.proofs.Rules.{pass_done, given_done, done_given, handed_on}
use Rattle.order.specs.Order.{task_at, spare_rules}
use Rattle.order.proofs.Rules.{spare_none, spare_more, spare_stop}
use Rattle.order.proofs.read_table.Goals as goal

pub loop-i-init : goal.loop-i-init
loop-i-init c =
    (refl, refl, spare_none _, ap (replicate most_tasks) c.zero-table.ensures ∙ filled_none (task_at c.args.order.now) zero_task most_tasks)

pub returns-in_err-table : goal.returns-in_err-table
returns-in_err-table c =
    let a = c.args in
    let taken = rw c.loop-i.invariant.1 at c.read_task.ensures.task in
    handed_on c.from_residual.result c.from_residual.ensures.1 ∙ sym (spare_stop a.order.now a.tasks c.loop-i.i c.loop-i-test.true c.loop-i.invariant.2 (sym taken ∙ c.in_err-table.was))

pub loop-i-preserved : goal.loop-i-preserved
loop-i-preserved c =
    let s = c.args.order.now in
    let i = c.loop-i.i in
    let taken = sym (rw c.loop-i.invariant.1 at c.read_task.ensures.task) ∙ c.in_ok-table.was in
    (c.read_task.ensures.next, cc, spare_more s i c.loop-i.invariant.2 taken, cc (filled_more (task_at s) zero_task most_tasks i (omega arith), (done_given (task_at s i) _ taken).2))

pub returns : goal.returns
returns c =
    let a = c.args in
    let all : c.loop-i.i ≡ a.tasks = le_antisymm c.loop-i.auto.i-end c.loop-i-test.false in
    ap Ok (c.loop-i.invariant.3 ∙ rw all) ∙ sym (given_done _ _ (pass_done 0 (spare_rules a.order.now a.tasks) (rw all at c.loop-i.invariant.2)))
