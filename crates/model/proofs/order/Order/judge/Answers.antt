use mathlib.Core.Path.{◌≡◌, sym, ◌∙◌}
use native.Mathlib.Nat.{le_antisymm}
use Rattle.model.specs.Rules.{range_rules}
use Rattle.model.proofs.Rules.{pass_done, given_done, given_refused, refused_given, done_given, handed_on}
use Rattle.model.proofs.Ranges.{range_none, range_more, range_stop}
use Rattle.model.proofs.order.Order.judge.Goals as goal

pub loop-i-init : goal.loop-i-init
loop-i-init c = range_none c.args.self.now

pub returns-in_err-judge : goal.returns-in_err-judge
returns-in_err-judge c =
    let o = c.args.self.now in
    let refused = refused_given tt _ (sym c.judge.ensures ∙ c.in_err-judge.was) in
    handed_on c.from_residual.result c.from_residual.ensures.1 ∙ sym (given_refused tt _ (range_stop o c.loop-i.i c.loop-i-test.true c.loop-i.invariant refused))

pub loop-i-preserved : goal.loop-i-preserved
loop-i-preserved c =
    let done = done_given tt _ (sym c.judge.ensures ∙ c.in_ok-judge.was) in
    range_more c.args.self.now c.loop-i.i c.loop-i.invariant done.1

pub returns : goal.returns
unfolding range_rules
returns c =
    let o = c.args.self.now in
    let all : c.loop-i.i ≡ o.tasks = le_antisymm c.loop-i.auto.i-end c.loop-i-test.false in
    sym (given_done tt _ (pass_done 0 (range_rules o) (rw all at c.loop-i.invariant)))
