use mathlib.Core.Path.{sym, ◌∙◌, subst}
use mathlib.Core.Bool.{true, false}
use Prim.Native.Nat.{ℕ, ◌+◌}
use native.Mathlib.Omega.{arith}
use native.Mathlib.Nat.{add-zero}
use Rattle.text.proofs.Feeds.{Counting, counting_first, counting_more, counting_last}
use Rattle.text.proofs.finished_lines.Goals as goal
use Rattle.text.proofs.finished_lines.Goals.{then-is_line_feed, else-is_line_feed}

pub loop-i-init : goal.loop-i-init
loop-i-init c = counting_first _

pub overflow_add-lines : goal.overflow_add-lines
overflow_add-lines c = let more = c.loop-i-test.true in omega (arith, c.loop-i.invariant.few)

pub loop-i-preserved : goal.loop-i-preserved
loop-i-preserved c =
    let text = c.args.text.now in
    let l = c.loop-i in
    let more = c.loop-i-test.true in
    elim c.if-is_line_feed.branch [
      | then-is_line_feed w ↦ subst (λ (n : ℕ). Counting text n (l.i + 1)) (sym w.lines-is) (counting_more text l.lines l.i true l.invariant more (sym c.is_line_feed.ensures ∙ w.if-is_line_feed.true))
      | else-is_line_feed w ↦ subst (λ (n : ℕ). Counting text n (l.i + 1)) (sym (w.lines-is ∙ sym (add-zero l.lines))) (counting_more text l.lines l.i false l.invariant more (sym c.is_line_feed.ensures ∙ w.if-is_line_feed.false))
    ]

pub returns-clause-counted : goal.returns-clause-counted
returns-clause-counted c = (counting_last _ _ _ c.loop-i.invariant c.loop-i-test.false).0
