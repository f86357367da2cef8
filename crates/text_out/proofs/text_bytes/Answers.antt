use borrow.Author.Rules.{rules}
use Prim.Native.Nat.{ℕ}
use mathlib.Core.Path.{ap, ◌∙◌}
use native.Mathlib.Nat.{le_antisymm}
use native.Mathlib.Omega.{arith}
use lib.ListN.{length, length-append}
use Rattle.laws.proofs.Joined.{joined_none, joined_more}
use Rattle.form.specs.Written.{order_text}
use Rattle.text_out.proofs.Lines.{line_of, lines_of}
use Rattle.text_out.proofs.text_bytes.Goals as goal

pub loop-i-init : goal.loop-i-init
loop-i-init c = (search rules, rw joined_none, search rules)

pub overflow_add-bytes : goal.overflow_add-bytes
overflow_add-bytes c = record { fits = omega (arith, c.loop-i-test.true, c.requires, c.loop-i.invariant.2, c.line_bytes-bytes.ensures.few) }

pub loop-i-preserved : goal.loop-i-preserved
loop-i-preserved c =
    let table = c.args.order.now.table in
    let more = ap length (joined_more (line_of table) c.loop-i.i) ∙ length-append (lines_of table c.loop-i.i) (line_of table c.loop-i.i) in
    (search rules, omega (arith, more, c.line_bytes-bytes.ensures.counted, c.loop-i.invariant.1), omega (arith, c.loop-i.invariant.2, c.line_bytes-bytes.ensures.few))

pub returns-clause-counted : goal.returns-clause-counted
unfolding order_text
returns-clause-counted c =
    c.loop-i.invariant.1 ∙ ap (λ (n : ℕ). length (lines_of c.args.order.now.table n)) (le_antisymm c.loop-i.invariant.0 c.loop-i-test.false)

pub returns-clause-few : goal.returns-clause-few
returns-clause-few c = omega (arith, c.loop-i.invariant.0, c.loop-i.invariant.2, c.requires)
