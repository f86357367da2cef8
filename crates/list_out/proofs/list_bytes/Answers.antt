use borrow.Author.Rules.{rules}
use mathlib.Core.Path.{sym, ap, ◌∙◌}
use native.Mathlib.Nat.{lt_of_lt_of_le}
use native.Mathlib.Omega.{arith}
use lib.ListN.{length}
use Rattle.list_out.proofs.Parts.{rest_all, rest_none, rest_longer}
use Rattle.list_out.proofs.list_bytes.Goals as goal

pub loop-processor-init : goal.loop-processor-init
loop-processor-init c = (search rules, omega (arith, ap length (rest_all c.args.set)))

pub loop-processor-preserved : goal.loop-processor-preserved
loop-processor-preserved c =
    (omega (arith, c.loop-processor.invariant.0, c.run_bytes-bytes.ensures.few), sym (rest_longer _ _ _ _ (lt_of_lt_of_le c.loop-processor-test.true c.above_all-processor-end.ensures.few) c.run_bytes-bytes.ensures.counted) ∙ c.loop-processor.invariant.1)

pub returns-clause-counted : goal.returns-clause-counted
returns-clause-counted c =
    let none = ap length (rest_none c.loop-processor.bytes c.args.set c.loop-processor.processor _ c.above_all-processor-end.ensures.above c.loop-processor-test.false) in
    omega (arith, c.loop-processor.invariant.1, none)
