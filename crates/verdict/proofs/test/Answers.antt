use borrow.Author.Tests.{ltb-true}
use native.Mathlib.Omega.{arith}
use mathlib.Core.Path.{sym, ◌∙◌}
use Rattle.model.specs.Limits.{horizon}
use Rattle.verdict.proofs.Full.{overfull_open, unmet_fails, failed_as}
use Rattle.verdict.proofs.test.Goals as goal

pub returns-then-overfull : goal.returns-then-overfull
returns-then-overfull c =
    let a = c.args in
    let unmet = overfull_open a.rows.now a.rank c.requires.0 a.blocking (ltb-true _ _ (sym c.overfull.ensures ∙ c.if-overfull.true)) in
    failed_as a.rows.now a.rank c.requires.0 a.blocking horizon (unmet_fails a.rows.now a.rank c.requires.0 a.blocking unmet) (omega arith) unmet c.failed.result c.failed.ensures
