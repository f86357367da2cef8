use Rattle.std.proofs.Common.{sym, ◌∙◌, arith}
use borrow.Author.Tests.{ltb-true}
use Rattle.trial.proofs.Trying.{refused_as, overfull_fails}
use Rattle.trial.proofs.tries.Goals as goal

pub returns-else-not-overfull : goal.returns-else-not-overfull
returns-else-not-overfull c =
    let a = c.args in
    let more = ltb-true _ _ (sym c.overfull.ensures ∙ c.if-not-overfull.false) in
    rw c.if-not-overfull.false (refused_as a.rows.now a.keys.now a.count a.results.now (overfull_fails a.rows.now a.count c.requires.1 (omega (arith, c.requires.0)) more))
