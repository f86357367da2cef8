use mathlib.Core.Path.{sym, ◌∙◌}
use borrow.Author.Tests.{eq-eqb}
use Rattle.list_out.proofs.Runs.{none_begins, first_begins, begins_above}
use Rattle.list_out.proofs.begins_run.Goals as goal

pub returns-then-processor-eq0 : goal.returns-then-processor-eq0
returns-then-processor-eq0 c = eq-eqb _ _ c.if-processor-eq0.true ∙ sym (first_begins _ _ c.if-processor-eq0.true (sym c.has.ensures ∙ c.if-has.true))

pub returns-else-processor-eq0 : goal.returns-else-processor-eq0
returns-else-processor-eq0 c =
    let below = c.has-else-processor-eq0 in
    sym (begins_above _ _ below.result c.if-processor-eq0.false (sym c.has.ensures ∙ c.if-has.true) (sym below.ensures))

pub returns-else-has : goal.returns-else-has
returns-else-has c = c.if-has.false ∙ sym (none_begins _ _ (sym c.has.ensures ∙ c.if-has.false))
