use mathlib.Core.Path.{◌∙◌}
use borrow.Author.Tests.{le-leb, lt-leb}
use Rattle.model.specs.Rules.{given}
use Rattle.model.proofs.Contained.{contained}
use Rattle.script.proofs.Rules.{spare_set, no_such_task, out_of_order, wrong_duration, too_close, record_right}
use Rattle.script.proofs.judge_release.Goals as goal

pub returns-then-taken-ne0 : goal.returns-then-taken-ne0
unfolding given
returns-then-taken-ne0 c o s told = rw (spare_set o s _ _ _ _ _ _ told c.if-taken-ne0.true)

pub returns-then-tasks-taken : goal.returns-then-tasks-taken
unfolding given
returns-then-tasks-taken c o s told = rw (no_such_task o s _ _ _ _ _ _ told c.if-taken-ne0.false c.if-tasks-taken.true)

pub returns-then-taken-least : goal.returns-then-taken-least
unfolding given
returns-then-taken-least c o s told = rw (out_of_order o s _ _ _ _ _ _ told c.if-taken-ne0.false c.if-tasks-taken.false c.if-taken-least.true)

pub returns-then-not-lasts : goal.returns-then-not-lasts
unfolding given
returns-then-not-lasts c o s told =
    let lasts = contained c.new.result c.args.taken.duration c.new.ensures.start c.new.ensures.end c.new.ensures.exhausted c.contains-lasts.ensures.value in
    rw (wrong_duration o s _ _ _ _ _ _ told c.if-taken-ne0.false c.if-tasks-taken.false c.if-taken-least.false (lasts ∙ c.if-not-lasts.true))

pub returns-then-not-apart : goal.returns-then-not-apart
unfolding given
returns-then-not-apart c o s told =
    let lasts = contained c.new.result c.args.taken.duration c.new.ensures.start c.new.ensures.end c.new.ensures.exhausted c.contains-lasts.ensures.value in
    rw (too_close o s _ _ _ _ _ _ told c.if-taken-ne0.false c.if-tasks-taken.false c.if-taken-least.false (lasts ∙ c.if-not-lasts.false) (lt-leb _ _ c.if-not-apart.true))

pub returns : goal.returns
unfolding given
returns c o s told =
    let lasts = contained c.new.result c.args.taken.duration c.new.ensures.start c.new.ensures.end c.new.ensures.exhausted c.contains-lasts.ensures.value in
    rw (record_right o s _ _ _ _ _ _ told c.if-taken-ne0.false c.if-tasks-taken.false c.if-taken-least.false (lasts ∙ c.if-not-lasts.false) (le-leb _ _ c.if-not-apart.false))
