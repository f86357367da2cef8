use mathlib.Core.Path.{sym, ◌∙◌}
use borrow.Author.Tests.{le-leb, lt-leb, eq-eqb, ne_eqb}
use Rattle.model.specs.Rules.{first_broken, given}
use Rattle.model.proofs.Contained.{contained}
use Rattle.order.specs.Order.{header_rules}
use Rattle.order.proofs.judge_header.Goals as goal

pub returns-then-size-lt-HEADER_BYTES : goal.returns-then-size-lt-HEADER_BYTES
unfolding given first_broken header_rules
returns-then-size-lt-HEADER_BYTES c = simp (lt-leb _ _ c.if-size-lt-HEADER_BYTES.true)

pub returns-then-header-ne1 : goal.returns-then-header-ne1
unfolding given first_broken header_rules
returns-then-header-ne1 c = simp (le-leb _ _ c.if-size-lt-HEADER_BYTES.false, ne_eqb _ _ c.if-header-ne1.true)

pub returns-then-not-contains : goal.returns-then-not-contains
unfolding given first_broken header_rules
returns-then-not-contains c =
    let processors = contained c.new.result c.args.header.processors c.new.ensures.start c.new.ensures.end c.new.ensures.exhausted c.if-not-contains.ensures.value in
    simp (le-leb _ _ c.if-size-lt-HEADER_BYTES.false, eq-eqb _ _ c.if-header-ne1.false, processors)

pub returns-then-not-contains-2 : goal.returns-then-not-contains-2
unfolding given first_broken header_rules
returns-then-not-contains-2 c =
    let processors = contained c.new.result c.args.header.processors c.new.ensures.start c.new.ensures.end c.new.ensures.exhausted c.if-not-contains.ensures.value in
    let tasks = contained c.new-2.result c.args.header.tasks c.new-2.ensures.start c.new-2.ensures.end c.new-2.ensures.exhausted c.if-not-contains-2.ensures.value in
    simp (le-leb _ _ c.if-size-lt-HEADER_BYTES.false, eq-eqb _ _ c.if-header-ne1.false, processors, tasks)

pub returns-then-size-bytes : goal.returns-then-size-bytes
unfolding given first_broken header_rules
returns-then-size-bytes c =
    let processors = contained c.new.result c.args.header.processors c.new.ensures.start c.new.ensures.end c.new.ensures.exhausted c.if-not-contains.ensures.value in
    let tasks = contained c.new-2.result c.args.header.tasks c.new-2.ensures.start c.new-2.ensures.end c.new-2.ensures.exhausted c.if-not-contains-2.ensures.value in
    simp (le-leb _ _ c.if-size-lt-HEADER_BYTES.false, eq-eqb _ _ c.if-header-ne1.false, processors, tasks, ne_eqb _ _ (λ e. c.if-size-bytes.true (e ∙ sym c.bytes.ensures)))

pub returns-then-header-ne0 : goal.returns-then-header-ne0
unfolding given first_broken header_rules
returns-then-header-ne0 c =
    let processors = contained c.new.result c.args.header.processors c.new.ensures.start c.new.ensures.end c.new.ensures.exhausted c.if-not-contains.ensures.value in
    let tasks = contained c.new-2.result c.args.header.tasks c.new-2.ensures.start c.new-2.ensures.end c.new-2.ensures.exhausted c.if-not-contains-2.ensures.value in
    simp (le-leb _ _ c.if-size-lt-HEADER_BYTES.false, eq-eqb _ _ c.if-header-ne1.false, processors, tasks, eq-eqb _ _ (c.if-size-bytes.false ∙ c.bytes.ensures), ne_eqb _ _ c.if-header-ne0.true)

pub returns : goal.returns
unfolding given first_broken header_rules
returns c =
    let processors = contained c.new.result c.args.header.processors c.new.ensures.start c.new.ensures.end c.new.ensures.exhausted c.if-not-contains.ensures.value in
    let tasks = contained c.new-2.result c.args.header.tasks c.new-2.ensures.start c.new-2.ensures.end c.new-2.ensures.exhausted c.if-not-contains-2.ensures.value in
    simp (le-leb _ _ c.if-size-lt-HEADER_BYTES.false, eq-eqb _ _ c.if-header-ne1.false, processors, tasks, eq-eqb _ _ (c.if-size-bytes.false ∙ c.bytes.ensures), eq-eqb _ _ c.if-header-ne0.false)
