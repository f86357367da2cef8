use borrow.Author.Rules.{rules}
use native.Mathlib.Omega.{arith}
use mathlib.Core.Path.{sym, subst}
use Rattle.model.specs.Limits.{most_tasks}
use Rattle.inspect_tests.specs.Results.{TestedBefore}
use Rattle.inspect_tests.proofs.Steps.{before_all, after_all}
use Rattle.inspect_tests.proofs.Parts.{few_tasks}
use Rattle.inspect_tests.proofs.test_all.Goals as goal

pub loop-first-init : goal.loop-first-init
loop-first-init c =
    let a = c.args in
    subst (TestedBefore a.table.now a.keys.now a.tasks 0 most_tasks) (sym c.none-results.ensures) (before_all a.table.now a.keys.now a.tasks)

pub test_part-part-requires : goal.test_part-part-requires
test_part-part-requires c =
    (c.loop-first-test.true, c.requires, c.loop-first.invariant)

pub overflow_add-first : goal.overflow_add-first
overflow_add-first c =
    let few = few_tasks c.args.table.now c.args.keys.now c.args.tasks c.requires.0 c.requires.1 c.requires.2 in
    let upto = c.test_part-part.ensures.1.upto in
    search rules

pub loop-first-smaller : goal.loop-first-smaller
loop-first-smaller c =
    let upto = c.test_part-part.ensures.1.upto in
    omega (arith, c.test_part-part.ensures.0, upto, c.loop-first-test.true)

pub loop-first-preserved : goal.loop-first-preserved
loop-first-preserved c = c.test_part-part.ensures.1

pub returns : goal.returns
returns c =
    let a = c.args in
    after_all a.table.now a.keys.now a.tasks c.loop-first.first c.loop-first.lowest c.loop-first.results c.loop-first-test.false c.loop-first.invariant
