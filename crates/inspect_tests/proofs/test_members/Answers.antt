use Rattle.std.proofs.Common.{◌≡◌, ℕ, ◌+◌, sym, ap, ◌∙◌, subst, arith}
use Rattle.roster.specs.Keys.{number_at}
use Rattle.trial.specs.Known.{with_result}
use Rattle.inspect_tests.specs.Results.{lowest_failing, TestedRanks}
use Rattle.inspect_tests.proofs.Tested.{ranks_none, ranks_more}
use Rattle.inspect_tests.proofs.test_members.Goals as goal

pub loop-rank-init : goal.loop-rank-init
loop-rank-init c =
    let a = c.args in
    ranks_none a.rows.now a.keys.now a.count c.requires.1 a.lowest a.results.now c.requires.2 c.requires.3 c.requires.4

pub test_below-tested-requires : goal.test_below-tested-requires
test_below-tested-requires c = (c.loop-rank-test.true, c.requires.0, c.loop-rank.invariant.bounds)

pub loop-rank-preserved : goal.loop-rank-preserved
loop-rank-preserved c =
    let tested = c.test_below-tested in
    let number = c.number_in-number in
    let a = c.args in
    let loop = c.loop-rank in
    let down : c.lowered-failing.result ≡ lowest_failing loop.failing (number_at a.keys.now loop.rank) tested.result.worst = c.lowered-failing.ensures ∙ ap (λ (n : ℕ). lowest_failing loop.failing n tested.result.worst) number.ensures in
    let now : c.note.new.self ≡ with_result loop.results (number_at a.keys.now loop.rank) tested.result.last tested.result.worst =
    c.note.ensures ∙ ap (λ (n : ℕ). with_result loop.results n tested.result.last tested.result.worst) number.ensures in
    subst (TestedRanks a.rows.now a.keys.now a.count (loop.rank + 1) a.lowest a.results.now c.lowered-failing.result) (sym now)
    (ranks_more a.rows.now a.keys.now a.count c.requires.1 a.lowest a.results.now loop.rank loop.failing loop.results c.loop-rank-test.true loop.invariant tested.result tested.ensures c.lowered-failing.result down)

pub returns : goal.returns
returns c =
    let a = c.args in
    subst (λ (n : ℕ). TestedRanks a.rows.now a.keys.now a.count n a.lowest a.results.now c.loop-rank.failing c.loop-rank.results) (omega arith) c.loop-rank.invariant
