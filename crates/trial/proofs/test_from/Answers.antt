use Rattle.std.proofs.Common.{◌≡◌, ℕ, ◌+◌, true, sym, ap, ◌∙◌, subst, arith}
use Rattle.roster.specs.Keys.{number_at}
use Rattle.trial.specs.Known.{with_result, TestedFrom}
use Rattle.trial.proofs.Testing.{tested_none, tested_more, tested_stops}
use Rattle.trial.proofs.test_from.Goals as goal

pub loop-rank-init : goal.loop-rank-init
loop-rank-init c =
    let a = c.args in
    tested_none a.rows.now a.keys.now a.count a.from c.requires.3 a.results.now c.requires.4 c.requires.5

pub test_rank-tested-requires : goal.test_rank-tested-requires
test_rank-tested-requires c = (omega (arith, c.requires.1), c.requires.2, c.loop-rank.invariant.bounds)

pub returns-in_default : goal.returns-in_default
returns-in_default c =
    let a = c.args in
    let loop = c.loop-rank in
    tested_stops a.rows.now a.keys.now a.count a.from c.requires.3 a.results.now loop.rank loop.results (omega arith) (omega (arith, c.requires.1)) loop.invariant
    c.test_rank-tested.result c.test_rank-tested.ensures a.to c.loop-rank-test.true c.in_default.is

pub loop-rank-preserved : goal.loop-rank-preserved
loop-rank-preserved c =
    let a = c.args in
    let loop = c.loop-rank in
    let tested = c.test_rank-tested in
    let worst = c.in-Some.worst in
    let now : c.note.new.self ≡ with_result loop.results (number_at a.keys.now loop.rank) tested.result.last worst =
    c.note.ensures ∙ ap (λ (n : ℕ). with_result loop.results n tested.result.last worst) c.number_in-number.ensures in
    subst (TestedFrom a.rows.now a.keys.now a.count a.from (loop.rank + 1) a.results.now true) (sym now)
    (tested_more a.rows.now a.keys.now a.count a.from c.requires.3 a.results.now loop.rank loop.results (omega arith) (omega (arith, c.requires.1)) loop.invariant
    tested.result tested.ensures worst c.in-Some.is)

pub returns : goal.returns
returns c =
    let a = c.args in
    let loop = c.loop-rank in
    subst (λ (n : ℕ). TestedFrom a.rows.now a.keys.now a.count a.from n a.results.now true loop.results) (omega arith) loop.invariant
