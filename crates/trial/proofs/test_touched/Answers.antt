use Rattle.std.proofs.Common.{◌≡◌, ℕ, length, sym, ap, ◌∙◌, subst}
use Rattle.model.specs.Limits.{most_tasks}
use Rattle.roster.specs.Keys.{number_at}
use Rattle.trial.specs.declared.Results.{Results}
use Rattle.trial.specs.Known.{Bounds, with_result, OthersTested}
use Rattle.trial.proofs.Trying.{newcomer_fails, bounds_first, places_first, others_fail, all_stand}
use Rattle.trial.proofs.test_touched.Goals as goal
use Rattle.trial.proofs.test_touched.Goals.{After-note}

pub returns-in_default : goal.returns-in_default
returns-in_default c =
    let a = c.args in
    let tested = c.test_rank-tested in
    newcomer_fails a.rows.now a.keys.now a.count a.newcomer a.results.now c.requires.0 c.requires.2 tested.result tested.ensures c.in_default.is

-- what is known once the newcomer's own test is noted
first : (c : After-note) → c.note.new.self ≡ with_result c.args.results.now (number_at c.args.keys.now c.args.newcomer) c.test_rank-tested.result.last c.in-Some.worst
first c = c.note.ensures ∙ ap (λ (n : ℕ). with_result c.args.results.now n c.test_rank-tested.result.last c.in-Some.worst) c.number_in-number.ensures

pub test_others-requires : goal.test_others-requires
test_others-requires c =
    let a = c.args in
    let tested = c.test_rank-tested in
    let worst = c.in-Some.worst in
    let told = c.in-Some.is in
    let now = sym (first (goal.at.test_others-requires c).After-note) in (
      c.requires.0,
      c.requires.1,
      c.requires.2.apart,
      subst (λ (x : Results ℕ). Bounds a.rows.now a.keys.now a.count x.lasts) now (bounds_first a.rows.now a.keys.now a.count a.newcomer a.results.now c.requires.0 c.requires.2 tested.result tested.ensures worst told),
      subst (λ (x : Results ℕ). length x.worsts ≡ most_tasks) now (places_first a.rows.now a.keys.now a.count a.newcomer a.results.now c.requires.0 c.requires.2 tested.result tested.ensures worst told),
    )

pub returns-then-not-test_others : goal.returns-then-not-test_others
returns-then-not-test_others c =
    let a = c.args in
    let tested = c.test_rank-tested in
    let others = c.test_others in
    let after = others.new.results in
    let as_tested = subst (λ (x : Results ℕ). OthersTested a.rows.now a.keys.now a.count a.newcomer x others.result after) (first (goal.at.returns-then-not-test_others c).After-note) others.ensures in
    others_fail a.rows.now a.keys.now a.count a.newcomer a.results.now c.requires.0 c.requires.2 tested.result tested.ensures c.in-Some.worst c.in-Some.is after others.result as_tested c.if-not-test_others.true

pub returns : goal.returns
returns c =
    let a = c.args in
    let tested = c.test_rank-tested in
    let others = c.test_others in
    let after = others.new.results in
    let as_tested = subst (λ (x : Results ℕ). OthersTested a.rows.now a.keys.now a.count a.newcomer x others.result after) (first (goal.at.returns c).After-note) others.ensures in
    all_stand a.rows.now a.keys.now a.count a.newcomer a.results.now c.requires.0 c.requires.2 tested.result tested.ensures c.in-Some.worst c.in-Some.is after others.result as_tested c.if-not-test_others.false
