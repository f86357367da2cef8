use Rattle.std.specs.Prelude.{Some, None, Option, true, false}
use Rattle.std.specs.Option.{is_some}
use Rattle.std.proofs.Common.{◌≡◌, ℕ, get_or, refl, sym, ◌∙◌, subst}
use Rattle.laws.proofs.Every.{clash}
use Rattle.model.specs.Limits.{member_of}
use Rattle.model.proofs.Rules.{given_done, given_refused}
use Rattle.inspect_tests.specs.Results.{Lineup, FirstWrong, TaskThere, worst_at}
use Rattle.inspect_tests.proofs.Judged.{all_right, refused_response, refused_late, refused_window}
use Rattle.inspect_tests.proofs.judge_tests.Goals as goal
use Rattle.inspect_tests.proofs.judge_tests.Goals.{After-row_table-table, After-test_all-results, In-Some}

some_there : (found : Option ℕ) → is_some found ≡ true → (worst : ℕ) × (found ≡ Some worst)
some_there (Some worst) e = (worst, refl)
some_there None e = clash e

none_there : (found : Option ℕ) → is_some found ≡ false → found ≡ None
none_there (Some worst) e = clash (sym e)
none_there None e = refl

-- the order and the build that the rows and the line are of
lineup : (c : After-row_table-table) → Lineup c.row_table-table.result c.args.keys.now c.args.order.now.tasks c.args.order.now c.args.build.now
lineup c = record { in_line = record { limits = c.requires.0; count = refl; line = c.requires.1 }; rows = c.row_table-table.ensures }

-- the first that is not right
first : (c : In-Some) → FirstWrong c.args.build.now.members c.test_all-results.result.worsts c.args.order.now.tasks (Some c.in-Some.i)
first c = subst (FirstWrong c.args.build.now.members c.test_all-results.result.worsts c.args.order.now.tasks) c.in-Some.is c.first_wrong.ensures

pub test_all-results-requires : goal.test_all-results-requires
test_all-results-requires c = (c.args.order.now, c.args.build.now, lineup (goal.at.test_all-results-requires c).After-row_table-table)

pub first_wrong-requires : goal.first_wrong-requires
first_wrong-requires c = c.requires.0.tasks.1

pub returns-in_default : goal.returns-in_default
returns-in_default c =
    let a = c.args in
    let are = c.test_all-results.ensures a.order.now a.build.now (lineup (goal.at.returns-in_default c).After-row_table-table) in
    let all = subst (FirstWrong a.build.now.members c.test_all-results.result.worsts a.order.now.tasks) c.in_default.is c.first_wrong.ensures in
    sym (given_done tt _ (all_right a.order.now a.build.now c.requires.0 c.test_all-results.result are all))

pub returns-then-is_some : goal.returns-then-is_some
returns-then-is_some c =
    let a = c.args in
    let at = goal.at.returns-then-is_some c in
    let are = c.test_all-results.ensures a.order.now a.build.now (lineup at.After-row_table-table) in
    let wrong = first at.In-Some in
    let there = some_there (worst_at c.test_all-results.result.worsts c.in-Some.i) (sym c.is_some.ensures ∙ c.if-is_some.true) in
    sym (given_refused tt _ (refused_response a.order.now a.build.now c.requires.0 c.test_all-results.result are c.in-Some.i wrong.0 wrong.1 wrong.2 there.0 there.1))

-- the task that is not right, among its partition's members
task : (c : In-Some) → Lineup c.row_table-table.result c.args.keys.now c.args.order.now.tasks c.args.order.now c.args.build.now →
    TaskThere c.row_table-table.result c.args.keys.now c.args.order.now.tasks (member_of c.args.build.now c.in-Some.i) (get_or c.test_all-results.result.lasts c.in-Some.i 0) c.args.order.now c.args.build.now c.in-Some.i
task c up =
    let wrong = first c in
    record { lineup = up; known = wrong.0; home = refl; ranks = sym (c.requires.2 _ wrong.0); still = (c.test_all-results.ensures c.args.order.now c.args.build.now up).still _ wrong.0 }

pub window_there-requires : goal.window_there-requires
window_there-requires c =
    let at = goal.at.window_there-requires c in
    (c.args.order.now, c.args.build.now, c.in-Some.i, task at.In-Some (lineup at.After-row_table-table))

pub returns-then-window_there : goal.returns-then-window_there
returns-then-window_there c =
    let a = c.args in
    let at = goal.at.returns-then-window_there c in
    let up = lineup at.After-row_table-table in
    let wrong = first at.In-Some in
    let none = none_there (worst_at c.test_all-results.result.worsts c.in-Some.i) (sym c.is_some.ensures ∙ c.if-is_some.false) in
    sym (given_refused tt _ (refused_late a.order.now a.build.now c.requires.0 c.test_all-results.result (c.test_all-results.ensures a.order.now a.build.now up) c.in-Some.i wrong.0 wrong.1 wrong.2 none (sym c.if-window_there.true ∙ c.window_there.ensures _ _ _ (task at.In-Some up))))

pub returns : goal.returns
returns c =
    let a = c.args in
    let at = goal.at.returns c in
    let up = lineup at.After-row_table-table in
    let wrong = first at.In-Some in
    let none = none_there (worst_at c.test_all-results.result.worsts c.in-Some.i) (sym c.is_some.ensures ∙ c.if-is_some.false) in
    sym (given_refused tt _ (refused_window a.order.now a.build.now c.requires.0 c.test_all-results.result (c.test_all-results.ensures a.order.now a.build.now up) c.in-Some.i wrong.0 wrong.1 wrong.2 none (sym c.if-window_there.false ∙ c.window_there.ensures _ _ _ (task at.In-Some up))))
