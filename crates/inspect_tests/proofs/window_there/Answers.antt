use Rattle.std.proofs.Common.{ℕ, ◌+◌, List, get_or, refl, sym, ap, ◌∙◌, subst, arith}
use Rattle.laws.proofs.Overlaid.{overlaid_in}
use Rattle.model.specs.declared.order.Order.{Order}
use Rattle.model.specs.declared.build.Build.{Build}
use Rattle.asked.specs.Rows.{asked_by, row_task}
use Rattle.asked.proofs.RowLaws.{fit_fewer}
use Rattle.asked.specs.Met.{UnmetBelow}
use Rattle.verdict.specs.Tested.{is_there, window_of}
use Rattle.roster.specs.Rows.{RowPlaces}
use Rattle.roster.proofs.Rowing.{zero_places}
use Rattle.trial.proofs.Heads.{blocking_in_most}
use Rattle.inspect_tests.specs.Results.{TaskThere}
use Rattle.inspect_tests.proofs.Steps.{Copied, part_few, sought_first, sought_needs, Needs}
use Rattle.inspect_tests.proofs.Parts.{few_tasks}
use Rattle.inspect_tests.proofs.window_there.Goals as goal
use Rattle.inspect_tests.proofs.window_there.Goals.{After-members_of-size, After-fill_rows}

copied : (m : After-members_of-size) → Copied m.args.keys.now m.first_of-first.result m.members_of-size.new.own m.members_of-size.result
copied m r l =
    ap (λ (xs : List ℕ). get_or xs r 0) m.members_of-size.ensures.copied ∙ overlaid_in (λ i. get_or m.args.keys.now (m.first_of-first.result + i) 0) _ m.members_of-size.result r 0 l

-- what the rows are to a task that was asked for
needs-of : (f : After-fill_rows) → let a = f.args in Copied a.keys.now f.first_of-first.result f.members_of-size.new.own f.members_of-size.result → (o : Order) (b : Build) (i : ℕ) (task : TaskThere a.table.now a.keys.now a.tasks a.member a.last o b i) →
    Needs a.table.now a.keys.now a.tasks a.member a.last o b i task f.first_of-first.result f.first_of-first.ensures f.members_of-size.new.own f.fill_rows.new.rows f.members_of-size.result
needs-of f copied' o b i task =
    let a = f.args in
    sought_needs a.table.now a.keys.now a.tasks a.member a.last o b i task f.first_of-first.result f.first_of-first.ensures _ _ f.members_of-size.result f.members_of-size.ensures.size copied' f.fill_rows.ensures

pub first_of-first-requires : goal.first_of-first-requires
first_of-first-requires c =
    let a = c.args in
    few_tasks a.table.now a.keys.now a.tasks c.requires.0 c.requires.1 c.requires.3.lineup

pub members_of-size-requires : goal.members_of-size-requires
members_of-size-requires c =
    let a = c.args in (
      sought_first a.table.now a.keys.now a.tasks a.member a.last c.requires.0 c.requires.1 c.requires.2 c.requires.3 c.first_of-first.result c.first_of-first.ensures,
      few_tasks a.table.now a.keys.now a.tasks c.requires.0 c.requires.1 c.requires.3.lineup,
      refl,
    )

pub fill_rows-requires : goal.fill_rows-requires
fill_rows-requires c =
    (part_few c.args.table.now c.args.keys.now c.args.tasks (c.requires.0, c.requires.1, c.requires.3.lineup) c.first_of-first.result c.members_of-size.result c.args.member.partition c.members_of-size.ensures.size, subst RowPlaces (sym c.zero-rows.ensures) zero_places)

pub blocking-blocked-requires : goal.blocking-blocked-requires
blocking-blocked-requires c =
    let at = goal.at.blocking-blocked-requires c in
    let n = needs-of at.After-fill_rows (copied at.After-members_of-size) c.requires.0 c.requires.1 c.requires.2 c.requires.3 in
    (n.inside, n.few)

pub has_window-requires : goal.has_window-requires
has_window-requires c =
    let a = c.args in
    let at = goal.at.has_window-requires c in
    let n = needs-of at.After-fill_rows (copied at.After-members_of-size) c.requires.0 c.requires.1 c.requires.2 c.requires.3 in
    let rank = a.member.rank in
    let most = blocking_in_most _ c.members_of-size.result n.rows_fit rank in (
      fit_fewer _ c.members_of-size.result (rank + 1) (omega (arith, n.inside)) n.rows_fit,
      omega (arith, most, c.blocking-blocked.ensures),
      c.requires.3.still.near,
      subst (λ (B : ℕ). UnmetBelow (asked_by c.fill_rows.new.rows (rank + 1)) B a.last) (sym c.blocking-blocked.ensures) n.unmet,
    )

pub returns : goal.returns
returns c =
    let rank = c.args.member.rank in
    let rows = c.fill_rows.new.rows in
    let at = goal.at.returns c in
    λ o b i task. c.has_window.ensures ∙ ap (λ (B : ℕ). is_there (window_of (asked_by rows rank) B (row_task rows rank))) c.blocking-blocked.ensures ∙ (needs-of at.After-fill_rows (copied at.After-members_of-size) o b i task).tells
