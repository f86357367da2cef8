use Rattle.std.proofs.Common.{◌≡◌, ℕ, ◌+◌, List, get_or, refl, sym, ap, ◌∙◌, subst, arith}
use Rattle.laws.proofs.Overlaid.{overlaid_in}
use Rattle.roster.specs.Keys.{home_in, key_at}
use Rattle.roster.specs.Lined.{part_size}
use Rattle.roster.specs.Rows.{RowPlaces}
use Rattle.roster.proofs.Rowing.{zero_places}
use Rattle.inspect_tests.proofs.Steps.{Copied, part_few, part_needs, part_gives}
use Rattle.inspect_tests.proofs.Parts.{few_tasks}
use Rattle.inspect_tests.proofs.test_part.Goals as goal
use Rattle.inspect_tests.proofs.test_part.Goals.{After-members_of-size}

-- how many there are, and their keys
size_is : (c : After-members_of-size) → c.members_of-size.result ≡ part_size c.args.keys.now c.args.tasks c.args.first (home_in (key_at c.args.keys.now c.args.first))
size_is c = c.members_of-size.ensures.size ∙ ap (part_size c.args.keys.now c.args.tasks c.args.first) c.home_in.ensures

copied : (c : After-members_of-size) → Copied c.args.keys.now c.args.first c.members_of-size.new.own c.members_of-size.result
copied c r l =
    ap (λ (xs : List ℕ). get_or xs r 0) c.members_of-size.ensures.copied ∙ overlaid_in (λ i. get_or c.args.keys.now (c.args.first + i) 0) _ c.members_of-size.result r 0 l

pub members_of-size-requires : goal.members_of-size-requires
members_of-size-requires c =
    let some = c.requires.1 in
    (omega (arith, c.requires.0), few_tasks c.args.table.now c.args.keys.now c.args.tasks some.0 some.1 some.2, refl)

pub fill_rows-requires : goal.fill_rows-requires
fill_rows-requires c =
    let m = (goal.at.fill_rows-requires c).After-members_of-size in
    (part_few c.args.table.now c.args.keys.now c.args.tasks c.requires.1 c.args.first c.members_of-size.result (home_in (key_at c.args.keys.now c.args.first)) (size_is m), subst RowPlaces (sym c.zero-rows.ensures) zero_places)

pub test_members-failing-requires : goal.test_members-failing-requires
test_members-failing-requires c =
    let a = c.args in
    let m = (goal.at.test_members-failing-requires c).After-members_of-size in
    part_needs a.table.now a.keys.now a.tasks a.first a.lowest a.results.now c.requires.1 c.requires.0 c.requires.2 _ _ c.members_of-size.result (size_is m) (copied m) c.fill_rows.ensures

pub returns : goal.returns
returns c =
    let a = c.args in
    let m = (goal.at.returns c).After-members_of-size in
    part_gives a.table.now a.keys.now a.tasks a.first a.lowest a.results.now c.requires.1 c.requires.0 c.requires.2 _ _ c.members_of-size.result (size_is m) _ _ (copied m) c.fill_rows.ensures c.test_members-failing.ensures
