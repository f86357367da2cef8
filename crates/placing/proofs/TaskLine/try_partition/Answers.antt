use Prim.Native.Nat.{ℕ, ◌-◌, ◌<◌}
use mathlib.Core.Path.{◌≡◌, refl, sym, ap, ◌∙◌, subst}
use mathlib.Core.List.{List}
use native.Mathlib.Omega.{arith}
use lib.ListN.{length}
use Rattle.model.specs.Limits.{most_tasks}
use Rattle.laws.proofs.Overlaid.{length-overlaid}
use Rattle.asked.specs.declared.rows.Rows.{Rows}
use Rattle.roster.specs.Keys.{home_in, lives_in, run_from}
use Rattle.roster.specs.Rows.{RowPlaces}
use Rattle.placing.specs.declared.TaskLine.{TaskLine}
use Rattle.placing.specs.Known.{TryingIn}
use Rattle.placing.proofs.Stage.{size_is, size_small, ready, told_takes, told_refuses}
use Rattle.placing.proofs.TaskLine.try_partition.Goals as goal

-- how many members the partition has
small : (table : Rows) (line : TaskLine) (first key : ℕ) → TryingIn table line first key → (home size : ℕ)
    → home ≡ home_in key → size ≡ run_from (lives_in home line.keys) first (line.placed - first) → size < most_tasks
small table line first key so home size e f = omega (arith, size_is table line first key so home size e f, size_small table line first key so)

pub put_in-newcomer-requires : goal.put_in-newcomer-requires
put_in-newcomer-requires c =
    let a = c.args in
    let m = c.members_of-size in
    let few = small a.table.now a.self.now a.first a.key c.requires c.home_in.result m.result c.home_in.ensures m.ensures.size in
    (few, ap (λ (xs : List ℕ). length xs) m.ensures.copied ∙ length-overlaid _ _ m.result (omega (arith, few)))

pub overflow_add-size : goal.overflow_add-size
overflow_add-size c =
    let a = c.args in
    let m = c.members_of-size in
    omega (arith, small a.table.now a.self.now a.first a.key c.requires c.home_in.result m.result c.home_in.ensures m.ensures.size)

pub fill_rows-requires : goal.fill_rows-requires
fill_rows-requires c =
    let a = c.args in
    let m = c.members_of-size in
    (omega (arith, small a.table.now a.self.now a.first a.key c.requires c.home_in.result m.result c.home_in.ensures m.ensures.size), subst RowPlaces (sym c.zero-rows.ensures) (record { periods = refl; costs = refl; shares = refl; deadlines = refl }))

pub overflow_add-size-2 : goal.overflow_add-size-2
overflow_add-size-2 c =
    let a = c.args in
    let m = c.members_of-size in
    omega (arith, small a.table.now a.self.now a.first a.key c.requires c.home_in.result m.result c.home_in.ensures m.ensures.size)

pub tries-requires : goal.tries-requires
tries-requires c =
    let a = c.args in
    let m = c.members_of-size in
    let counted = size_is a.table.now a.self.now a.first a.key c.requires c.home_in.result m.result c.home_in.ensures m.ensures.size in
    ready a.table.now a.self.now a.first a.key c.requires m.result c.put_in-newcomer.result _ m.new.own c.put_in-newcomer.new.keys c.fill_rows.new.rows
    counted m.ensures.copied c.put_in-newcomer.ensures.spot c.put_in-newcomer.ensures.line c.fill_rows.ensures

pub returns-then-tries : goal.returns-then-tries
returns-then-tries c = λ so.
    let a = c.args in
    let m = c.members_of-size in
    let counted = size_is a.table.now a.self.now a.first a.key so c.home_in.result m.result c.home_in.ensures m.ensures.size in
    told_takes a.table.now a.self.now a.first a.key so m.result c.put_in-newcomer.result _ m.new.own c.put_in-newcomer.new.keys c.fill_rows.new.rows
    counted m.ensures.copied c.put_in-newcomer.ensures.spot c.put_in-newcomer.ensures.line c.fill_rows.ensures c.tries.result _ c.tries.ensures c.if-tries.true

pub returns-else-tries : goal.returns-else-tries
returns-else-tries c = λ so.
    let a = c.args in
    let m = c.members_of-size in
    let counted = size_is a.table.now a.self.now a.first a.key so c.home_in.result m.result c.home_in.ensures m.ensures.size in
    told_refuses a.table.now a.self.now a.first a.key so m.result c.put_in-newcomer.result _ m.new.own c.put_in-newcomer.new.keys c.fill_rows.new.rows
    counted m.ensures.copied c.put_in-newcomer.ensures.spot c.put_in-newcomer.ensures.line c.fill_rows.ensures c.tries.result _ c.tries.ensures c.if-tries.false
