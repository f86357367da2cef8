use Rattle.std.specs.Prelude.{Some, None}
use Rattle.std.proofs.Common.{◌≡◌, ◌+◌, ◌-◌, ℕ, sym, ap, ◌∙◌, arith}
use Rattle.asked.specs.Rows.{asked_by}
use Rattle.asked.specs.Met.{met_by}
use Rattle.asked.proofs.RowLaws.{asked_grows}
use Rattle.late_find.proofs.Jobs.{none_yet, small, starts_past, first_late, start_small, one_more}
use Rattle.late_find.proofs.late_job.Goals as goal

pub jobs-init : goal.jobs-init
jobs-init c = none_yet (asked_by c.args.rows.now c.args.count) c.args.blocking c.args.task

pub overflow_add-due : goal.overflow_add-due
overflow_add-due c = record { fits = omega (arith, small c.jobs.invariant c.requires.sized c.requires.late c.requires.small) }

pub met-search-requires : goal.met-search-requires
met-search-requires c =
    let s = small c.jobs.invariant c.requires.sized c.requires.late c.requires.small in
    (c.requires.rows_fit, omega (arith, s), c.jobs.invariant.near, omega (arith, s), λ t l. omega (arith, c.jobs.invariant.unmet t l))

pub overflow_add-due-in_default : goal.overflow_add-due-in_default
overflow_add-due-in_default c = record { fits = omega (arith, small c.jobs.invariant c.requires.sized c.requires.late c.requires.small) }

pub start_from-requires-clause-small : goal.start_from-requires-clause-small
start_from-requires-clause-small c = omega (arith, small c.jobs.invariant c.requires.sized c.requires.late c.requires.small)

pub start_from-requires-clause-near : goal.start_from-requires-clause-near
start_from-requires-clause-near c = omega (arith, small c.jobs.invariant c.requires.sized c.requires.late c.requires.small)

pub start_from-requires-clause-starts : goal.start_from-requires-clause-starts
start_from-requires-clause-starts c =
    let j = c.jobs in
    let work = asked_by c.args.rows.now c.args.count in
    let none : met_by work (j.base + 1) (j.release + c.args.task.deadline - c.cost-cost.result) ≡ None =
    sym (c.met-search.ensures.found ∙ ap (λ (x : ℕ). met_by work (x + 1) (j.release + c.args.task.deadline - c.cost-cost.result)) c.from.ensures) ∙ c.in_default.is in
    rw c.cost-cost.ensures (starts_past work c.args.blocking c.args.task j.number j.base j.release j.from j.invariant c.requires.sized c.requires.late (rw c.cost-cost.ensures at none))

pub returns-in_default : goal.returns-in_default
returns-in_default c =
    let j = c.jobs in
    let work = asked_by c.args.rows.now c.args.count in
    let none : met_by work (j.base + 1) (j.release + c.args.task.deadline - c.cost-cost.result) ≡ None =
    sym (c.met-search.ensures.found ∙ ap (λ (x : ℕ). met_by work (x + 1) (j.release + c.args.task.deadline - c.cost-cost.result)) c.from.ensures) ∙ c.in_default.is in
    first_late work c.args.blocking c.args.task j.number j.base j.release j.from j.invariant c.requires.sized c.requires.late (rw c.cost-cost.ensures at none) c.start_from.result c.start_from.ensures

pub overflow_add-from-in-jobs : goal.overflow_add-from-in-jobs
overflow_add-from-in-jobs c =
    let j = c.jobs in
    let work = asked_by c.args.rows.now c.args.count in
    let found : met_by work (j.base + 1) (j.release + c.args.task.deadline - c.cost-cost.result) ≡ Some c.in-Some.start =
    sym (c.met-search.ensures.found ∙ ap (λ (x : ℕ). met_by work (x + 1) (j.release + c.args.task.deadline - c.cost-cost.result)) c.from.ensures) ∙ c.in-Some.is in
    let grows = asked_grows c.args.rows.now c.args.count c.requires.rows_fit in
    let started = start_small work c.args.blocking c.args.task j.number j.base j.release j.from j.invariant c.requires.sized c.requires.late grows c.in-Some.start (rw c.cost-cost.ensures at found) in
    record { fits = omega (arith, started, small j.invariant c.requires.sized c.requires.late c.requires.small) }

pub overflow_add-base : goal.overflow_add-base
overflow_add-base c = record { fits = omega (arith, small c.jobs.invariant c.requires.sized c.requires.late c.requires.small) }

pub overflow_add-release : goal.overflow_add-release
overflow_add-release c = record { fits = omega (arith, small c.jobs.invariant c.requires.sized c.requires.late c.requires.small) }

pub overflow_add-number : goal.overflow_add-number
overflow_add-number c = record { fits = omega (arith, small c.jobs.invariant c.requires.sized c.requires.late c.requires.small) }

pub jobs-smaller : goal.jobs-smaller
jobs-smaller c = omega (arith, small c.jobs.invariant c.requires.sized c.requires.late c.requires.small)

pub jobs-preserved : goal.jobs-preserved
jobs-preserved c =
    let j = c.jobs in
    let work = asked_by c.args.rows.now c.args.count in
    let found : met_by work (j.base + 1) (j.release + c.args.task.deadline - c.cost-cost.result) ≡ Some c.in-Some.start =
    sym (c.met-search.ensures.found ∙ ap (λ (x : ℕ). met_by work (x + 1) (j.release + c.args.task.deadline - c.cost-cost.result)) c.from.ensures) ∙ c.in-Some.is in
    let grows = asked_grows c.args.rows.now c.args.count c.requires.rows_fit in
    rw c.cost-cost.ensures (one_more work c.args.blocking c.args.task j.number j.base j.release j.from j.invariant c.requires.sized c.requires.late grows c.in-Some.start (rw c.cost-cost.ensures at found))
