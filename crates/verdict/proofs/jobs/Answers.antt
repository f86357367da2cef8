use Rattle.std.specs.Prelude.{Some, Option, Ok}
use Rattle.std.proofs.Common.{◌≡◌, ℕ, ◌+◌, ◌-◌, ◌≤◌, ◌<◌, min, sym, ap, ◌∙◌, subst, arith}
use Rattle.model.specs.Limits.{horizon, cost}
use Rattle.model.specs.Rules.{Sized}
use Rattle.demand.proofs.Over.{Grows}
use Rattle.asked.specs.Rows.{row_task, asked_by, RowsFit, period_at, cost_at, deadline_at}
use Rattle.asked.specs.Met.{met_by, StillFrom}
use Rattle.asked.proofs.RowLaws.{fit_fewer, asked_grows}
use Rattle.asked.proofs.Said as said
use Rattle.verdict.proofs.InTurn.{first_job, open_fails, base_small, unstarted, unstarted_open, start_late, end_due, unmet_end, met_end, closing, closing_open, going_on_lem}
use Rattle.verdict.proofs.Full.{open_unmet, asked_unmet, failed_as, passed_as}
use Rattle.verdict.proofs.jobs.Goals as goal
use Rattle.verdict.proofs.jobs.Goals.{In-loop-release, In-Some, After-closing}
use Rattle.asked.specs.declared.rows.Rows.{Rows}

-- the rows of the higher members, and the member's own
module _ (rows : Rows) (rank : ℕ) (fit : RowsFit rows (rank + 1)) where
  fewer : RowsFit rows rank
  fewer = fit_fewer rows (rank + 1) rank (omega arith) fit

  grows : Grows (asked_by rows rank)
  grows = asked_grows rows rank fewer

  own_sized : Sized (row_task rows rank)
  own_sized = fit.each rank (omega arith)

  sizes : (1 ≤ cost_at rows rank) × (cost_at rows rank ≤ deadline_at rows rank) × (deadline_at rows rank ≤ period_at rows rank) × (period_at rows rank ≤ 1_000_000)
  unfolding cost
  sizes = (own_sized.cost-least, own_sized.cost_most, own_sized.deadline_most, own_sized.period_most)

small : (c : In-loop-release) → c.loop-release.base ≤ 1_000_000 + c.loop-release.release
small c =
    let a = c.args in
    let l = c.loop-release in
    let going = l.invariant.going in
    omega (arith, base_small (asked_by a.rows.now a.rank) (grows a.rows.now a.rank c.requires.0) a.blocking (row_task a.rows.now a.rank) (own_sized a.rows.now a.rank c.requires.0) going.0 l.base l.release l.begin l.worst going.1 c.loop-release-test.true, c.requires.1)

pub loop-release-init : goal.loop-release-init
loop-release-init c =
    let a = c.args in
    record {
      going = (0, first_job (asked_by a.rows.now a.rank) (grows a.rows.now a.rank c.requires.0) a.blocking (row_task a.rows.now a.rank) (own_sized a.rows.now a.rank c.requires.0) a.from c.requires.3);
      near = c.requires.2;
    }

pub overflow_sub-due : goal.overflow_sub-due
overflow_sub-due c = omega (arith, sizes c.args.rows.now c.args.rank c.requires.0)

pub met-search-requires : goal.met-search-requires
met-search-requires c =
    let a = c.args in
    let k = (goal.at.met-search-requires c).In-loop-release in
    (fewer a.rows.now a.rank c.requires.0, omega (arith, small k), c.loop-release.invariant.near, omega (arith, sizes a.rows.now a.rank c.requires.0), λ s l. omega (arith, c.loop-release.invariant.going.1.unmet s l))

pub returns-in_default : goal.returns-in_default
unfolding cost
returns-in_default c =
    let a = c.args in
    let work = asked_by a.rows.now a.rank in
    let own = row_task a.rows.now a.rank in
    let l = c.loop-release in
    let going = l.invariant.going in
    let none = sym (c.met-search.ensures.found ∙ ap (λ (x : ℕ). met_by work (x + 1) (l.release + own.deadline - own.run)) c.from.ensures) ∙ c.in_default.is in
    let fails = unstarted work (grows a.rows.now a.rank c.requires.0) a.blocking own (own_sized a.rows.now a.rank c.requires.0) going.0 l.base l.release l.begin l.worst going.1 c.loop-release-test.true none in
    let opened = unstarted_open work (grows a.rows.now a.rank c.requires.0) a.blocking own (own_sized a.rows.now a.rank c.requires.0) going.0 l.base l.release l.begin l.worst going.1 c.loop-release-test.true none in
    failed_as a.rows.now a.rank c.requires.0 a.blocking _ fails (omega (arith, sizes a.rows.now a.rank c.requires.0)) (asked_unmet a.rows.now a.rank c.requires.0 a.blocking _ opened) c.failed.result c.failed.ensures

-- the start, from the release to the deadline less the cost
at-start : (c : In-Some) → let own = row_task c.args.rows.now c.args.rank in met_by (asked_by c.args.rows.now c.args.rank) (c.loop-release.base + 1) (c.loop-release.release + own.deadline - own.run) ≡ Some c.in-Some.start
at-start c =
    let own = row_task c.args.rows.now c.args.rank in
    sym (c.met-search.ensures.found ∙ ap (λ (x : ℕ). met_by (asked_by c.args.rows.now c.args.rank) (x + 1) (c.loop-release.release + own.deadline - own.run)) c.from.ensures) ∙ c.in-Some.is

in_time_lem : (c : In-Some) → (c.loop-release.release ≤ c.in-Some.start) × (c.in-Some.start + cost_at c.args.rows.now c.args.rank ≤ c.loop-release.release + deadline_at c.args.rows.now c.args.rank)
unfolding cost
in_time_lem c =
    let a = c.args in
    let work = asked_by a.rows.now a.rank in
    let own = row_task a.rows.now a.rank in
    let l = c.loop-release in
    let going = l.invariant.going in (
      start_late work (grows a.rows.now a.rank c.requires.0) a.blocking own (own_sized a.rows.now a.rank c.requires.0) going.0 l.base l.release l.begin l.worst going.1 c.loop-release-test.true c.in-Some.start (at-start c),
      end_due work (grows a.rows.now a.rank c.requires.0) a.blocking own (own_sized a.rows.now a.rank c.requires.0) going.0 l.base l.release l.begin l.worst going.1 c.loop-release-test.true c.in-Some.start (at-start c),
    )

pub overflow_add-end : goal.overflow_add-end
overflow_add-end c = record { fits = omega (arith, in_time_lem (goal.at.overflow_add-end c).In-Some, sizes c.args.rows.now c.args.rank c.requires.0) }

pub overflow_sub-end : goal.overflow_sub-end
overflow_sub-end c = omega (arith, in_time_lem (goal.at.overflow_sub-end c).In-Some)

pub overflow_add-base : goal.overflow_add-base
overflow_add-base c = record { fits = omega (arith, small (goal.at.overflow_add-base c).In-loop-release, sizes c.args.rows.now c.args.rank c.requires.0) }

pub closing-requires : goal.closing-requires
unfolding cost
closing-requires c =
    let a = c.args in
    let k = (goal.at.closing-requires c).In-Some in
    let work = asked_by a.rows.now a.rank in
    let own = row_task a.rows.now a.rank in
    let l = c.loop-release in
    let going = l.invariant.going in
    let sizes' = sizes a.rows.now a.rank c.requires.0 in
    let quiet = subst (λ (f : Option ℕ). StillFrom work f c.met-search.result.next) c.in-Some.is c.met-search.ensures.still in (
      fewer a.rows.now a.rank c.requires.0,
      omega (arith, small (goal.at.closing-requires c).In-loop-release, sizes'),
      omega (arith, sizes'),
      omega (arith, in_time_lem k, sizes'),
      omega (arith, sizes'),
      omega arith,
      unmet_end work (grows a.rows.now a.rank c.requires.0) a.blocking own (own_sized a.rows.now a.rank c.requires.0) going.0 l.base l.release l.begin l.worst going.1 c.loop-release-test.true c.in-Some.start (at-start k),
      met_end work (grows a.rows.now a.rank c.requires.0) a.blocking own (own_sized a.rows.now a.rank c.requires.0) going.0 l.base l.release l.begin l.worst going.1 c.loop-release-test.true c.in-Some.start (at-start k) c.met-search.result.next quiet,
    )

-- what the search for the window's end answers
ending : (c : After-closing) → let own = row_task c.args.rows.now c.args.rank in
    c.closing.result ≡ met_by (asked_by c.args.rows.now c.args.rank) (c.loop-release.base + own.run) (min horizon (c.loop-release.release + own.period) - 1)
ending c =
    let own = row_task c.args.rows.now c.args.rank in
    let limit : c.min-begin.result ≡ min horizon (c.loop-release.release + own.period) = omega arith in
    c.closing.ensures ∙ ap (λ (x : ℕ). met_by (asked_by c.args.rows.now c.args.rank) (c.loop-release.base + own.run) (x - 1)) limit

pub returns-in-Some-closing : goal.returns-in-Some-closing
unfolding cost
returns-in-Some-closing c =
    let a = c.args in
    let k = (goal.at.returns-in-Some-closing c).In-Some in
    let work = asked_by a.rows.now a.rank in
    let own = row_task a.rows.now a.rank in
    let l = c.loop-release in
    let going = l.invariant.going in
    let last = c.in-Some-closing.last in
    let at_last = sym (ending (goal.at.returns-in-Some-closing c).After-closing) ∙ c.in-Some-closing.is in
    let near : last < 1_000_000 = omega (arith, (said.met_says work (l.base + own.run) (min horizon (l.release + own.period) - 1) (Some last) at_last).upto) in
    let passes = closing work (grows a.rows.now a.rank c.requires.0) a.blocking own (own_sized a.rows.now a.rank c.requires.0) going.0 l.base l.release l.begin l.worst going.1 c.loop-release-test.true c.in-Some.start (at-start k) last at_last in
    let opened = closing_open work (grows a.rows.now a.rank c.requires.0) a.blocking own (own_sized a.rows.now a.rank c.requires.0) going.0 l.base l.release l.begin l.worst going.1 c.loop-release-test.true c.in-Some.start (at-start k) last at_last in
    passed_as a.rows.now a.rank c.requires.0 a.blocking c.max-worst.result last (passes ∙ ap Ok (sym c.max-worst.ensures)) (omega (arith, near)) (open_unmet a.rows.now a.rank c.requires.0 a.blocking last (omega (arith, near)) opened)

pub loop-release-preserved : goal.loop-release-preserved
unfolding cost
loop-release-preserved c =
    let a = c.args in
    let k = (goal.at.loop-release-preserved c).In-Some in
    let own = row_task a.rows.now a.rank in
    let l = c.loop-release in
    let going = l.invariant.going in
    let limit : c.min-begin.result ≡ min horizon (l.release + own.period) = omega arith in
    record {
      going = (
        going.0 + 1,
        rw (c.max-worst.ensures, limit) (going_on_lem (asked_by a.rows.now a.rank) (grows a.rows.now a.rank c.requires.0) a.blocking own (own_sized a.rows.now a.rank c.requires.0) going.0 l.base l.release l.begin l.worst going.1 c.loop-release-test.true c.in-Some.start (at-start k) (sym (ending (goal.at.loop-release-preserved c).After-closing) ∙ c.in_default-closing.is)),
      );
      near = omega arith;
    }

pub loop-release-smaller : goal.loop-release-smaller
loop-release-smaller c = omega (arith, sizes c.args.rows.now c.args.rank c.requires.0)

pub returns : goal.returns
returns c =
    let a = c.args in
    let own = row_task a.rows.now a.rank in
    let done = c.loop-release.invariant.going.1.opened in
    let fails = open_fails (asked_by a.rows.now a.rank) (grows a.rows.now a.rank c.requires.0) a.blocking own (own_sized a.rows.now a.rank c.requires.0) c.loop-release.release c.loop-release-test.false done in
    failed_as a.rows.now a.rank c.requires.0 a.blocking horizon fails (omega arith) (open_unmet a.rows.now a.rank c.requires.0 a.blocking horizon (omega arith) (λ s x y h. done s x (omega (arith, c.loop-release-test.false)) h)) c.failed-2.result c.failed-2.ensures
