use Rattle.std.proofs.Common.{◌≡◌, ◌+◌, ◌*◌, sym, ap, arith}
use Rattle.laws.proofs.Sums.{least_none, least_more}
use Rattle.laws.proofs.Overlaid.{overlaid_none, overlaid_more}
use Rattle.asked.specs.Rows.{period_at}
use Rattle.asked.specs.Steps.{far, due_after}
use Rattle.asked.proofs.RowLaws.{fit_fewer, asked_none, asked_most}
use Rattle.asked.proofs.Dues.{asked_with, due_near}
use Rattle.asked.proofs.steps.begin.Goals as goal

pub loop-r-init : goal.loop-r-init
loop-r-init c = record {
  all = sym (asked_none c.args.rows.now c.args.w);
  next = sym (least_none far (due_after c.args.rows.now c.args.w));
  dues = sym (overlaid_none (due_after c.args.rows.now c.args.w) c.args.due.now);
}

pub overflow_mul-then : goal.overflow_mul-then
overflow_mul-then c =
    let a = c.args in
    let r = c.loop-r.r in
    let same : c.releases_by-releases.result * period_at a.rows.now r ≡ due_after a.rows.now a.w r = ap (λ k. k * period_at a.rows.now r) c.releases_by-releases.ensures in
    record { fits = omega (arith, same, due_near a.rows.now a.count c.requires.0 a.w r c.loop-r-test.true) }

pub overflow_mul-all : goal.overflow_mul-all
overflow_mul-all c =
    let a = c.args in
    let n = c.loop-r.r + 1 in
    let fit = fit_fewer a.rows.now a.count n (omega arith) c.requires.0 in
    record { fits = omega (arith, asked_with a.rows.now c.loop-r.r a.w c.loop-r.all _ _ _ c.loop-r.invariant.all c.releases_by-releases.ensures c.from.ensures c.from-in-loop-r.ensures, asked_most a.rows.now n fit a.w c.requires.1, fit.few) }

pub overflow_add-all : goal.overflow_add-all
overflow_add-all c =
    let a = c.args in
    let n = c.loop-r.r + 1 in
    let fit = fit_fewer a.rows.now a.count n (omega arith) c.requires.0 in
    record { fits = omega (arith, asked_with a.rows.now c.loop-r.r a.w c.loop-r.all _ _ _ c.loop-r.invariant.all c.releases_by-releases.ensures c.from.ensures c.from-in-loop-r.ensures, asked_most a.rows.now n fit a.w c.requires.1, fit.few) }

pub loop-r-preserved : goal.loop-r-preserved
loop-r-preserved c =
    let a = c.args in
    let r = c.loop-r.r in
    let f = due_after a.rows.now a.w in
    let then_is : c.releases_by-releases.result * period_at a.rows.now r ≡ f r = ap (λ k. k * period_at a.rows.now r) c.releases_by-releases.ensures in
    record {
      all = asked_with a.rows.now r a.w c.loop-r.all _ _ _ c.loop-r.invariant.all c.releases_by-releases.ensures c.from.ensures c.from-in-loop-r.ensures;
      next = rw (c.min-next.ensures, c.loop-r.invariant.next, then_is) (sym (least_more far f r));
      dues = rw (c.loop-r.invariant.dues, then_is) (overlaid_more f a.due.now r (omega (arith, c.requires.0.few)));
    }
