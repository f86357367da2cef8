use Rattle.std.proofs.Common.{◌≡◌, ◌+◌, ◌<◌, ℕ, ◌∙◌, ap, arith}
use Rattle.laws.specs.Sums.{least}
use Rattle.laws.specs.Joined.{overlaid}
use Rattle.laws.proofs.Sums.{least_same}
use Rattle.laws.proofs.Overlaid.{overlaid_same, overlaid_twice}
use Rattle.asked.specs.Rows.{asked_by}
use Rattle.asked.specs.Steps.{far, due_after, onward}
use Rattle.asked.proofs.RowLaws.{asked_most}
use Rattle.asked.proofs.Dues.{due_near, onward_right, asked_onward}
use Rattle.asked.proofs.steps.go_on.Goals as goal
use Rattle.asked.proofs.steps.go_on.Goals.{Then-w-step}

pub advance-step-requires : goal.advance-step-requires
advance-step-requires c =
    let a = c.args in
    let d = c.requires.2 in (
      c.requires.0,
      record { places = d.places; near = λ r l. omega (arith, d.dues r l, due_near a.rows.now a.count c.requires.0 d.earlier r l, d.before) },
    )

-- one release of each was enough
right : (c : Then-w-step) → let a = c.args in (a.w < least far (onward a.rows.now a.due.now a.w) a.count)
right c = omega (arith, c.advance-step.ensures.next)

all-is : (c : Then-w-step) → let a = c.args in a.all + c.advance-step.result.all ≡ asked_by a.rows.now a.count a.w
all-is c =
    let a = c.args in
    let d = c.requires.2 in
    omega (arith, c.advance-step.ensures.all, d.asked, asked_onward a.rows.now a.count c.requires.0 a.due.now d.earlier a.w d.before d.dues (right c))

same_dues : (c : Then-w-step) → let a = c.args in (r : ℕ) → r < a.count → onward a.rows.now a.due.now a.w r ≡ due_after a.rows.now a.w r
same_dues c = (let a = c.args in let d = c.requires.2 in onward_right a.rows.now a.count c.requires.0 a.due.now d.earlier a.w d.before d.dues (right c))

pub overflow_add-result : goal.overflow_add-result
overflow_add-result c =
    let a = c.args in
    record { fits = omega (arith, all-is (goal.at.overflow_add-result c).Then-w-step, asked_most a.rows.now a.count c.requires.0 a.w c.requires.1, c.requires.0.few) }

pub returns-then-w-step : goal.returns-then-w-step
returns-then-w-step c =
    let k = (goal.at.returns-then-w-step c).Then-w-step in
    record {
      all = all-is k;
      next = c.advance-step.ensures.next ∙ least_same far _ _ c.args.count (same_dues k);
      dues = c.advance-step.ensures.dues ∙ overlaid_same _ _ c.args.count c.args.due.now (same_dues k);
    }

pub returns-clause-dues : goal.returns-clause-dues
returns-clause-dues c =
    let a = c.args in
    c.begin.ensures.dues
    ∙ ap (overlaid (due_after a.rows.now a.w) a.count) c.advance-step.ensures.dues
    ∙ overlaid_twice (due_after a.rows.now a.w) (onward a.rows.now a.due.now a.w) a.count a.due.now
