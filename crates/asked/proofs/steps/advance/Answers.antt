use Rattle.std.proofs.Common.{◌≡◌, ℕ, ◌+◌, ◌*◌, ◌≤◌, ◌<◌, List, refl, sym, ap, ◌∙◌, leb, get_or, arith}
use native.Mathlib.Nat.{mul-le-mul}
use Rattle.laws.specs.Sums.{only}
use Rattle.laws.proofs.Only.{only_le}
use Rattle.laws.proofs.Sums.{sum_none, sum_more, least_none, least_more}
use Rattle.laws.proofs.Picked.{sum_most}
use Rattle.laws.proofs.Overlaid.{overlaid_none, overlaid_more, overlaid_past}
use Rattle.model.specs.Limits.{cost}
use Rattle.asked.specs.Rows.{cost_at, period_at}
use Rattle.asked.specs.Steps.{far, onward}
use Rattle.asked.proofs.RowLaws.{cost_most}
use Rattle.asked.proofs.steps.advance.Goals as goal
use Rattle.asked.proofs.steps.advance.Goals.{After-has_come-more}

pub loop-r-init : goal.loop-r-init
loop-r-init c = record {
  all = sym (sum_none (λ i. only (leb (get_or c.args.due.now i 0) c.args.w) 1 * cost_at c.args.rows.now i));
  next = sym (least_none far (onward c.args.rows.now c.args.due.now c.args.w));
  dues = sym (overlaid_none (onward c.args.rows.now c.args.due.now c.args.w) c.args.due.now);
}

-- the member's release, as it was before the loop
due-is : (c : After-has_come-more) → get_or c.loop-r.due c.loop-r.r 0 ≡ get_or c.args.due.now c.loop-r.r 0
due-is c =
    let a = c.args in
    let r = c.loop-r.r in
    ap (λ (xs : List ℕ). get_or xs r 0) c.loop-r.invariant.dues ∙ overlaid_past (onward a.rows.now a.due.now a.w) a.due.now r r 0 (omega arith)

-- whether it has come
come-is : (c : After-has_come-more) → c.has_come-more.result ≡ only (leb (get_or c.args.due.now c.loop-r.r 0) c.args.w) 1
come-is c = c.has_come-more.ensures ∙ ap (λ (d : ℕ). only (leb d c.args.w) 1) (due-is c)

come-most : (c : After-has_come-more) → c.has_come-more.result ≤ 1
come-most c = omega (arith, come-is c, only_le (leb (get_or c.args.due.now c.loop-r.r 0) c.args.w) 1)

then_is : (c : After-has_come-more) → let a = c.args in let loop = c.loop-r in
    get_or loop.due loop.r 0 + c.has_come-more.result * period_at a.rows.now loop.r ≡ onward a.rows.now a.due.now a.w loop.r
then_is c = rw (due-is c, come-is c) refl

-- small numbers
row_small : (c : After-has_come-more) → let a = c.args in let r = c.loop-r.r in
    (c.has_come-more.result * period_at a.rows.now r ≤ 1 * 1_000_000) × (c.has_come-more.result * cost_at a.rows.now r ≤ 1 * 1_000_000)
unfolding cost
row_small c =
    let a = c.args in
    let r = c.loop-r.r in
    let l = c.loop-r-test.true in
    (mul-le-mul (come-most c) (c.requires.0.each r l).period_most, mul-le-mul (come-most c) (cost_most a.rows.now a.count c.requires.0 r l))

due-small : (c : After-has_come-more) → get_or c.loop-r.due c.loop-r.r 0 ≤ 3_000_000
due-small c = omega (arith, due-is c, c.requires.1.near c.loop-r.r c.loop-r-test.true)

all_small : (c : After-has_come-more) → c.loop-r.all ≤ c.loop-r.r * 1_000_000
unfolding cost
all_small c =
    let a = c.args in
    let few : (i : ℕ) → i < c.loop-r.r → only (leb (get_or a.due.now i 0) a.w) 1 * cost_at a.rows.now i ≤ 1_000_000 =
    λ i l. omega (arith, mul-le-mul (only_le (leb (get_or a.due.now i 0) a.w) 1) (cost_most a.rows.now a.count c.requires.0 i (omega arith))) in
    omega (arith, c.loop-r.invariant.all, sum_most (λ i. only (leb (get_or a.due.now i 0) a.w) 1 * cost_at a.rows.now i) 1_000_000 c.loop-r.r few)

pub overflow_mul-then : goal.overflow_mul-then
overflow_mul-then c = (let k = (goal.at.overflow_mul-then c).After-has_come-more in record { fits = omega (arith, row_small k) })

pub overflow_add-then : goal.overflow_add-then
overflow_add-then c = (let k = (goal.at.overflow_add-then c).After-has_come-more in record { fits = omega (arith, row_small k, due-small k) })

pub overflow_mul-all : goal.overflow_mul-all
overflow_mul-all c = (let k = (goal.at.overflow_mul-all c).After-has_come-more in record { fits = omega (arith, row_small k) })

pub overflow_add-all : goal.overflow_add-all
overflow_add-all c = (let k = (goal.at.overflow_add-all c).After-has_come-more in record { fits = omega (arith, row_small k, all_small k, c.requires.0.few) })

pub loop-r-preserved : goal.loop-r-preserved
loop-r-preserved c =
    let k = (goal.at.loop-r-preserved c).After-has_come-more in
    let a = c.args in
    let loop = c.loop-r in
    let f = onward a.rows.now a.due.now a.w in
    let g : ℕ → ℕ = λ i. only (leb (get_or a.due.now i 0) a.w) 1 * cost_at a.rows.now i in
    record {
      all = rw (loop.invariant.all, come-is k) (sym (sum_more g loop.r));
      next = rw (c.min-next.ensures, then_is k, loop.invariant.next) (sym (least_more far f loop.r));
      dues = rw (then_is k, loop.invariant.dues) (overlaid_more f a.due.now loop.r (omega (arith, c.requires.1.places, c.requires.0.few)));
    }
