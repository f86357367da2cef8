use Rattle.std.proofs.Common.{◌≡◌, ℕ, ◌+◌, ◌-◌, ◌≤◌, ◌<◌, get_or, ap, subst, arith}
use Rattle.asked.specs.Rows.{cost_at, asked_by, blocking_in}
use Rattle.asked.specs.Met.{UnmetBelow}
use Rattle.trial.specs.Known.{of_rank}
use Rattle.trial.proofs.Heads.{between, between_none, between_more, between_most, blocking_in_most, each_cost, head}
use Rattle.trial.proofs.head_start.Goals as goal

pub overflow_add-covered : goal.overflow_add-covered
overflow_add-covered c = record { fits = omega (arith, c.requires.2, blocking_in_most c.args.rows.now c.args.count c.requires.1 c.args.rank) }

pub loop-higher-init : goal.loop-higher-init
loop-higher-init c = omega (arith, between_none c.args.rows.now c.args.rank)

pub returns-then-own-covered : goal.returns-then-own-covered
returns-then-own-covered c =
    let a = c.args in
    let loop = c.loop-higher in
    let known = c.requires.3 in
    let g = loop.higher in
    let e : g - 1 + 1 ≡ g = omega arith in
    let inside : g - 1 < a.count = omega (arith, c.requires.0) in
    let is : get_or a.lasts.now c.number_in.result 0 ≡ of_rank a.keys.now a.lasts.now (g - 1) = ap (λ (x : ℕ). get_or a.lasts.now x 0) c.number_in.ensures in
    let last = of_rank a.keys.now a.lasts.now (g - 1) in
    let unmet : UnmetBelow (asked_by a.rows.now g) (blocking_in a.rows.now a.count (g - 1)) last =
    subst (λ (x : ℕ). UnmetBelow (asked_by a.rows.now x) (blocking_in a.rows.now a.count (g - 1)) last) e (known.unmet (g - 1) inside) in
    let own : cost_at a.rows.now a.rank ≤ blocking_in a.rows.now a.count a.rank + 2 + between a.rows.now g a.rank = omega (arith, loop.invariant, c.requires.2) in
    let open-till = head a.rows.now a.count c.requires.1 g a.rank last c.loop-higher-test.true c.loop-higher.auto.higher c.requires.0 own unmet in
    (omega (arith, is, known.near (g - 1) inside), λ s l. omega (arith, c.requires.2, open-till s (omega (arith, is, l))))

pub overflow_add-covered-in-loop-higher : goal.overflow_add-covered-in-loop-higher
overflow_add-covered-in-loop-higher c =
    let a = c.args in
    let loop = c.loop-higher in
    let m = blocking_in_most a.rows.now a.count c.requires.1 a.rank in
    let one : cost_at a.rows.now (loop.higher - 1) ≤ 1_000_000 = each_cost a.rows.now a.count c.requires.1 (loop.higher - 1) (omega (arith, c.requires.0)) in
    let b = between_most a.rows.now a.count c.requires.1 loop.higher a.rank (omega (arith, c.requires.0)) in
    record { fits = omega (arith, m, one, b, c.requires.0, c.requires.2, c.requires.1.few, loop.invariant) }

pub loop-higher-preserved : goal.loop-higher-preserved
loop-higher-preserved c =
    let a = c.args in
    omega (arith, c.loop-higher.invariant, between_more a.rows.now c.loop-higher.higher a.rank c.loop-higher-test.true c.loop-higher.auto.higher)

pub returns : goal.returns
returns c = (omega arith, λ s l. absurd (omega (arith, l)))
