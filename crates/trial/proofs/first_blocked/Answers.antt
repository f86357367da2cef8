use Rattle.std.proofs.Common.{ℕ, ◌+◌, ◌-◌, arith}
use Rattle.laws.proofs.Sums.{largest_reaches}
use Rattle.asked.specs.Rows.{cost_at}
use Rattle.trial.proofs.Heads.{some_cost}
use Rattle.trial.proofs.first_blocked.Goals as goal

pub loop-higher-init : goal.loop-higher-init
loop-higher-init c =
    let a = c.args in
    let f : ℕ → ℕ = λ s. cost_at a.rows.now (a.newcomer + 1 + s) in
    λ le. (let found = largest_reaches f (a.count - (a.newcomer + 1)) (cost_at a.rows.now a.newcomer) (some_cost a.rows.now a.count c.requires.1 a.newcomer c.requires.0) (omega (arith, le, c.longest-other.ensures)) in
    (a.newcomer + 1 + found.0, omega arith, omega (arith, found.1), (λ e. omega (arith, e)), found.2))

pub returns-then-cost-other : goal.returns-then-cost-other
returns-then-cost-other c =
    let found = c.loop-higher.invariant c.if-cost-other.true in
    (omega arith, λ h l. record { by = found.0; after = omega (arith, l, found.1); inside = found.2; another = found.3; long = found.4 })

pub loop-higher-preserved : goal.loop-higher-preserved
loop-higher-preserved c =
    λ le. (c.loop-higher.higher - 1, omega arith, omega (arith, c.requires.0), (λ e. omega (arith, e)), omega (arith, le))

pub returns : goal.returns
returns c = (omega arith, λ h l. absurd (omega (arith, l)))
