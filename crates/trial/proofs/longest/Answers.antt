use Rattle.std.proofs.Common.{◌≡◌, ℕ, ◌+◌, ◌-◌, max, sym, ap, ◌∙◌, arith}
use Rattle.laws.specs.Sums.{largest}
use Rattle.laws.proofs.Sums.{largest_none, largest_more}
use Rattle.asked.specs.Rows.{cost_at}
use Rattle.trial.proofs.longest.Goals as goal

pub loop-r-init : goal.loop-r-init
loop-r-init c =
    let a = c.args in
    let none : a.from - a.from ≡ 0 = omega arith in
    sym (ap (largest (λ s. cost_at a.rows.now (a.from + s))) none ∙ largest_none (λ s. cost_at a.rows.now (a.from + s)))

pub loop-r-preserved : goal.loop-r-preserved
loop-r-preserved c =
    let a = c.args in
    let loop = c.loop-r in
    let f : ℕ → ℕ = λ s. cost_at a.rows.now (a.from + s) in
    let e : loop.r + 1 - a.from ≡ loop.r - a.from + 1 = omega arith in
    let at : a.from + (loop.r - a.from) ≡ loop.r = omega arith in
    c.max-most.ensures ∙ ap (λ (x : ℕ). max x (cost_at a.rows.now loop.r)) loop.invariant ∙ ap (λ (x : ℕ). max (largest f (loop.r - a.from)) (cost_at a.rows.now x)) (sym at)
    ∙ sym (largest_more f (loop.r - a.from)) ∙ ap (largest f) (sym e)

pub returns : goal.returns
returns c =
    let a = c.args in
    c.loop-r.invariant ∙ ap (λ (k : ℕ). largest (λ s. cost_at a.rows.now (a.from + s)) (k - a.from)) (omega arith)
