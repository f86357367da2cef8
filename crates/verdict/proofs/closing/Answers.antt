use native.Mathlib.Omega.{arith}
use mathlib.Core.Path.{sym, ap, ◌∙◌}
use Prim.Native.Nat.{ℕ, ◌-◌}
use Rattle.asked.specs.Rows.{asked_by}
use Rattle.asked.specs.Met.{met_by}
use Rattle.asked.proofs.Seeking.{met_here, met_nowhere}
use Rattle.verdict.proofs.closing.Goals as goal

pub met-requires : goal.met-requires
met-requires c =
    (c.requires.0, omega (arith, c.from.ensures, c.requires.1), omega (arith, c.requires.3), omega (arith, c.requires.5), λ s l. omega (arith, c.requires.6 s l, c.from.ensures))

pub returns-then-next-end : goal.returns-then-next-end
returns-then-next-end c =
    let a = c.args in
    c.met.ensures.found ∙ ap (λ (x : ℕ). met_by (asked_by a.rows.now a.count) x (a.limit - 1)) c.from.ensures

pub returns-then-limit-end : goal.returns-then-limit-end
returns-then-limit-end c =
    let a = c.args in
    sym (met_nowhere (asked_by a.rows.now a.count) a.base (a.limit - 1) (a.end - 1) (omega (arith, c.if-limit-end.true, c.requires.4)) c.requires.6)

pub returns : goal.returns
returns c =
    let a = c.args in
    sym (met_here (asked_by a.rows.now a.count) a.base (a.limit - 1) (a.end - 1) (omega arith) c.requires.6 (omega (arith, c.requires.7 c.if-next-end.false)))
