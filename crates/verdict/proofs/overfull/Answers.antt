use native.Mathlib.Omega.{arith}
use mathlib.Core.Path.{refl, ap}
use Rattle.asked.specs.declared.lines.Line.{Line}
use Rattle.asked.proofs.Slopes.{line_slope}
use Rattle.verdict.proofs.overfull.Goals as goal

pub overflow_add-result : goal.overflow_add-result
overflow_add-result c =
    let slope = line_slope c.args.rows.now 0 1_000_000 c.args.count c.requires in
    record { fits = omega (arith, slope, c.requires.few, ap (λ (x : Line). x.slope) c.line_below-taken.ensures) }

pub returns : goal.returns
returns c = rw (c.line_below-taken.ensures, c.from.ensures, c.min.ensures) refl
