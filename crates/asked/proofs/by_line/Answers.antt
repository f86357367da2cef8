use Rattle.std.proofs.Common.{◌≡◌, ◌+◌, ap, ◌∙◌, arith}
use native.Mathlib.Decide.{dec_lt}
use Rattle.asked.specs.declared.lines.Line.{Line}
use Rattle.asked.specs.Lines.{line_in, line_end}
use Rattle.asked.proofs.Slopes.{line_small, unmet_to_line}
use Rattle.asked.proofs.by_line.Goals as goal

pub overflow_add-base : goal.overflow_add-base
overflow_add-base c =
    let a = c.args in
    record { fits = omega (arith, (line_small a.rows.now a.w a.pace.reach a.count c.requires.0 c.requires.2).0, ap (λ (x : Line). x.rest) c.line_below-line.ensures) }

pub line_end-end-requires : goal.line_end-end-requires
line_end-end-requires c =
    let a = c.args in
    omega (arith, (line_small a.rows.now a.w a.pace.reach a.count c.requires.0 c.requires.2).0, ap (λ (x : Line). x.rest) c.line_below-line.ensures)

pub returns-then-on-end : goal.returns-then-on-end
returns-then-on-end c =
    let a = c.args in
    let line = line_in a.rows.now a.count a.w a.pace.reach in
    let end_is : c.line_end-end.result ≡ line_end (a.base + line.rest) line.slope =
    c.line_end-end.ensures ∙ ap (λ (l : Line). line_end (a.base + l.rest) l.slope) c.line_below-line.ensures in (
      omega arith,
      λ s l. elim (dec_lt s a.on) [
        | yes early ↦ c.requires.5 s early
        | no late ↦ unmet_to_line a.rows.now a.count c.requires.0 a.base a.w a.pace.reach s (omega arith) (omega (arith, end_is))
      ],
      omega arith,
    )
