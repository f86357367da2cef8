use mathlib.Core.Path.{◌≡◌, sym, ap, ◌∙◌}
use native.Mathlib.Nat.{le_antisymm}
use native.Mathlib.Omega.{arith}
use Rattle.std.specs.Prelude.{Ok}
use lib.ListN.{replicate}
use borrow.Author.Rules.{rules}
use Rattle.laws.specs.Joined.{joined}
use Rattle.laws.proofs.Joined.{filled_none, filled_more}
use Rattle.model.specs.Limits.{most_tasks, zero_task}
use Rattle.model.proofs.Rules.{pass_done, given_done, given_refused, scan_none, scan_more, scan_stop}
use Rattle.form.specs.Text.{typed_task}
use Rattle.text.specs.Read.{line_rules}
use Rattle.text.specs.Taken.{typed_table, lines_answer}
use Rattle.text.proofs.Lines.{first_begins, unshaped, shape_told, fits_told, task_exact, next_begins, line_passes, shape_stops, number_stops}
use Rattle.text.proofs.take_lines.Goals as goal

pub loop-i-init : goal.loop-i-init
loop-i-init c =
    (search rules, rw c.new-reader.ensures.at (first_begins _), scan_none _, ap (replicate most_tasks) c.zero-table.ensures ∙ filled_none (typed_task c.args.text.now) zero_task most_tasks, cc)

pub returns-in_default : goal.returns-in_default
returns-in_default c =
    let text = c.args.text.now in
    let l = c.loop-i in
    let line = rw l.invariant.4 at c.take_line.ensures.line in
    let bad = unshaped text l.i _ l.invariant.1 _ _ line c.in_default.is in
    sym (given_refused (typed_table text c.args.lines) (lines_answer text c.args.lines) (scan_stop (line_rules text) 0 c.args.lines l.i _ c.loop-i-test.true l.invariant.2 (shape_stops text l.i 0 bad)))

pub returns-then-not-numbers_fit : goal.returns-then-not-numbers_fit
returns-then-not-numbers_fit c =
    let text = c.args.text.now in
    let l = c.loop-i in
    let line = rw l.invariant.4 at c.take_line.ensures.line in
    let found = c.in-Some.is in
    let shape = shape_told text l.i _ l.invariant.1 _ _ line _ found in
    let over = sym (fits_told text l.i _ l.invariant.1 _ _ line _ found) ∙ sym c.numbers_fit.ensures ∙ c.if-not-numbers_fit.true in
    sym (given_refused (typed_table text c.args.lines) (lines_answer text c.args.lines) (scan_stop (line_rules text) 0 c.args.lines l.i _ c.loop-i-test.true l.invariant.2 (number_stops text l.i 0 shape over)))

pub loop-i-preserved : goal.loop-i-preserved
loop-i-preserved c =
    let text = c.args.text.now in
    let l = c.loop-i in
    let line = rw l.invariant.4 at c.take_line.ensures.line in
    let found = c.in-Some.is in
    let more = c.loop-i-test.true in
    let shape = shape_told text l.i _ l.invariant.1 _ _ line _ found in
    let fit = sym (fits_told text l.i _ l.invariant.1 _ _ line _ found) ∙ sym c.numbers_fit.ensures ∙ c.if-not-numbers_fit.false in
    let task = task_exact text l.i _ l.invariant.1 _ _ line _ found fit in
    let few = c.requires in (
      search rules,
      next_begins text l.i _ l.invariant.1 _ _ line _ found,
      scan_more (line_rules text) l.i l.invariant.2 (line_passes text l.i shape fit),
      cc (filled_more (typed_task text) zero_task most_tasks l.i (omega (arith, more, few)), task, l.invariant.3),
      cc,
    )

pub returns : goal.returns
returns c =
    let a = c.args in
    let l = c.loop-i in
    let all : l.i ≡ a.lines = le_antisymm l.invariant.0 c.loop-i-test.false in
    ap Ok (l.invariant.3 ∙ rw all) ∙ sym (given_done (typed_table a.text.now a.lines) (lines_answer a.text.now a.lines) (pass_done 0 (joined (line_rules a.text.now) a.lines) (rw all at l.invariant.2)))
