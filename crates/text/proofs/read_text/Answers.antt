use mathlib.Core.Path.{◌≡◌, sym, ◌∙◌, subst}
use Prim.Native.Nat.{ℕ, ◌≤◌, ◌<◌}
use lib.ListN.{length}
use Rattle.std.specs.Prelude.{Err}
use Rattle.model.specs.Limits.{most_tasks}
use Rattle.model.proofs.Rules.{done_pass, refused_given, done_given, handed_on}
use Rattle.model.proofs.Output.{after_refused}
use Rattle.text.specs.Taken.{typed_table, lines_answer}
use Rattle.text.proofs.Rules.{text_many, text_stops, order_written}
use Rattle.text.proofs.read_text.Goals as goal

pub returns-then-lines-gt-MOST_TASKS : goal.returns-then-lines-gt-MOST_TASKS
returns-then-lines-gt-MOST_TASKS c =
    let a = c.args in
    record {
      answered = sym (text_many a.processors a.text.now (length a.out.now) (subst (λ (n : ℕ). most_tasks < n) c.count_lines-lines.ensures c.if-lines-gt-MOST_TASKS.true));
      written = sym (after_refused _ _ a.out.now);
    }

pub returns-in_err-take_lines : goal.returns-in_err-take_lines
returns-in_err-take_lines c =
    let a = c.args in
    let counted = c.count_lines-lines.ensures in
    let refused = refused_given (typed_table a.text.now c.count_lines-lines.result) (lines_answer a.text.now c.count_lines-lines.result) (sym c.take_lines.ensures ∙ c.in_err-take_lines.was) in
    let passed = handed_on c.from_residual.result c.from_residual.ensures.1 in
    rw passed (
    record {
      answered = sym (text_stops a.processors a.text.now (length a.out.now) (subst (λ (n : ℕ). n ≤ most_tasks) counted c.if-lines-gt-MOST_TASKS.false) _ (subst (λ (n : ℕ). lines_answer a.text.now n ≡ Err c.in_err-take_lines.field-0.0) counted refused));
      written = sym (after_refused _ _ a.out.now);
    }
    )

pub returns : goal.returns
returns c =
    let a = c.args in
    let lines = c.count_lines-lines in
    let done = done_given (typed_table a.text.now lines.result) (lines_answer a.text.now lines.result) (sym c.take_lines.ensures ∙ c.in_ok-take_lines.was) in
    order_written a.processors a.text.now a.out.now lines.result _ _ _ lines.ensures c.if-lines-gt-MOST_TASKS.false (done_pass 0 _ done.1) done.2 c.write.ensures
