use mathlib.Core.Path.{sym, ap, ◌∙◌}
use lib.ListN.{length}
use Rattle.model.specs.declared.order.Order.{Order}
use Rattle.model.specs.Answer.{output_after}
use Rattle.model.specs.Layouts.{order_length}
use Rattle.model.specs.Rules.{first_broken}
use Rattle.model.proofs.Output.{after_refused}
use Rattle.order.specs.Order.{order_bytes}
use Rattle.order_out.specs.Write.{written_rules, columns, write_rules, write_answer}
use Rattle.order_out.proofs.Rules.{same_tells, write_on}
use Rattle.order_out.proofs.write_order.Goals as goal

pub returns-then-not-same_lengths : goal.returns-then-not-same_lengths
unfolding write_answer write_rules first_broken
returns-then-not-same_lengths c =
    record {
      answered = rw (sym c.same_lengths.ensures ∙ c.if-not-same_lengths.true);
      written = sym (after_refused _ _ c.args.out.now);
    }

pub order-requires : goal.order-requires
order-requires c =
    let a = c.args in
    (same_tells (columns a.widths.now a.periods.now a.deadlines.now a.runs.now)).0 (sym c.same_lengths.ensures ∙ c.if-not-same_lengths.false)

pub returns : goal.returns
returns c =
    let done = c.write in
    let made = c.order.ensures in
    let a = c.args in
    let given = columns a.widths.now a.periods.now a.deadlines.now a.runs.now in
    let one-length = sym c.same_lengths.ensures ∙ c.if-not-same_lengths.false in
    let out = a.out.now in
    record {
      answered = done.ensures.answered ∙ ap (λ (o : Order). first_broken (order_length 1 o.tasks) (written_rules o (length out))) made ∙ sym (write_on a.processors given (length out) one-length);
      written = done.ensures.written ∙ ap (λ (o : Order). output_after done.result (order_bytes o) out) made;
    }
