use mathlib.Core.Path.{sym, ◌∙◌}
use Rattle.model.proofs.Rules.{refused_given, done_given, handed_on}
use Rattle.list.proofs.Taken.{last_refused, last_below, last_unended, last_taken}
use Rattle.list.proofs.take_last.Goals as goal

pub returns-in_err-judge_number-clause-item : goal.returns-in_err-judge_number-clause-item
returns-in_err-judge_number-clause-item c =
    let reader = c.args.reader.now in
    let last = c.take_digits-last.ensures.digits in
    let passed = handed_on c.from_residual.result c.from_residual.ensures.1 in
    rw passed (last_refused reader.text.now reader.at c.args.first _ _ last.0 last.1 _ (refused_given tt _ (sym c.judge_number.ensures ∙ c.in_err-judge_number.was)))

pub returns-then-last-first-clause-item : goal.returns-then-last-first-clause-item
returns-then-last-first-clause-item c =
    let reader = c.args.reader.now in
    let last = c.take_digits-last.ensures.digits in
    let number = done_given tt _ (sym c.judge_number.ensures ∙ c.in_ok-judge_number.was) in
    last_below reader.text.now reader.at c.args.first _ _ last.0 last.1 number.0 number.1 c.if-last-first.true

pub returns-in_err-judge_end-clause-item : goal.returns-in_err-judge_end-clause-item
returns-in_err-judge_end-clause-item c =
    let reader = c.args.reader.now in
    let last = c.take_digits-last.ensures.digits in
    let number = done_given tt _ (sym c.judge_number.ensures ∙ c.in_ok-judge_number.was) in
    let end = rw c.take_digits-last.ensures.text at (refused_given tt _ (sym c.judge_end.ensures ∙ c.in_err-judge_end.was)) in
    let passed = handed_on c.from_residual-in_err-judge_end.result c.from_residual-in_err-judge_end.ensures.1 in
    rw passed (last_unended reader.text.now reader.at c.args.first _ _ last.0 last.1 number.0 number.1 c.if-last-first.false _ end)

pub returns-clause-item : goal.returns-clause-item
returns-clause-item c =
    let reader = c.args.reader.now in
    let last = c.take_digits-last.ensures.digits in
    let number = done_given tt _ (sym c.judge_number.ensures ∙ c.in_ok-judge_number.was) in
    let judged = rw c.take_digits-last.ensures.text at c.judge_end.ensures in
    let end = done_given tt _ (sym judged ∙ c.in_ok-judge_end.was) in
    last_taken reader.text.now reader.at c.args.first _ _ last.0 last.1 number.0 number.1 c.if-last-first.false end.0 end.1
