use mathlib.Core.Path.{sym, ◌∙◌}
use mathlib.Core.Bool.{true, false}
use Rattle.model.proofs.Rules.{refused_given, done_given, handed_on}
use Rattle.list.proofs.Taken.{dash_told, item_refused, alone_unended, alone_taken, range_taken}
use Rattle.list.proofs.take_item.Goals as goal

pub returns-in_err-judge_number-clause-item : goal.returns-in_err-judge_number-clause-item
returns-in_err-judge_number-clause-item c =
    let reader = c.args.reader.now in
    let first = c.take_digits-first.ensures.digits in
    let passed = handed_on c.from_residual.result c.from_residual.ensures.1 in
    rw passed (item_refused reader.text.now reader.at _ _ first.0 first.1 _ (refused_given tt _ (sym c.judge_number.ensures ∙ c.in_err-judge_number.was)))

pub returns-then-is_at_dash-clause-item : goal.returns-then-is_at_dash-clause-item
returns-then-is_at_dash-clause-item c =
    let reader = c.args.reader.now in
    let first = c.take_digits-first.ensures in
    let number = done_given tt _ (sym c.judge_number.ensures ∙ c.in_ok-judge_number.was) in
    let dash = rw first.text at (sym c.is_at_dash.ensures ∙ c.if-is_at_dash.true) in
    let dashed = dash_told reader.text.now reader.at _ _ first.digits.0 first.digits.1 true dash in
    let last = rw (c.skip.ensures.at, c.skip.ensures.text, first.text) at c.take_last.ensures.item in
    range_taken reader.text.now reader.at _ _ first.digits.0 first.digits.1 number.0 c.take_last.result _ number.1 dashed last

pub returns-in_err-judge_end-clause-item : goal.returns-in_err-judge_end-clause-item
returns-in_err-judge_end-clause-item c =
    let reader = c.args.reader.now in
    let first = c.take_digits-first.ensures in
    let number = done_given tt _ (sym c.judge_number.ensures ∙ c.in_ok-judge_number.was) in
    let dash = rw first.text at (sym c.is_at_dash.ensures ∙ c.if-is_at_dash.false) in
    let alone = dash_told reader.text.now reader.at _ _ first.digits.0 first.digits.1 false dash in
    let end = rw first.text at (refused_given tt _ (sym c.judge_end.ensures ∙ c.in_err-judge_end.was)) in
    let passed = handed_on c.from_residual-in_err-judge_end.result c.from_residual-in_err-judge_end.ensures.1 in
    rw passed (alone_unended reader.text.now reader.at _ _ first.digits.0 first.digits.1 number.0 number.1 alone _ end)

pub returns-clause-item : goal.returns-clause-item
returns-clause-item c =
    let reader = c.args.reader.now in
    let first = c.take_digits-first.ensures in
    let number = done_given tt _ (sym c.judge_number.ensures ∙ c.in_ok-judge_number.was) in
    let dash = rw first.text at (sym c.is_at_dash.ensures ∙ c.if-is_at_dash.false) in
    let alone = dash_told reader.text.now reader.at _ _ first.digits.0 first.digits.1 false dash in
    let judged = rw first.text at c.judge_end.ensures in
    let end = done_given tt _ (sym judged ∙ c.in_ok-judge_end.was) in
    alone_taken reader.text.now reader.at _ _ first.digits.0 first.digits.1 number.0 number.1 alone end.0 end.1
