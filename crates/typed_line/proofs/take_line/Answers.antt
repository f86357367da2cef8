use Rattle.typed_line.proofs.Steps.{no_width, no_period, no_deadline, no_run, line_taken}
use Rattle.typed_line.proofs.take_line.Goals as goal

pub returns-in_err-width-clause-line : goal.returns-in_err-width-clause-line
returns-in_err-width-clause-line c =
    let reader = c.args.reader.now in
    rw c.from_residual.ensures (no_width reader.text.now reader.at _ _ c.take_number.ensures.number c.in_err-width.was)

pub returns-in_err-period-clause-line : goal.returns-in_err-period-clause-line
returns-in_err-period-clause-line c =
    let reader = c.args.reader.now in
    let width = c.take_number.ensures in
    let period = rw width.text at c.take_time.ensures.time in
    rw c.from_residual-in_err-period.ensures (no_period reader.text.now reader.at _ _ width.number _ c.in_ok-width.was _ _ period c.in_err-period.was)

pub returns-in_err-deadline-clause-line : goal.returns-in_err-deadline-clause-line
returns-in_err-deadline-clause-line c =
    let reader = c.args.reader.now in
    let width = c.take_number.ensures in
    let period = rw width.text at c.take_time.ensures.time in
    let deadline = rw (c.take_time.ensures.text, width.text) at c.take_time-2.ensures.time in
    rw c.from_residual-in_err-deadline.ensures
    (no_deadline reader.text.now reader.at _ _ width.number _ c.in_ok-width.was _ _ period _ c.in_ok-period.was _ _ deadline c.in_err-deadline.was)

pub returns-in_err-run-clause-line : goal.returns-in_err-run-clause-line
returns-in_err-run-clause-line c =
    let reader = c.args.reader.now in
    let width = c.take_number.ensures in
    let period = rw width.text at c.take_time.ensures.time in
    let deadline = rw (c.take_time.ensures.text, width.text) at c.take_time-2.ensures.time in
    let run = rw (c.take_time-2.ensures.text, c.take_time.ensures.text, width.text) at c.take_time-3.ensures.time in
    rw c.from_residual-in_err-run.ensures
    (no_run reader.text.now reader.at _ _ width.number _ c.in_ok-width.was _ _ period _ c.in_ok-period.was _ _ deadline _ c.in_ok-deadline.was _ _ run c.in_err-run.was)

pub returns-clause-line : goal.returns-clause-line
returns-clause-line c =
    let reader = c.args.reader.now in
    let width = c.take_number.ensures in
    let period = rw width.text at c.take_time.ensures.time in
    let deadline = rw (c.take_time.ensures.text, width.text) at c.take_time-2.ensures.time in
    let run = rw (c.take_time-2.ensures.text, c.take_time.ensures.text, width.text) at c.take_time-3.ensures.time in
    line_taken reader.text.now reader.at _ _ width.number _ c.in_ok-width.was _ _ period _ c.in_ok-period.was _ _ deadline _ c.in_ok-deadline.was _ _ run _ c.in_ok-run.was
