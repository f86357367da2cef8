use mathlib.Core.Path.{sym, ◌∙◌}
use Rattle.typed.proofs.Whole.{no_decimals, no_whole, no_time_end, time_taken}
use Rattle.typed.proofs.reader.Reader.take_time.Goals as goal

pub returns-then-self-from-clause-time : goal.returns-then-self-from-clause-time
returns-then-self-from-clause-time c =
    let reader = c.args.self.now in
    no_whole reader.text.now reader.at c.args.end _ _ c.take_digits-whole.ensures.digits c.if-self-from.true

pub returns-in_err-decimals-clause-time : goal.returns-in_err-decimals-clause-time
returns-in_err-decimals-clause-time c =
    let reader = c.args.self.now in
    let whole = c.take_digits-whole.ensures in
    let decimals = rw whole.text at c.take_decimals.ensures.decimals in
    rw c.from_residual.ensures (no_decimals reader.text.now reader.at c.args.end _ _ whole.digits _ _ decimals c.in_err-decimals.was)

pub returns-then-not-is_at_end-clause-time : goal.returns-then-not-is_at_end-clause-time
returns-then-not-is_at_end-clause-time c =
    let reader = c.args.self.now in
    let whole = c.take_digits-whole.ensures in
    let decimals = rw whole.text at c.take_decimals.ensures.decimals in
    let other = rw (c.take_decimals.ensures.text, whole.text) at (sym c.is_at_end.ensures ∙ c.if-not-is_at_end.true) in
    no_time_end reader.text.now reader.at c.args.end _ _ whole.digits _ _ decimals _ c.in_ok-decimals.was other

pub returns-clause-time : goal.returns-clause-time
returns-clause-time c =
    let reader = c.args.self.now in
    let whole = c.take_digits-whole.ensures in
    let decimals = rw whole.text at c.take_decimals.ensures.decimals in
    let ended = rw (c.take_decimals.ensures.text, whole.text) at (sym c.is_at_end.ensures ∙ c.if-not-is_at_end.false) in
    rw (c.min.ensures, c.skip.ensures.at) (time_taken reader.text.now reader.at c.args.end _ _ whole.digits _ _ decimals _ c.in_ok-decimals.was ended c.if-self-from.false)
