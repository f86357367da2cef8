use mathlib.Core.Path.{sym, ◌∙◌}
use Rattle.typed.proofs.Told.{no_digit, no_number_end, number_taken}
use Rattle.typed.proofs.reader.Reader.take_number.Goals as goal
use Rattle.typed.proofs.reader.Reader.take_number.Goals.{then-self-from-via-then-self-from, then-self-from-via-else-self-from+then-not-is_at_end}

pub returns-then-self-from-clause-number : goal.returns-then-self-from-clause-number
returns-then-self-from-clause-number c =
    let reader = c.args.self.now in
    let digits = c.take_digits-number.ensures in
    elim c.then-self-from.branch [
      | then-self-from-via-then-self-from w ↦ no_digit reader.text.now reader.at _ _ digits.digits w.if-self-from.true
      | then-self-from-via-else-self-from+then-not-is_at_end w ↦ no_number_end reader.text.now reader.at _ _ digits.digits (rw digits.text at (sym w.is_at_end.ensures ∙ w.if-not-is_at_end.true))
    ]

pub returns-clause-number : goal.returns-clause-number
returns-clause-number c =
    let reader = c.args.self.now in
    let digits = c.take_digits-number.ensures in
    rw c.skip.ensures.at (number_taken reader.text.now reader.at _ _ digits.digits (rw digits.text at (sym c.is_at_end.ensures ∙ c.if-not-is_at_end.false)) c.if-self-from.false)
