use mathlib.Core.Path.{sym, ◌∙◌}
use borrow.Author.Rules.{rules}
use Rattle.typed.proofs.Decimals.{none_taken, one_taken, two_taken, none_behind}
use Rattle.typed.proofs.reader.Reader.take_decimals.Goals as goal

pub returns-then-not-is_at_mark-clause-decimals : goal.returns-then-not-is_at_mark-clause-decimals
returns-then-not-is_at_mark-clause-decimals c =
    let reader = c.args.self.now in none_taken reader.text.now reader.at (sym c.is_at_mark.ensures ∙ c.if-not-is_at_mark.true)

pub returns-in-1-clause-decimals : goal.returns-in-1-clause-decimals
returns-in-1-clause-decimals c =
    let reader = c.args.self.now in
    let digits = rw (c.skip.ensures.at, c.skip.ensures.text) at c.take_digits-decimals.ensures.digits in
    one_taken reader.text.now reader.at _ _ digits (sym c.is_at_mark.ensures ∙ c.if-not-is_at_mark.false) (rw c.skip.ensures.at at c.in-1.is)

pub returns-in-2-clause-decimals : goal.returns-in-2-clause-decimals
returns-in-2-clause-decimals c =
    let reader = c.args.self.now in
    let digits = rw (c.skip.ensures.at, c.skip.ensures.text) at c.take_digits-decimals.ensures.digits in
    two_taken reader.text.now reader.at _ _ digits (sym c.is_at_mark.ensures ∙ c.if-not-is_at_mark.false) (rw c.skip.ensures.at at c.in-2.is)

pub returns-in_default-clause-decimals : goal.returns-in_default-clause-decimals
returns-in_default-clause-decimals c =
    let reader = c.args.self.now in
    let digits = rw (c.skip.ensures.at, c.skip.ensures.text) at c.take_digits-decimals.ensures.digits in
    none_behind reader.text.now reader.at _ _ digits (sym c.is_at_mark.ensures ∙ c.if-not-is_at_mark.false) (search rules) (search rules)
