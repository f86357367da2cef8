use mathlib.Core.Path.{sym}
use Rattle.model.proofs.Rules.{given_done, given_refused}
use Rattle.list.proofs.Rules.{no_digit, number_over, number_passes}
use Rattle.list.proofs.judge_number.Goals as goal

pub returns-then-digits-lt1 : goal.returns-then-digits-lt1
returns-then-digits-lt1 c = let a = c.args in sym (given_refused tt _ (no_digit a.at a.digits a.value c.if-digits-lt1.true))

pub returns-then-value-gt-MOST_LISTED : goal.returns-then-value-gt-MOST_LISTED
returns-then-value-gt-MOST_LISTED c = let a = c.args in sym (given_refused tt _ (number_over a.at a.digits a.value c.if-digits-lt1.false c.if-value-gt-MOST_LISTED.true))

pub returns : goal.returns
returns c = let a = c.args in sym (given_done tt _ (number_passes a.at a.digits a.value c.if-digits-lt1.false c.if-value-gt-MOST_LISTED.false))
