use Rattle.form.specs.Written.{numeral}
use Rattle.put.proofs.Output.put_numeral.Goals as goal

pub put_digits-requires : goal.put_digits-requires
unfolding numeral
put_digits-requires c = rw c.digits_in.ensures.counted c.requires

pub returns-clause-put : goal.returns-clause-put
unfolding numeral
returns-clause-put c = rw c.digits_in.ensures.counted at c.put_digits.ensures.put
