use borrow.Author.Tests.{eq-eqb, ne_eqb}
use native.Mathlib.Omega.{arith}
use Rattle.list_out.proofs.Parts.{length-single, length_range}
use Rattle.list_out.proofs.item_bytes.Goals as goal

pub returns-then-first-last-clause-counted : goal.returns-then-first-last-clause-counted
returns-then-first-last-clause-counted c =
    let a = c.args in
    omega (arith, c.digits_in-size.ensures.counted, c.digits_in.ensures.counted, length_range a.first a.last (ne_eqb a.first a.last c.if-first-last.true))

pub returns-clause-counted : goal.returns-clause-counted
returns-clause-counted c =
    let a = c.args in
    omega (arith, c.digits_in-size.ensures.counted, length-single a.first a.last (eq-eqb a.first a.last c.if-first-last.false))
