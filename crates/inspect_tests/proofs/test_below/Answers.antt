use Rattle.std.proofs.Common.{sym, subst, arith}
use Rattle.inspect_tests.specs.Results.{TestedBelow}
use Rattle.inspect_tests.proofs.Tested.{left_out_as, tested_as}
use Rattle.inspect_tests.proofs.test_below.Goals as goal

pub returns-then-lowest-number_in : goal.returns-then-lowest-number_in
returns-then-lowest-number_in c =
    let a = c.args in
    subst (TestedBelow a.rows.now a.keys.now a.count a.rank a.lowest) (sym c.failed.ensures)
    (left_out_as a.rows.now a.keys.now a.count a.rank a.lowest a.lasts.now c.requires.0 c.requires.1 c.requires.2 (omega (arith, c.number_in.ensures)) c.last_above.result c.last_above.ensures)

pub returns : goal.returns
returns c =
    let a = c.args in
    tested_as a.rows.now a.keys.now a.count a.rank a.lowest a.lasts.now c.requires.0 c.requires.1 c.requires.2 (omega (arith, c.number_in.ensures)) c.test_rank.result c.test_rank.ensures
