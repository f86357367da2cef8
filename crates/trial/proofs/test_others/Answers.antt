use Rattle.trial.proofs.Trying.{higher_fails, lower_tested}
use Rattle.trial.proofs.test_others.Goals as goal

pub returns-else-test_from : goal.returns-else-test_from
returns-else-test_from c =
    let a = c.args in
    let blocked = c.first_blocked-first in
    let higher = c.test_from in
    rw c.if-test_from.false (higher_fails a.rows.now a.keys.now a.count a.newcomer a.results.now c.requires.0 blocked.result blocked.ensures.0 blocked.ensures.1 higher.result higher.new.results higher.ensures c.if-test_from.false)

pub returns-then-test_from : goal.returns-then-test_from
returns-then-test_from c =
    let a = c.args in
    let blocked = c.first_blocked-first in
    let higher = c.test_from in
    lower_tested a.rows.now a.keys.now a.count a.newcomer a.results.now c.requires.0 blocked.result blocked.ensures.0 blocked.ensures.1 higher.result higher.new.results higher.ensures c.test_from-then-test_from.result c.test_from-then-test_from.new.results c.if-test_from.true c.test_from-then-test_from.ensures
