use Rattle.course.specs.Course.{goes_on}
use borrow.Author.Tests.{lt-ltb, le-ltb}
use Rattle.course.proofs.turns.goes_on.Goals as goal

pub returns-then-m-lt-NO_RECORD : goal.returns-then-m-lt-NO_RECORD
unfolding goes_on
returns-then-m-lt-NO_RECORD c = rw (lt-ltb c.args.m.job 1024 c.if-m-lt-NO_RECORD.true)

pub returns-else-m-lt-NO_RECORD : goal.returns-else-m-lt-NO_RECORD
unfolding goes_on
returns-else-m-lt-NO_RECORD c = rw (le-ltb c.args.m.job 1024 c.if-m-lt-NO_RECORD.false)
