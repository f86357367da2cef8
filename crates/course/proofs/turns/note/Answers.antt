use Rattle.course.specs.Course.{noted}
use borrow.Author.Tests.{lt-ltb, le-ltb}
use Rattle.course.proofs.turns.note.Goals as goal

pub bounds-out-m : goal.bounds-out-m
bounds-out-m c = c.requires.1 c.if-m-lt-NO_RECORD.true

pub returns-then-m-lt-NO_RECORD : goal.returns-then-m-lt-NO_RECORD
unfolding noted
returns-then-m-lt-NO_RECORD c = rw (lt-ltb c.args.m.job 1024 c.if-m-lt-NO_RECORD.true)

pub returns-else-m-lt-NO_RECORD : goal.returns-else-m-lt-NO_RECORD
unfolding noted
returns-else-m-lt-NO_RECORD c = rw (le-ltb c.args.m.job 1024 c.if-m-lt-NO_RECORD.false)
