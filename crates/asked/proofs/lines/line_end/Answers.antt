use borrow.Author.Tests.{le-leb, lt-leb, le-ltb, lt-ltb}
use Rattle.asked.specs.Lines.{line_end}
use Rattle.asked.proofs.lines.line_end.Goals as goal

pub returns-then-slope-ge-WHOLE : goal.returns-then-slope-ge-WHOLE
unfolding line_end
returns-then-slope-ge-WHOLE c = simp (le-leb _ _ c.if-slope-ge-WHOLE.true)

pub returns-then-rest-gt2000000000 : goal.returns-then-rest-gt2000000000
unfolding line_end
returns-then-rest-gt2000000000 c = simp (lt-leb _ _ c.if-slope-ge-WHOLE.false, lt-ltb _ _ c.if-rest-gt2000000000.true)

pub returns : goal.returns
unfolding line_end
returns c = simp (lt-leb _ _ c.if-slope-ge-WHOLE.false, le-ltb _ _ c.if-rest-gt2000000000.false)
