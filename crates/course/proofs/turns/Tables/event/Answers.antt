use Rattle.course.specs.Course.{goes_on, event_of}
use Prim.Native.Nat.{◌≤◌, ◌<◌}
use mathlib.Core.Path.{◌≡◌}
use mathlib.Core.Bool.{true}
use borrow.Author.Tests.{ltb-true}
use Rattle.stepper.specs.declared.Machine.{Machine}
use borrow.Author.Tests.{lt-ltb, le-ltb}
use native.Mathlib.Omega.{arith}
use Rattle.course.proofs.turns.Tables.event.Goals as goal

ahead-few : (m : Machine) → 1024 ≤ m.job → goes_on m ≡ true → m.ahead < 1024
unfolding goes_on
ahead-few m free on = ltb-true m.ahead 1024 (rw (le-ltb m.job 1024 free) at on)

pub offset_bounds-self-m : goal.offset_bounds-self-m
offset_bounds-self-m c = record { fits = omega (arith, ahead-few c.args.m c.if-m-lt-NO_RECORD.false c.requires.1) }

pub bounds-self-m : goal.bounds-self-m
bounds-self-m c = ahead-few c.args.m c.if-m-lt-NO_RECORD.false c.requires.1

pub returns-then-m-lt-NO_RECORD : goal.returns-then-m-lt-NO_RECORD
unfolding event_of
returns-then-m-lt-NO_RECORD c = rw (lt-ltb c.args.m.job 1024 c.if-m-lt-NO_RECORD.true)

pub returns-else-m-lt-NO_RECORD : goal.returns-else-m-lt-NO_RECORD
unfolding event_of
returns-else-m-lt-NO_RECORD c = rw (le-ltb c.args.m.job 1024 c.if-m-lt-NO_RECORD.false)
