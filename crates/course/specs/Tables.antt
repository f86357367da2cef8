-- What the tables of a run stand for, as its steps ask it.
use Rattle.std.specs.Prelude.{ℕ}
use Rattle.stepper.specs.declared.Machine.{Machine}
use Rattle.course.specs.declared.turns.Tables.{Tables}
use Rattle.course.specs.Ahead.{Gathers}
use Rattle.course.specs.Course.{Turns, Begins}

abbrev pub GathersIn : Tables → (from until : ℕ) → Type 0
GathersIn t from until = Gathers t.keys.now t.ranks.now t.after.now from until

abbrev pub TurnsIn : Tables → Machine → Type 0
TurnsIn t m = Turns m t.keys.now t.durations.now t.ranks.now t.next.now t.after.now

abbrev pub BeginsIn : Tables → Machine → (places : ℕ) → Type 0
BeginsIn t m places = Begins m t.keys.now t.durations.now t.ranks.now t.next.now t.after.now places
