use Prim.Native.Nat.{◌-◌}
use Rattle.course.specs.Tables.{GathersIn}
use Rattle.course.proofs.Gathering.{GatheredTo}
use Rattle.course.proofs.turns.Tables.gather.Given as goal

abbrev pub invariant-loop-i : goal.invariant-loop-i
invariant-loop-i l = (so : GathersIn l.self l.from l.tick) → GatheredTo so.build so.script so.partition l.from l.tick l.ahead l.set

abbrev pub decreases-loop-i : goal.decreases-loop-i
decreases-loop-i l = 1024 - l.ahead
