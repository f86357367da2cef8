use Prim.Native.Nat.{◌-◌}
use lib.ListN.{length}
use Rattle.course.specs.Course.{Courses}
use Rattle.course.specs.Tables.{BeginsIn}
use Rattle.course.proofs.Done.{NotedSo}
use Rattle.course.proofs.turns.Tables.run.Given as goal

abbrev pub invariant-loop-m : goal.invariant-loop-m
invariant-loop-m l = ((so : BeginsIn l.self l.initial.m (length l.initial.out)) → Courses so.turns.order so.turns.build so.turns.script so.turns.partition l.m × NotedSo so.turns.order so.turns.build so.turns.script so.turns.partition l.m l.initial.out l.out)

abbrev pub decreases-loop-m : goal.decreases-loop-m
decreases-loop-m l = 1_074_790_402 - l.m.tick
