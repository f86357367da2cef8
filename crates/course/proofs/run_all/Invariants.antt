use lib.ListN.{length}
use Rattle.course.specs.Course.{Runnable}
use Rattle.course.proofs.Prepared.{Prepared, RanBelow}
use Rattle.course.proofs.run_all.Given as goal

abbrev pub invariant-loop-partition : goal.invariant-loop-partition
invariant-loop-partition l =
    (so : Runnable l.fn.order l.fn.build l.records l.keys l.durations (length l.initial.out))
    → Prepared l.fn.order l.fn.build so.script l.keys l.durations l.homes l.tables.ranks.now l.tables.next.now l.tables.after.now l.oldest l.first l.fn.order.tasks l.fn.build.partitions (length l.initial.out)
    × RanBelow l.fn.order l.fn.build so.script l.partition l.initial.out l.out
