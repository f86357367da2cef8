use Rattle.placing.proofs.Seeking.{Sought}
use Rattle.placing.proofs.TaskLine.lowest_accepting.Given as goal

abbrev pub invariant-loop-partition : goal.invariant-loop-partition
invariant-loop-partition l = Sought l.table l.initial.self l.task l.self l.first l.partition
