use mathlib.Core.Path.{◌≡◌}
use Prim.Native.Nat.{◌≤◌}
use lib.ListN.{get_or}
use Rattle.laws.specs.Joined.{overlaid}
use Rattle.model.specs.Limits.{zero_partition}
use Rattle.sets.specs.Sets.{partition_set}
use Rattle.partition_sets.proofs.put_sets.Given as goal

abbrev pub invariant-loop-i : goal.invariant-loop-i
invariant-loop-i l = (l.i ≤ l.build.partitions) × (l.out ≡ overlaid (λ p. partition_set (get_or l.build.places p zero_partition)) l.i l.initial.out)
