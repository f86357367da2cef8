-- 20 to 23: each test tells what its rule says.
use mathlib.Core.List.{List}
use Prim.Native.Nat.{ℕ}
use lib.Dec.{eqb}
use borrow.Author.Tests.{eq-eqb, eqb-true}
use Rattle.laws.proofs.Choice.{both, within_true, true_within}
use Rattle.laws.proofs.Every.{and_both, both_and, every_at, every_all}
use Rattle.model.specs.declared.order.Order.{Order}
use Rattle.model.specs.Rules.{TestsTell, Tells}
use Rattle.model.proofs.Rules.{equal_tells, at_most_tells}
use Rattle.build.specs.declared.BuildHeader.{BuildHeader}
use Rattle.build.specs.Build.{partition_spare_at, member_spare_at}
use Rattle.build.specs.Taken.{partitions_clear, members_clear}
use Rattle.inspect_layout.specs.Rules.{header_matches, matching, clear, build_layout_rules}

-- 21
pub matching_tells : (o : Order) (header : BuildHeader) → Tells (matching o header)
unfolding header_matches
matching_tells o header = (
  λ e.
      let version = both (eqb header.version 1) _ e in
      let processors = both (eqb header.processors o.processors) _ version.1 in
      let tasks = both (eqb header.tasks o.tasks) _ processors.1 in
      record {
        version = eqb-true _ _ version.0;
        processors = eqb-true _ _ processors.0;
        tasks = eqb-true _ _ tasks.0;
        partitions = within_true _ _ _ tasks.1;
      },
  λ m. rw (eq-eqb _ _ m.version, eq-eqb _ _ m.processors, eq-eqb _ _ m.tasks) (true_within _ _ _ m.partitions.0 m.partitions.1),
)

-- 23
clear_tells : (s : List ℕ) (partitions tasks : ℕ) → Tells (clear s partitions tasks)
unfolding partitions_clear members_clear
clear_tells s partitions tasks = (
  λ e.
      let each = and_both _ _ e in
      record {
        partition_spares = λ p l. eqb-true _ _ (every_at (λ x. eqb (partition_spare_at s x) 0) partitions each.0 p l);
        task_spares = λ i l. eqb-true _ _ (every_at (λ x. eqb (member_spare_at s partitions x) 0) tasks each.1 i l);
      },
  λ z.
      both_and _ _
      (every_all (λ x. eqb (partition_spare_at s x) 0) partitions (λ p l. eq-eqb _ _ (z.partition_spares p l)))
      (every_all (λ x. eqb (member_spare_at s partitions x) 0) tasks (λ i l. eq-eqb _ _ (z.task_spares i l))),
)

pub layout_tells : (o : Order) (s : List ℕ) → TestsTell (build_layout_rules o s)
unfolding build_layout_rules TestsTell
layout_tells o s = search (at_most_tells, equal_tells, matching_tells, clear_tells)
