use mathlib.Core.Path.{sym, ap, ◌∙◌}
use mathlib.Core.List.{List}
use Prim.Native.Nat.{ℕ, ◌%◌}
use native.Mathlib.Nat.{div-one}
use lib.ListN.{get_or}
use Rattle.model.specs.Layouts.{partition_record}
use Rattle.build.specs.Build.{partition_from}
use Rattle.build.proofs.Records.{cut_at}
use Rattle.build.proofs.table.PartitionRecordsRecords.take.Goals as goal

pub returns-clause-thing : goal.returns-clause-thing
returns-clause-thing c = sym (ap partition_from (cut_at c.args.build.now _ (partition_record 1) c.number_at-number.result c.number_at-number.ensures))

pub returns-clause-spare : goal.returns-clause-spare
returns-clause-spare c =
    let cut = cut_at c.args.build.now _ (partition_record 1) c.number_at-number.result c.number_at-number.ensures in
    sym (ap (λ (numbers : List ℕ). get_or numbers 2 0) cut ∙ ap (◌% 8) (div-one c.number_at-number.result))
