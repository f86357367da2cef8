use Rattle.build_out.proofs.Numbers.{partition_number}
use Rattle.build_out.proofs.PartitionRecordRecord.put.Goals as goal

pub returns : goal.returns
returns c = cc (partition_number c.args.place)
