use Rattle.model.specs.Processors.{volume_of}
use Rattle.sets.specs.Sets.{partition_set}
use Rattle.sets.proofs.partition_set.Goals as goal

pub span-requires : goal.span-requires
unfolding volume_of
span-requires c = c.requires

pub returns : goal.returns
unfolding partition_set volume_of
returns c = c.span.ensures
