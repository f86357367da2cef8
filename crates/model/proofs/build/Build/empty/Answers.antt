use Rattle.model.proofs.build.Build.empty.Goals as goal

pub returns : goal.returns
returns c = cc
