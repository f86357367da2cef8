use Rattle.model.proofs.order.Order.empty.Goals as goal

pub returns : goal.returns
returns c = cc
