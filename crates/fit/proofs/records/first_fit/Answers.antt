use Rattle.std.proofs.Common.{◌∙◌}
use Rattle.model.proofs.Rules.{handed_on}
use Rattle.fit.proofs.Built.{recorded_refused, recorded_done}
use Rattle.fit.proofs.records.first_fit.Goals as goal

pub returns-in_err-placing : goal.returns-in_err-placing
returns-in_err-placing c = handed_on c.from_residual.result c.from_residual.ensures.1 ∙ recorded_refused _ _ c.take_turns.ensures.answer _ c.in_err-placing.was

pub records_of-members-requires : goal.records_of-members-requires
records_of-members-requires c =
    let turns = c.take_turns.ensures in
    record { order = c.args.order; placing = c.in_ok-placing.placing; limits = c.requires; all = turns.all _ c.in_ok-placing.was; lines = turns.lines _ c.in_ok-placing.was }

pub returns : goal.returns
returns c =
    let turns = c.take_turns.ensures in
    recorded_done _ _ c.take_turns.ensures.answer _ _ c.in_ok-placing.was
    (c.records_of-members.ensures (record { order = c.args.order; placing = c.in_ok-placing.placing; limits = c.requires; all = turns.all _ c.in_ok-placing.was; lines = turns.lines _ c.in_ok-placing.was }))
