use mathlib.Core.Path.{◌∙◌}
use Rattle.model.proofs.Rules.{handed_on}
use Rattle.inspect.proofs.Answers.{layout_refused, fields_right, records_refused, records_done}
use Rattle.inspect.proofs.check_build.Goals as goal

pub returns-in_err-read : goal.returns-in_err-read
returns-in_err-read c = handed_on _ c.from_residual.ensures.1 ∙ layout_refused c.args.order c.args.build.now c.judge_layout.ensures c.in_err-read.was

pub judge_records-requires-clause-fields : goal.judge_records-requires-clause-fields
judge_records-requires-clause-fields c = fields_right c.args.order c.args.build.now c.judge_layout.ensures c.in_ok-read.was c.requires

pub returns-in_err-judge_records : goal.returns-in_err-judge_records
returns-in_err-judge_records c =
    handed_on _ c.from_residual-in_err-judge_records.ensures.1 ∙ records_refused c.args.order c.args.build.now c.judge_layout.ensures c.in_ok-read.was c.judge_records.ensures c.in_err-judge_records.was

pub returns : goal.returns
returns c =
    records_done c.args.order c.args.build.now c.judge_layout.ensures c.in_ok-read.was c.judge_records.ensures c.in_ok-judge_records.was
