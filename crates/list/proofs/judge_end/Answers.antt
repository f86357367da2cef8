use mathlib.Core.Path.{sym, ◌∙◌}
use Rattle.model.proofs.Rules.{given_done, given_refused}
use Rattle.list.proofs.Taken.{end_past, end_comma, end_other}
use Rattle.list.proofs.judge_end.Goals as goal

pub returns-in_default : goal.returns-in_default
returns-in_default c = let reader = c.args.reader.now in sym (given_done tt _ (end_past reader.text.now reader.at c.in_default.ensures.lookup.3))

pub returns-then-byte-eq44 : goal.returns-then-byte-eq44
returns-then-byte-eq44 c =
    let reader = c.args.reader.now in
    let byte = c.in-Some.ensures.lookup.3 in
    sym (given_done tt _ (end_comma reader.text.now reader.at byte.0 (sym (byte.1 0) ∙ c.if-byte-eq44.true)))

pub returns : goal.returns
returns c =
    let reader = c.args.reader.now in
    let byte = c.in-Some.ensures.lookup.3 in
    sym (given_refused tt _ (end_other reader.text.now reader.at byte.0 (λ comma. c.if-byte-eq44.false (byte.1 0 ∙ comma))))
