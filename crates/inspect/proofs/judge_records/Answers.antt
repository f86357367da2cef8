use mathlib.Core.Path.{sym, ap, ◌∙◌}
use Rattle.model.specs.Rules.{given}
use Rattle.model.proofs.Rules.{done_pass, given_refused, refused_given, done_given, handed_on}
use Rattle.inspect_members.specs.Rules.{width_rules, rank_rules}
use Rattle.inspect.proofs.Chain.{places_stop, widths_stop, ranks_stop, tests_last}
use Rattle.inspect.proofs.Turn.{homes_few, ranks_passed}
use Rattle.inspect.proofs.judge_records.Goals as goal

pub returns-in_err-judge_places : goal.returns-in_err-judge_places
returns-in_err-judge_places c =
    let placed = refused_given _ _ (sym c.judge_places.ensures ∙ c.in_err-judge_places.was) in
    handed_on _ c.from_residual.ensures.1 ∙ sym (given_refused _ _ (places_stop c.args.order.now c.args.build.now placed))

pub returns-in_err-judge_widths : goal.returns-in_err-judge_widths
returns-in_err-judge_widths c =
    let placed = (done_given _ _ (sym c.judge_places.ensures ∙ c.in_ok-judge_places.was)).1 in
    let narrow = refused_given _ _ (sym c.judge_widths.ensures ∙ c.in_err-judge_widths.was) in
    handed_on _ c.from_residual-in_err-judge_widths.ensures.1 ∙ sym (given_refused _ _ (widths_stop c.args.order.now c.args.build.now placed narrow))

pub line_up-keys-requires : goal.line_up-keys-requires
line_up-keys-requires c =
    let o = c.args.order.now in
    let b = c.args.build.now in
    -- where 25 holds, partitions have small numbers
    (c.requires.limits, homes_few o b c.requires.fields.partitions (done_pass 0 (width_rules o b) (done_given _ _ (sym c.judge_widths.ensures ∙ c.in_ok-judge_widths.was)).1))

pub returns-in_err-judge_ranks : goal.returns-in_err-judge_ranks
returns-in_err-judge_ranks c =
    let placed = (done_given _ _ (sym c.judge_places.ensures ∙ c.in_ok-judge_places.was)).1 in
    let wide = (done_given _ _ (sym c.judge_widths.ensures ∙ c.in_ok-judge_widths.was)).1 in
    let wrong = refused_given _ _ (sym c.judge_ranks.ensures ∙ c.in_err-judge_ranks.was) in
    handed_on _ c.from_residual-in_err-judge_ranks.ensures.1 ∙ sym (given_refused _ _ (ranks_stop c.args.order.now c.args.build.now placed wide wrong))

pub judge_tests-requires : goal.judge_tests-requires
judge_tests-requires c =
    let o = c.args.order.now in
    let b = c.args.build.now in
    (c.requires.limits, c.line_up-keys.ensures, ranks_passed o b (done_pass 0 (rank_rules o b) (done_given _ _ (sym c.judge_ranks.ensures ∙ c.in_ok-judge_ranks.was)).1))

pub returns : goal.returns
returns c =
    let placed = (done_given _ _ (sym c.judge_places.ensures ∙ c.in_ok-judge_places.was)).1 in
    let wide = (done_given _ _ (sym c.judge_widths.ensures ∙ c.in_ok-judge_widths.was)).1 in
    let ranked = (done_given _ _ (sym c.judge_ranks.ensures ∙ c.in_ok-judge_ranks.was)).1 in
    c.judge_tests.ensures ∙ ap (given tt) (sym (tests_last c.args.order.now c.args.build.now placed wide ranked))
