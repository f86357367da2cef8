use mathlib.Core.Path.{sym, ◌∙◌}
use Prim.Native.Nat.{◌/◌, ◌≤◌}
use native.Mathlib.Omega.{arith}
use borrow.Author.Tests.{le-leb, lt-leb}
use lib.ListN.{length}
use Rattle.laws.specs.Joined.{joined}
use Rattle.model.proofs.Rules.{refused_given, done_given, pass_done, done_pass, handed_on}
use Rattle.script.specs.Script.{release_rules, records_in}
use Rattle.script.proofs.Rules.{not_whole, too_few_places, on_to_records, whole_few}
use Rattle.script.proofs.Held.{refused, held_all}
use Rattle.script.proofs.judge_script.Goals as goal

pub returns-then-not-whole : goal.returns-then-not-whole
returns-then-not-whole c =
    let a = c.args in
    refused (not_whole _ a.order a.script.now a.places (sym c.whole_records-whole.ensures ∙ c.if-not-whole.true))

pub returns-then-not-room : goal.returns-then-not-room
unfolding records_in
returns-then-not-room c =
    let a = c.args in
    refused (too_few_places _ a.order a.script.now a.places (sym c.whole_records-whole.ensures ∙ c.if-not-whole.false) (lt-leb _ _ c.if-not-room.true))

-- whole records with room for each: the rest is for the records to say
pub returns-in_err-judge_records : goal.returns-in_err-judge_records
unfolding records_in
returns-in_err-judge_records c =
    let a = c.args in
    let s = a.script.now in
    let on = on_to_records (records_in s) a.order s a.places (sym c.whole_records-whole.ensures ∙ c.if-not-whole.false) (le-leb _ _ c.if-not-room.false) in
    let here = refused_given tt _ (sym c.judge_records.ensures.answers ∙ c.in_err-judge_records.was) in
    rw (handed_on c.from_residual.result c.from_residual.ensures.1) (refused (on ∙ here))

pub returns : goal.returns
unfolding records_in
returns c =
    let a = c.args in
    let s = a.script.now in
    let whole = sym c.whole_records-whole.ensures ∙ c.if-not-whole.false in
    let few : length s / 6 ≤ 1024 = omega (arith, whole_few s whole) in
    let on = on_to_records (records_in s) a.order s a.places whole (le-leb _ _ c.if-not-room.false) in
    let rules = joined (release_rules a.order s) (records_in s) in
    let done = done_given tt _ (sym c.judge_records.ensures.answers ∙ c.in_ok-judge_records.was) in
    record {
      answer_is = sym (on ∙ pass_done (records_in s) rules (done_pass (records_in s) rules done.1));
      numbers_held = λ count d. held_all s _ _ few (c.judge_records.ensures.holds c.in_ok-judge_records.was);
    }
