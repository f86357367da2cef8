use Prim.Native.Nat.{◌%◌, ◌<◌}
use mathlib.Core.Path.{◌≡◌, sym, ◌∙◌}
use native.Mathlib.Omega.{arith}
use Rattle.laws.specs.Joined.{joined}
use Rattle.model.proofs.Rules.{scan_stop, any_count, pass_done, given_done, given_refused, refused_given, done_given, handed_on, never}
use Rattle.script.specs.Script.{release_rules}
use Rattle.script.proofs.Records.{period_few}
use Rattle.script.proofs.Keys.{key_small}
use Rattle.script.proofs.Scan.{judged_none, judged_told, judged_more}
use Rattle.script.proofs.judge_records.Goals as goal

pub loop-i-init : goal.loop-i-init
loop-i-init c = judged_none _ _ _ _ c.requires.key_places c.requires.duration_places

pub returns-in_err-judge_release : goal.returns-in_err-judge_release
returns-in_err-judge_release c =
    let a = c.args in
    let l = c.loop-i in
    let s = a.script.now in
    let taken = c.take_release-taken in
    let rules = release_rules a.order s in
    -- the judgement is that of the record's rules
    let judged = c.judge_release.ensures a.order s (judged_told a.order s l.i l.earliest l.least l.keys l.durations l.invariant taken.result taken.ensures) in
    let here = refused_given tt _ (sym judged ∙ c.in_err-judge_release.was) in
    let stopped = scan_stop rules a.records a.records l.i _ c.loop-i-test.true l.invariant.passes (any_count 0 a.records (rules l.i) _ here) in
    let answers = handed_on c.from_residual.result c.from_residual.ensures.1 ∙ sym (given_refused tt _ stopped) in
    record { answers = answers; holds = λ e. never (sym stopped ∙ (done_given tt _ (sym answers ∙ e)).1) }

pub overflow_add-earliest : goal.overflow_add-earliest
overflow_add-earliest c =
    let key = c.take_release-taken.result.key in
    let few : key < 33_554_432 = omega (arith, c.take_release-taken.ensures.key_is, key_small c.args.script.now c.loop-i.i) in
    record { fits = omega (arith, period_few c.args.order c.requires.limits (key % 32)) }

pub overflow_add-least : goal.overflow_add-least
overflow_add-least c = record { fits = omega (arith, c.take_release-taken.ensures.key_is, key_small c.args.script.now c.loop-i.i) }

pub loop-i-preserved : goal.loop-i-preserved
loop-i-preserved c =
    let l = c.loop-i in
    let o = c.args.order in
    let s = c.args.script.now in
    let taken = c.take_release-taken in
    let judged = c.judge_release.ensures o s (judged_told o s l.i l.earliest l.least l.keys l.durations l.invariant taken.result taken.ensures) in
    let right = done_given tt _ (sym judged ∙ c.in_ok-judge_release.was) in
    judged_more o s l.i l.earliest l.least l.keys l.durations l.invariant taken.result taken.ensures (omega arith) right.1

pub returns : goal.returns
returns c =
    let a = c.args in
    let l = c.loop-i in
    let all : l.i ≡ a.records = omega arith in
    let rules = joined (release_rules a.order a.script.now) in
    record {
      answers = sym (given_done tt _ (pass_done a.records (rules a.records) (rw all at l.invariant.passes)));
      holds = λ e. rw all at l.invariant.held;
    }
