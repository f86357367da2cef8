use mathlib.Core.Path.{refl}
use Rattle.model.proofs.Rules.{handed_on}
use Rattle.run.proofs.Script.{ran_none, runnable, ran_all}
use Rattle.run.proofs.run_checked.Goals as goal

pub judge_script-requires : goal.judge_script-requires
judge_script-requires c = record { limits = c.requires.limits; key_places = refl; duration_places = refl }

pub returns-in_err-count : goal.returns-in_err-count
returns-in_err-count c =
    let a = c.args in
    rw (handed_on _ c.from_residual.ensures.1) (ran_none a.order a.build a.script.now a.out.now _ _ c.judge_script.ensures c.in_err-count.was)

pub run_all-requires : goal.run_all-requires
run_all-requires c =
    let a = c.args in
    runnable a.order a.build a.script.now a.out.now _ _ c.judge_script.ensures c.requires c.in_ok-count.was

pub returns : goal.returns
returns c =
    let a = c.args in
    let judged = c.judge_script.ensures in
    let done = c.in_ok-count.was in
    ran_all a.order a.build a.script.now a.out.now _ _ judged c.requires done
    (c.run_all.ensures (runnable a.order a.build a.script.now a.out.now _ _ judged c.requires done))
