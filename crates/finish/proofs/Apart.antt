-- What is released to other partitions changes no finish tick.
use mathlib.Core.Path.{◌∙◌, ap}
use Rattle.model.specs.declared.build.Release.{Release}
use Rattle.model.specs.Limits.{home_of}
use Rattle.demand.specs.Priority.{members_of}
use Rattle.machine.specs.Step.{State}
use Rattle.machine.specs.Pattern.{record_of, pattern_of}
use Rattle.machine.specs.Box.{box_before}
use Rattle.machine.specs.Claims.{AgreeOn}
use Rattle.machine.proofs.Isolation.{agree_on, state_same}
use Rattle.search.specs.Smallest.{number_found}
use Rattle.search.proofs.Smallest.{smallest_same}
use Rattle.finish.specs.Finish.{used_up, most_tick, finish_found, finish_of}
use Rattle.finish.specs.Claims.{RunsApart}

pub runs_apart : RunsApart
unfolding finish_of finish_found
runs_apart o b p one other same i j equal home =
    let r = record_of one i in
    let agree : AgreeOn (members_of b (home_of b r.task)) (pattern_of one) (pattern_of other) = rw home (agree_on b p one other same) in
    ap number_found
    (smallest_same (λ tick. used_up r.task r.tick (box_before o b (pattern_of one) tick (home_of b r.task)).running)
    (λ tick. used_up r.task r.tick (box_before o b (pattern_of other) tick (home_of b r.task)).running) 0 most_tick
    (λ tick from. ap (λ (s : State). used_up r.task r.tick s.running) (state_same o (members_of b (home_of b r.task)) (pattern_of one) (pattern_of other) agree tick)))
    ∙ ap (λ (x : Release). number_found (finish_found o b (pattern_of other) x.task x.tick)) equal
