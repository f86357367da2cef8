-- The claims about the box, from the laws of one partition's machine.
use Prim.Native.Nat.{ℕ, suc, ◌-◌}
use mathlib.Core.Path.{◌≡◌, refl, sym, ap, ◌∙◌, subst}
use native.Mathlib.Omega.{arith}
use Rattle.model.specs.Limits.{home_of}
use Rattle.model.specs.Processors.{processor_of, AmongLowest}
use Rattle.demand.specs.Priority.{members_of}
use Rattle.machine.specs.Step.{runs, ended}
use Rattle.machine.specs.Box.{box_during, Finishes}
use Rattle.machine.specs.Claims.{FinishesOnce, FreeAtFinish, RunsOwnJobs, ServesOne, OccupiesOwn, OccupiesWidth}
use Rattle.machine.proofs.Once.{ends_once, runs_then, runs_own}
use Rattle.machine.proofs.Isolation.{member_home}

pub finishes_once : FinishesOnce
unfolding Finishes
finishes_once o b releases task release f g = ends_once o (members_of b (home_of b task)) releases task release f g

pub free_at_finish : FreeAtFinish
unfolding Finishes ended
free_at_finish o b releases task release finish ends = ap ended ends

pub runs_own_jobs : RunsOwnJobs
runs_own_jobs o b releases tick task release r =
    let e = runs_then o (members_of b r.partition) releases tick task release r.left r.running in
    let x = runs_own o (members_of b r.partition) releases (suc tick) task release (r.left - 1) e in
    record { its_partition = member_home b r.partition task x.0; known = x.1; was_released = x.2; by_then = omega (arith, x.3) }

pub occupies_own : OccupiesOwn
unfolding AmongLowest
occupies_own o b wide task x known (k, below, at) = (k, omega (arith, wide.wide task known), at)

pub serves_one : ServesOne
serves_one o b wide releases tick x task release task' release' s s' =
    let own = runs_own_jobs o b releases tick task release s.runs_then in
    let own' = runs_own_jobs o b releases tick task' release' s'.runs_then in
    let p = wide.apart task task' x own.known own'.known
    (occupies_own o b wide task x own.known s.on) (occupies_own o b wide task' x own'.known s'.on) in
    let q : s.runs_then.partition ≡ s'.runs_then.partition = sym own.its_partition ∙ (p ∙ own'.its_partition) in
    let e = subst (λ (y : ℕ). (box_during o b releases tick y).running ≡ runs task release s.runs_then.left) q s.runs_then.running in
    let e' = s'.runs_then.running in
    ((cc), cc)

pub occupies_width : OccupiesWidth
unfolding AmongLowest processor_of
occupies_width o b task k below = ((k, below, refl), λ l inside e. omega arith)
