-- A job that starts in time ends in time: it runs unbroken for its own length.
use Prim.Native.Nat.{ℕ, suc, ◌+◌, ◌≤◌, ◌<◌}
use mathlib.Core.Path.{◌≡◌, ap, ◌∙◌}
use native.Mathlib.Omega.{arith}
use Rattle.laws.proofs.Sums.{sum_suc}
use Rattle.model.specs.declared.order.Order.{Order}
use Rattle.demand.specs.Priority.{Members}
use Rattle.machine.specs.Step.{Pattern, runs, Ends}
use Rattle.machine.proofs.View.{running_before}
use Rattle.machine.proofs.Line.{released_before}
use Rattle.machine.proofs.Work.{serves_own, theirs, serves, served_before, RunsInLine}
use Rattle.machine.proofs.Once.{runs_in_line, which_job}
use Rattle.machine.proofs.Quiet.{runs_unbroken}
use Rattle.busy.specs.Window.{StartsInTime}

module _ (o : Order) (member : Members) (releases : Pattern) (i a : ℕ) (job : 0 < theirs o member releases a i) where
  -- what is served when just the earlier jobs of i have been served is the job released at a, and it runs on to its end
  pub ends_from : (start : ℕ) → served_before o member releases i start ≡ released_before (theirs o member releases) i a → serves o member releases i start ≡ 1
      → Ends o member releases i a (start + theirs o member releases a i)
  ends_from start next_in_line served = go (serves_own i (running_before o member releases (suc start)) served)
    where
      go : (b : ℕ) × (l : ℕ) × (running_before o member releases (suc start) ≡ runs i b l) → Ends o member releases i a (start + theirs o member releases a i)
      go (b, l, e) =
          let now : served_before o member releases i (suc start) ≡ released_before (theirs o member releases) i a + 1 =
          omega (arith, sum_suc (serves o member releases i) start, next_in_line, served) in
          let same = which_job o member releases (suc start) i a b l e (omega arith) (omega arith) in
          let mine = e ∙ ap (λ (x : ℕ). runs i x l) same in
          let counts : RunsInLine o member releases (suc start) (runs i a l) = runs_in_line o member releases (suc start) i a l mine in
          let length-is : start + theirs o member releases a i ≡ suc start + l = omega (arith, counts.0) in
          rw length-is (runs_unbroken o member releases (suc start) l i a l mine (omega arith) ∙ ap (runs i a) (omega arith))

  pub ends_in_time : {cost response : ℕ} {base : ℕ → ℕ} → theirs o member releases a i ≤ cost → StartsInTime i cost response (theirs o member releases) (serves o member releases) base a
      → (f : ℕ) × (a < f) × (f ≤ base a + response) × Ends o member releases i a f
  ends_in_time short s =
      (s.start + theirs o member releases a i, omega (arith, s.not_before), omega (arith, s.in_time_lem), ends_from s.start s.next_in_line s.served)
