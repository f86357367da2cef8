-- A job that was released before a tick at which its partition is free has ended by then.
use Prim.Native.Nat.{ℕ, suc, ◌+◌, ◌-◌, ◌≤◌, ◌<◌}
use mathlib.Core.Path.{◌≡◌, ◌∙◌, ap}
use native.Mathlib.Omega.{arith}
use Rattle.laws.proofs.Sums.{sum_suc}
use Rattle.laws.proofs.Growth.{sum_grows, sum_crosses}
use Rattle.model.specs.declared.order.Order.{Order}
use Rattle.demand.specs.Priority.{Members}
use Rattle.machine.specs.Step.{Pattern, free, runs, Ends}
use Rattle.machine.proofs.View.{running_before}
use Rattle.machine.proofs.Line.{released_before, work_of, work_none}
use Rattle.machine.proofs.Work.{left_of, serves_once, serves_own, theirs, serves, served_before}
use Rattle.machine.proofs.Once.{runs_in_line, conserved, which_job}
use Rattle.machine.proofs.Quiet.{at_rest}

module _ (o : Order) (member : Members) (releases : Pattern) where
  abbrev Released : ℕ → ℕ → ℕ
  Released = released_before (theirs o member releases)

  -- all that a task released is served where nothing runs
  all_served : (t k : ℕ) → k < o.tasks → running_before o member releases t ≡ free → served_before o member releases k t ≡ Released k t
  all_served t k known rest =
      omega (
        arith,
        conserved o member releases k t,
        ap (left_of k) rest,
        ap work_of (at_rest o member releases t rest k known),
        work_none,
      )

  -- the tick that serves the last of a job's length ends it
  ends_then : (s k a : ℕ) → 0 < theirs o member releases a k → served_before o member releases k s + 1 ≡ Released k a + theirs o member releases a k
      → serves o member releases k s ≡ 1 → Ends o member releases k a (suc s)
  ends_then s k a some count one = go (serves_own k (running_before o member releases (suc s)) one)
    where
      served : served_before o member releases k (suc s) ≡ Released k a + theirs o member releases a k
      served = omega (arith, sum_suc (serves o member releases k) s)

      go : (b : ℕ) × (l : ℕ) × (running_before o member releases (suc s) ≡ runs k b l) → Ends o member releases k a (suc s)
      go (b, l, e) =
          let mine = e ∙ ap (λ (x : ℕ). runs k x l) (which_job o member releases (suc s) k a b l e (omega (arith, served)) (omega (arith, served))) in
          mine ∙ ap (runs k a) (omega (arith, runs_in_line o member releases (suc s) k a l mine, served))

  pub ended_by : (t k a : ℕ) → k < o.tasks → running_before o member releases t ≡ free → a < t → 0 < theirs o member releases a k
      → (f : ℕ) × (f ≤ t) × Ends o member releases k a f
  ended_by t k a known rest before some =
      let c = Released k a + theirs o member releases a k - 1 in
      let enough : c < served_before o member releases k t =
      omega (arith, all_served t k known rest, sum_suc (λ u. theirs o member releases u k) a, sum_grows (λ u. theirs o member releases u k) (suc a) t before) in
      let x = sum_crosses (serves o member releases k) (λ u. serves_once k (running_before o member releases (suc u))) t c enough in
      (suc x.0, x.1, ends_then x.0 k a some (omega (arith, x.2)) x.3)
