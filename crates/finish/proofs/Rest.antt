-- A partition comes to rest: with a bound on the work, some tick finds it free.
use Prim.Native.Nat.{ℕ, zero, suc, ◌+◌, ◌≤◌, ◌<◌}
use mathlib.Core.Path.{◌≡◌, refl, ap}
use mathlib.Core.Logic.{◌⊎◌, inl, inr, ⊎_elim}
use native.Mathlib.Nat.{add-suc}
use native.Mathlib.Omega.{arith}
use Rattle.laws.specs.Sums.{sum}
use Rattle.laws.proofs.Sums.{sum_suc, sum_le, sum_same, sum_add, sum_in}
use Rattle.laws.proofs.Only.{only_le}
use Rattle.model.specs.declared.order.Order.{Order}
use Rattle.demand.specs.Priority.{Members}
use Rattle.machine.specs.Step.{Pattern, Running, free, runs, of_members}
use Rattle.machine.proofs.View.{running_before}
use Rattle.machine.proofs.Work.{serves_task, serves_itself, theirs, serves, served_before}
use Rattle.machine.proofs.Once.{conserved, runs_own}

module _ (o : Order) (member : Members) (releases : Pattern) where
  -- the work served before a tick, of all tasks
  abbrev served_work : ℕ → ℕ
  served_work t = sum (λ k. served_before o member releases k t) o.tasks

  served_released : (t : ℕ) → served_work t ≤ sum (λ k. sum (λ u. releases u k) t) o.tasks
  unfolding of_members
  served_released t =
      sum_le (λ k. served_before o member releases k t) (λ k. sum (λ u. releases u k) t) o.tasks
      (λ k l. omega (arith, conserved o member releases k t, sum_le (λ u. theirs o member releases u k) (λ u. releases u k) t (λ u m. only_le (member k) (releases u k))))

  -- a tick with a job running serves
  served_one : (t k a l : ℕ) → running_before o member releases (suc t) ≡ runs k a l → served_work t + 1 ≤ served_work (suc t)
  served_one t k a l e =
      omega (
        arith,
        sum_same (λ k. served_before o member releases k (suc t)) (λ k. served_before o member releases k t + serves o member releases k t) o.tasks (λ k m. sum_suc (serves o member releases k) t),
        sum_add (λ k. served_before o member releases k t) (λ k. serves o member releases k t) o.tasks,
        sum_in (λ k. serves o member releases k t) o.tasks k (runs_own o member releases (suc t) k a l e).1,
        ap (serves_task k) e,
        serves_itself k a l,
      )

  abbrev RestsBy : ℕ → ℕ → Type 0
  RestsBy from d = (u : ℕ) × (from < u) × (u ≤ from + d) × (running_before o member releases u ≡ free)

  rests_or_serves : (from d : ℕ) → RestsBy from d ⊎ (d ≤ served_work (from + d))
  rests_or_serves from zero = inr (omega arith)
  rests_or_serves from (suc d) = ⊎_elim (λ r. inl (r.0, r.1, omega (arith, r.2), r.3)) (λ h. go h (running_before o member releases (suc (from + d))) refl) (rests_or_serves from d)
    where
      go : d ≤ served_work (from + d) → (r : Running) → running_before o member releases (suc (from + d)) ≡ r → RestsBy from (suc d) ⊎ (suc d ≤ served_work (from + suc d))
      go h free e = inl (suc (from + d), omega arith, omega arith, e)
      go h (runs k a l) e = inr (rw add-suc (omega (arith, served_one (from + d) k a l e)))

  -- with at most so much work, the partition is free at a tick soon after any other
  pub rests : (work from : ℕ) → sum (λ k. sum (λ u. releases u k) (from + suc work)) o.tasks ≤ work → RestsBy from (suc work)
  rests work from most = ⊎_elim (λ r. r) (λ h. absurd (omega (arith, served_released (from + suc work)))) (rests_or_serves from (suc work))
