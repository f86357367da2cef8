-- A job ends once, and a job that runs is one of a member, which released it.
use Prim.Native.Nat.{ℕ, zero, suc, ◌+◌, ◌-◌, ◌≤◌, ◌<◌}
use mathlib.Core.Bool.{true}
use mathlib.Core.Path.{◌≡◌, ap, subst}
use native.Mathlib.Decide.{dec_lt}
use native.Mathlib.Omega.{arith}
use Rattle.laws.proofs.Sums.{sum_suc}
use Rattle.laws.proofs.Growth.{sum_grows}
use Rattle.laws.proofs.Only.{only_some}
use Rattle.model.specs.declared.order.Order.{Order}
use Rattle.demand.specs.Priority.{Members}
use Rattle.machine.specs.Step.{Pattern, Running, runs, of_members, during_tick, passed, step, state_before, Ends}
use Rattle.machine.proofs.View.{goes_on_lem, begins, rests, waiting_before, running_before, ViewAt, view}
use Rattle.machine.proofs.Line.{released_before, work_of, line_work}
use Rattle.machine.proofs.Work.{serves_task, left_of, serves_itself, left_of_itself, theirs, serves, served_before, RunsInLine, counted}

module _ (o : Order) (member : Members) (releases : Pattern) where
  abbrev running : ℕ → Running
  running = running_before o member releases

  -- what is counted of a job that runs
  pub runs_in_line : (t k a l : ℕ) → running t ≡ runs k a l → RunsInLine o member releases t (runs k a l)
  runs_in_line t k a l e = subst (RunsInLine o member releases t) e (counted o member releases t).run

  -- the work of a task that is pending before a tick
  abbrev pub pending : ℕ → ℕ → ℕ
  pending k t = left_of k (running t) + work_of (waiting_before o member releases t k)

  -- what is released of a task is pending or served
  pub conserved : (k t : ℕ) → pending k t + served_before o member releases k t ≡ released_before (theirs o member releases) k t
  conserved k t = omega (arith, line_work (theirs o member releases) k _ (waiting_before o member releases t k) t ((counted o member releases t).line k))

  -- the job that runs is the one whose work the service of its task has reached
  pub which_job : (t k a b l : ℕ) → running t ≡ runs k b l → released_before (theirs o member releases) k a < served_before o member releases k t
      → served_before o member releases k t ≤ released_before (theirs o member releases) k a + theirs o member releases a k → b ≡ a
  which_job t k a b l e from upto = go (dec_lt a b) (dec_lt b a)
    where
      passes : (x y : ℕ) → x < y → released_before (theirs o member releases) k x + theirs o member releases x k ≤ released_before (theirs o member releases) k y
      passes x y h = omega (arith, sum_suc (λ u. theirs o member releases u k) x, sum_grows (λ u. theirs o member releases u k) (suc x) y h)

      go : Dec (a < b) → Dec (b < a) → b ≡ a
      go (yes p) d = absurd (omega (arith, runs_in_line t k b l e, passes a b p))
      go (no p) (yes q) = absurd (omega (arith, runs_in_line t k b l e, passes b a q))
      go (no p) (no q) = omega arith

  -- a job that runs was released before
  released_before_lem : (t k a l : ℕ) → running t ≡ runs k a l → a < t
  released_before_lem t k a l e = go (dec_lt a t)
    where
      go : Dec (a < t) → a < t
      go (yes p) = p
      go (no p) =
          omega (
            arith,
            runs_in_line t k a l e,
            conserved k t,
            ap (left_of k) e,
            left_of_itself k a l,
            sum_grows (λ u. theirs o member releases u k) t a (omega arith),
          )

  not_again : (k a f g : ℕ) → Ends o member releases k a f → Ends o member releases k a g → f < g → ⊥
  not_again k a f zero e e' h = omega arith
  not_again k a f (suc g) e e' h =
      omega (
        arith,
        runs_in_line f k a 0 e,
        runs_in_line (suc g) k a 0 e',
        sum_grows (serves o member releases k) f g (omega arith),
        sum_suc (serves o member releases k) g,
        ap (serves_task k) e',
        serves_itself k a 0,
      )

  pub ends_once : (k a f g : ℕ) → Ends o member releases k a f → Ends o member releases k a g → f ≡ g
  ends_once k a f g e e' = go (dec_lt f g) (dec_lt g f)
    where
      go : Dec (f < g) → Dec (g < f) → f ≡ g
      go (yes p) d = absurd (not_again k a f g e e' p)
      go (no p) (yes q) = absurd (not_again k a g f e' e q)
      go (no p) (no q) = omega arith

  -- what runs while a tick lasts has one tick less before the next
  pub runs_then : (t k a l : ℕ) → (during_tick o member releases t (state_before o member releases t)).running ≡ runs k a l → running (suc t) ≡ runs k a (l - 1)
  unfolding state_before step passed
  runs_then t k a l e = ap passed e

  -- what runs is a job of one of the tasks
  runs_known : (t k a l : ℕ) → running t ≡ runs k a l → k < o.tasks
  unfolding state_before
  runs_known zero k a l e = let z : ◌≡◌ {A = ℕ} 0 1 = cc in absurd (omega arith)
  runs_known (suc t) k a l e = go (λ (x : ℕ) (p : running t ≡ runs k a x). runs_known t k a x p) (view o member releases t)
    where
      go : ((x : ℕ) → running t ≡ runs k a x → k < o.tasks) → ViewAt o member releases t → k < o.tasks
      go ih (goes_on_lem j b x g g' same) = ih (suc x) (let e' = e in cc)
      go ih (begins j x js over below g g' w' same up) = let e' = e in let s : j ≡ k = cc in rw s at below
      go ih (rests over g' same none) = let e' = e in let z : ◌≡◌ {A = ℕ} 0 1 = cc in absurd (omega arith)

  -- what runs before a tick is a job of a member, which released it before
  pub runs_own : (t k a l : ℕ) → running t ≡ runs k a l → (member k ≡ true) × (k < o.tasks) × (0 < releases a k) × (a < t)
  unfolding of_members
  runs_own t k a l e =
      let r = runs_in_line t k a l e in
      let m = only_some (member k) (releases a k) (omega arith) in
      (m.0, runs_known t k a l e, m.1, released_before_lem t k a l e)
