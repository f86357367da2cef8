-- Ticks in which nothing can happen, the machine at rest, and a job that runs on.
use Prim.Native.Nat.{ℕ, zero, suc, ◌+◌, ◌-◌, ◌<◌}
use mathlib.Core.Path.{◌≡◌, refl, sym, ◌∙◌, ap, subst, fun_ext}
use mathlib.Core.Bool.{true}
use mathlib.Core.List.{[], append-nil}
use native.Mathlib.Nat.{add-suc, add-zero}
use native.Mathlib.Omega.{arith}
use Rattle.laws.proofs.Only.{only_none, only_same}
use Rattle.model.specs.declared.order.Order.{Order}
use Rattle.demand.specs.Priority.{Members}
use Rattle.machine.specs.Step.{Pattern, Waiting, Running, free, runs, State, ended, released, joining, passed, lowered, starts, starts_if_free, of_members, during_tick, step, state_before}
use Rattle.machine.specs.Claims.{Lasts, quietly, QuietTicks, RunsUnbroken}
use Rattle.machine.proofs.Highest.{none_chosen}
use Rattle.machine.proofs.View.{goes_on_lem, begins, rests, waiting_before, running_before, ViewAt, view}

module _ (o : Order) (member : Members) (releases : Pattern) where
  abbrev running : ℕ → Running
  running = running_before o member releases

  -- where nothing runs nothing waits
  pub at_rest : (t : ℕ) → running t ≡ free → (m : ℕ) → m < o.tasks → waiting_before o member releases t m ≡ []
  unfolding state_before
  at_rest zero e m h = refl
  at_rest (suc t) e m h = go (view o member releases t)
    where
      go : ViewAt o member releases t → waiting_before o member releases (suc t) m ≡ []
      go (goes_on_lem k a l g g' same) = let e' = e in let z : ◌≡◌ {A = ℕ} 0 1 = cc in absurd (omega arith)
      go (begins k j js over below g g' w' same up) = let e' = e in let z : ◌≡◌ {A = ℕ} 0 1 = cc in absurd (omega arith)
      go (rests over g' same none) = same m ∙ none m h

  -- a job with time left runs on
  runs_on : (t k a l : ℕ) (s : State) → s.running ≡ runs k a (suc l) → (step o member releases t s).running ≡ runs k a l
  unfolding step during_tick starts_if_free ended passed
  runs_on t k a l s e = rw e (ap (runs k a) (omega arith))

  -- a tick without a release to the members
  abbrev Quiet : ℕ → Type 0
  Quiet t = (m : ℕ) → member m ≡ true → releases t m ≡ 0

  none_joins : (t : ℕ) → Quiet t → (waiting : Waiting) → joining (of_members o member releases) t waiting ≡ waiting
  unfolding joining released of_members
  none_joins t z waiting = fun_ext same
    where
      same : (m : ℕ) → joining (of_members o member releases) t waiting m ≡ waiting m
      same m = rw (only_same (member m) (releases t m) 0 (z m), only_none) (append-nil (waiting m))

  quiet_one : (t : ℕ) → Quiet t → Lasts 1 (running t) → state_before o member releases (suc t) ≡ quietly 1 (state_before o member releases t)
  unfolding state_before step during_tick starts_if_free starts ended passed lowered Lasts
  quiet_one t z = go (running t) refl
    where
      go : (r : Running) → running t ≡ r → Lasts 1 r → state_before o member releases (suc t) ≡ quietly 1 (state_before o member releases t)
      go free e h = rw (none_joins t z (waiting_before o member releases t), e, none_chosen o (waiting_before o member releases t) o.tasks (at_rest t e))
      go (runs k a zero) e h = absurd (omega arith)
      go (runs k a (suc l)) e h = rw (none_joins t z (waiting_before o member releases t), e)

-- "It runs unbroken": a job that runs runs on until its time is used up, whatever is released
pub runs_unbroken : RunsUnbroken
unfolding state_before
runs_unbroken o member releases t zero k a l e h = rw add-zero (e ∙ ap (runs k a) (omega arith))
runs_unbroken o member releases t (suc d) k a l e h =
    rw add-suc (runs_on o member releases (t + d) k a (l - suc d) (state_before o member releases (t + d)) (runs_unbroken o member releases t d k a l e (omega arith) ∙ ap (runs k a) (omega arith)))

-- as many ticks less left, tick by tick
lowered_none : (r : Running) → lowered 0 r ≡ r
unfolding lowered
lowered_none free = refl
lowered_none (runs k a l) = ap (runs k a) (omega arith)

lowered_one : (d : ℕ) (r : Running) → lowered 1 (lowered d r) ≡ lowered (suc d) r
unfolding lowered
lowered_one d free = refl
lowered_one d (runs k a l) = ap (runs k a) (omega arith)

lasts_one : (d : ℕ) (r : Running) → Lasts (suc d) r → Lasts d r × Lasts 1 (lowered d r)
unfolding Lasts lowered
lasts_one d free h = (tt, tt)
lasts_one d (runs k a l) h = (omega arith, omega arith)

pub quiet_ticks : QuietTicks
unfolding state_before
quiet_ticks o member releases t zero z h = rw (add-zero, lowered_none)
quiet_ticks o member releases t (suc d) z h =
    let s = state_before o member releases t in
    let l = lasts_one d s.running h in
    let ih = quiet_ticks o member releases t d (λ u m g g'. z u m g (omega arith)) l.0 in
    let one = quiet_one o member releases (t + d) (λ m. z (t + d) m (omega arith) (omega arith)) (subst (λ (x : State). Lasts 1 x.running) (sym ih) l.1) in
    rw add-suc (one ∙ (ap (quietly 1) ih ∙ ap (λ (r : Running). record { waiting = s.waiting; running = r; last = s.last }) (lowered_one d s.running)))
