-- What a step does: the three ways that it can go.
use Prim.Native.Nat.{ℕ, zero, suc, ◌-◌, ◌<◌}
use mathlib.Core.Path.{◌≡◌, refl, ap}
use mathlib.Core.Bool.{true}
use mathlib.Core.List.{List, [], ◌∷◌}
use mathlib.Core.Option.{Option, none, some}
use mathlib.Core.Logic.{◌≢◌}
use native.Mathlib.Omega.{arith}
use borrow.Author.Tests.{eq-eqb, ne_eqb}
use Rattle.model.specs.declared.order.Order.{Order}
use Rattle.demand.specs.Priority.{Members, outranks}
use Rattle.machine.specs.Step.{Pattern, Job, Waiting, Running, free, runs, ended, joining, replaced, passed, occupancy, oldest_starts, starts, starts_if_free, of_members, during_tick, step, state_before}
use Rattle.machine.proofs.Highest.{Chosen, chosen}

-- "It runs unbroken for its own length"
pub occupancy_is : (o : Order) (task : ℕ) (last : Option ℕ) (j : Job) → occupancy o task last j ≡ j.duration
unfolding occupancy
occupancy_is o task last j = refl

pub replaced_same : (waiting : Waiting) (k : ℕ) (js : List Job) → replaced waiting k js k ≡ js
unfolding replaced
replaced_same waiting k js = rw (eq-eqb k k refl)

pub replaced_other : (waiting : Waiting) (k : ℕ) (js : List Job) (m : ℕ) → m ≢ k → replaced waiting k js m ≡ waiting m
unfolding replaced
replaced_other waiting k js m h = rw (ne_eqb m k h)

-- From what waits once the tick's releases have joined, and what ran before: what waits afterwards and what runs.
pub data View (o : Order) (waiting waiting' : Waiting) (running running' : Running) : Type 0 where
  goes_on_lem : (k a l : ℕ) → running ≡ runs k a (suc l) → running' ≡ runs k a l → ((m : ℕ) → waiting' m ≡ waiting m) → View o waiting waiting' running running'
  begins : (k : ℕ) (j : Job) (js : List Job) → ended running ≡ free → k < o.tasks → waiting k ≡ j ∷ js → running' ≡ runs k j.release (j.duration - 1)
      → waiting' k ≡ js → ((m : ℕ) → m ≢ k → waiting' m ≡ waiting m) → ((m : ℕ) → m < o.tasks → outranks o m k ≡ true → waiting m ≡ [])
      → View o waiting waiting' running running'
  rests : ended running ≡ free → running' ≡ free → ((m : ℕ) → waiting' m ≡ waiting m) → ((m : ℕ) → m < o.tasks → waiting m ≡ [])
      → View o waiting waiting' running running'

module _ (o : Order) (waiting : Waiting) (last : Option ℕ) where
  view_start : (r : Running) → ended r ≡ free → (choice : Option ℕ) → Chosen o waiting o.tasks choice
      → View o waiting (starts o waiting last choice).waiting r (passed (starts o waiting last choice).running)
  unfolding starts oldest_starts passed
  view_start r over none c = rests over refl (λ m. refl) c
  view_start r over (some k) c = go (waiting k) refl
    where
      go : (js : List Job) → waiting k ≡ js → View o waiting (oldest_starts o waiting last k js).waiting r (passed (oldest_starts o waiting last k js).running)
      go [] e = let e' = c.1.2 in let z : ◌≡◌ {A = ℕ} 0 1 = cc in absurd (omega arith)
      go (j ∷ js) e = begins k j js over c.0 e (ap (λ (x : ℕ). runs k j.release (x - 1)) (occupancy_is o k last j)) (replaced_same waiting k js) (replaced_other waiting k js) c.2

  view_run : (r : Running) → View o waiting (starts_if_free o waiting last (ended r)).waiting r (passed (starts_if_free o waiting last (ended r)).running)
  unfolding starts_if_free ended passed
  view_run free = view_start free refl _ (chosen o waiting o.tasks)
  view_run (runs k a zero) = view_start (runs k a zero) refl _ (chosen o waiting o.tasks)
  view_run (runs k a (suc l)) = goes_on_lem k a l refl (ap (runs k a) (omega arith)) (λ m. refl)

module _ (o : Order) (member : Members) (releases : Pattern) where
  -- what waits and what runs before a tick
  abbrev pub waiting_before : ℕ → Waiting
  waiting_before t = (state_before o member releases t).waiting

  abbrev pub running_before : ℕ → Running
  running_before t = (state_before o member releases t).running

  -- what waits once the releases of the tick have joined
  abbrev pub joined_by : ℕ → Waiting
  joined_by t = joining (of_members o member releases) t (waiting_before t)

  -- tick t of the machine
  abbrev pub ViewAt : ℕ → Type 0
  ViewAt t = View o (joined_by t) (waiting_before (suc t)) (running_before t) (running_before (suc t))

  pub view : (t : ℕ) → ViewAt t
  unfolding state_before step during_tick
  view t = view_run o (joined_by t) (state_before o member releases t).last (running_before t)
