-- The machine has the service facts, for every pattern whose durations are at most the costs.
use Prim.Native.Nat.{ℕ, zero, suc, ◌+◌, ◌-◌, ◌≤◌, ◌<◌}
use mathlib.Core.Path.{◌≡◌, refl, sym, ◌∙◌, ap}
use mathlib.Core.Bool.{Bool, true, false}
use mathlib.Core.List.{[]}
use mathlib.Core.Logic.{⊎_elim}
use native.Mathlib.Decide.{ℕ_discrete}
use native.Mathlib.Omega.{arith}
use Rattle.laws.specs.Sums.{only, largest}
use Rattle.laws.proofs.Every.{clash, and_both}
use Rattle.laws.proofs.Sums.{largest_in}
use Rattle.laws.proofs.Only.{only_true}
use Rattle.model.specs.declared.order.Order.{Order}
use Rattle.demand.specs.Priority.{Members, outranks, higher, lower}
use Rattle.demand.specs.Releases.{cost_of}
use Rattle.demand.specs.Test.{blocking}
use Rattle.demand.proofs.Priority.{outranks_one, outranks_chain}
use Rattle.machine.specs.Step.{Pattern, Running, free, runs, ended, joining}
use Rattle.machine.proofs.View.{goes_on_lem, begins, rests, waiting_before, running_before, joined_by, ViewAt, view}
use Rattle.machine.proofs.Line.{work_of, work_none, work_joined}
use Rattle.machine.proofs.Work.{serves_task, serves_itself, serves_once, none_left, theirs, serves}
use Rattle.machine.proofs.Once.{runs_in_line, pending, conserved, runs_own}
use Rattle.busy.specs.Window.{over_both, Service}
use Rattle.busy.proofs.Over.{higher_in, higher_some}

-- what is left of a running job whose task i outranks
abbrev pub lower_left : Order → ℕ → Running → ℕ
lower_left o i free = 0
lower_left o i (runs j a l) = only (outranks o i j) l

-- how long a job whose task i outranks still holds the partition before a tick
abbrev pub carried : Order → Members → Pattern → ℕ → ℕ → ℕ
carried o member releases i t = lower_left o i (running_before o member releases t)

module _ (o : Order) (member : Members) (releases : Pattern) (i : ℕ) (known : i < o.tasks) (short : (t k : ℕ) → theirs o member releases t k ≤ cost_of o k) where
  abbrev run : ℕ → Running
  run = running_before o member releases

  abbrev both : (ℕ → ℕ) → ℕ
  both = over_both (higher o member i) i o.tasks

  -- the work of task k at a tick, and the service of i and the members above it
  abbrev asks : ℕ → ℕ → ℕ
  asks t k = pending o member releases k t + theirs o member releases t k

  abbrev served : ℕ → ℕ
  served t = both (λ k. serves o member releases k t)

  -- a carried job has at most the largest cost of those that i outranks, less the tick that it has run
  carried_most : (t : ℕ) → carried o member releases i t ≤ blocking o member i
  unfolding blocking lower
  carried_most t = go (run t) refl
    where
      go : (r : Running) → run t ≡ r → lower_left o i r ≤ largest (λ j. only (lower o member i j) (cost_of o j)) o.tasks - 1
      go free e = omega arith
      go (runs j a l) e = at (outranks o i j) refl
        where
          own : (member j ≡ true) × (j < o.tasks) × (0 < releases a j) × (a < t)
          own = runs_own o member releases t j a l e

          at : (b : Bool) → outranks o i j ≡ b → only b l ≤ largest (λ j. only (lower o member i j) (cost_of o j)) o.tasks - 1
          at false p = omega arith
          at true p =
              omega (
                arith,
                runs_in_line o member releases t j a l e,
                short a j,
                largest_in (λ k. only (lower o member i k) (cost_of o k)) o.tasks j own.1,
                only_true (lower o member i j) (cost_of o j) (rw (own.0, p)),
              )

  -- nothing is left of a task that ended and has nothing waiting
  no_work : (k t : ℕ) → ended (run t) ≡ free → joined_by o member releases t k ≡ [] → 0 < asks t k → ⊥
  unfolding joining
  no_work k t over e h =
      omega (
        arith,
        none_left k (run t) over,
        work_joined (waiting_before o member releases t k) t (theirs o member releases t k),
        ap work_of e,
        work_none,
      )

  -- a running job of i or of a member above i is served
  serves_both_lem : (t j a l : ℕ) → run (suc t) ≡ runs j a l → outranks o i j ≡ false → 1 ≤ served t
  unfolding higher
  serves_both_lem t j a l e down = go (ℕ_discrete j i) (outranks o j i) refl
    where
      one : serves o member releases j t ≡ 1
      one = ap (serves_task j) e ∙ serves_itself j a l

      own : (member j ≡ true) × (j < o.tasks) × (0 < releases a j) × (a < suc t)
      own = runs_own o member releases (suc t) j a l e

      go : Dec (j ≡ i) → (b : Bool) → outranks o j i ≡ b → 1 ≤ served t
      go (yes p) b q = omega (arith, one, ap (λ (k : ℕ). serves o member releases k t) p)
      go (no p) true q = omega (arith, one, higher_in (higher o member i) o.tasks (λ k. serves o member releases k t) j own.1 (rw (own.0, q)))
      go (no p) false q = absurd (⊎_elim (λ h. clash (sym q ∙ h)) (λ h. clash (sym down ∙ h)) (outranks_one o j i p))

  -- whose work there is: of i, or of a member above i
  data Has (k : ℕ) : Type 0 where
    mine : k ≡ i → Has k
    above : k < o.tasks → outranks o k i ≡ true → Has k

  has_work : (t : ℕ) → 0 < both (asks t) → (k : ℕ) × Has k × (0 < asks t k)
  unfolding higher
  has_work t h = go (asks t i) refl
    where
      go : (x : ℕ) → asks t i ≡ x → (k : ℕ) × Has k × (0 < asks t k)
      go (suc x) e = (i, mine refl, omega arith)
      go zero e =
          let r = higher_some (higher o member i) o.tasks (asks t) (omega arith) in
          (r.0, above r.1 (and_both (member r.0) _ r.2).1, r.3)

  -- then a job that starts is no job that i outranks, and the partition does not rest
  not_rests : (t k : ℕ) → Has k → 0 < asks t k → ended (run t) ≡ free → ((m : ℕ) → m < o.tasks → joined_by o member releases t m ≡ []) → ⊥
  not_rests t k (mine e) h over none = no_work k t over (none k (rw e known)) h
  not_rests t k (above l up) h over none = no_work k t over (none k l) h

  not_lower : (t k j : ℕ) → Has k → 0 < asks t k → ended (run t) ≡ free → outranks o i j ≡ true
      → ((m : ℕ) → m < o.tasks → outranks o m j ≡ true → joined_by o member releases t m ≡ []) → ⊥
  not_lower t k j (mine e) h over down first = no_work k t over (first k (rw e known) (rw e down)) h
  not_lower t k j (above l up) h over down first = no_work k t over (first k l (outranks_chain o k i j up down)) h

  working : (t : ℕ) → 0 < both (asks t) → 1 + carried o member releases i (suc t) ≤ carried o member releases i t + served t
  working t h = go (has_work t h) (view o member releases t)
    where
      go : (k : ℕ) × Has k × (0 < asks t k) → ViewAt o member releases t → 1 + carried o member releases i (suc t) ≤ carried o member releases i t + served t
      go r (goes_on_lem j a l e e' same) = omega (arith, ap (lower_left o i) e, ap (lower_left o i) e', at (outranks o i j) refl)
        where
          at : (b : Bool) → outranks o i j ≡ b → 1 + only b l ≤ only b (suc l) + served t
          at true p = omega arith
          at false p = omega (arith, serves_both_lem t j a l e' p)
      go r (begins j x js over below e e' w' same first) = omega (arith, ap (lower_left o i) e', at (outranks o i j) refl)
        where
          at : (b : Bool) → outranks o i j ≡ b → 1 + only b (x.duration - 1) ≤ served t
          at true p = absurd (not_lower t r.0 j r.1 r.2 over p first)
          at false p = omega (arith, serves_both_lem t j x.release (x.duration - 1) e' p)
      go r (rests over e' same none) = absurd (not_rests t r.0 r.1 r.2 over none)

  pub service : Service (higher o member i) i o.tasks (blocking o member i) (theirs o member releases) (pending o member releases) (serves o member releases)
      (carried o member releases i)
  service = record { conserved = conserved o member releases; unit = λ k t. serves_once k (run (suc t)); working = working; carried_most = carried_most }
