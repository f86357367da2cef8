-- The machine's work, counted: of each task, what was released is what was served, what is left of the running job, and what waits in line.
use Prim.Native.Nat.{ℕ, zero, suc, ◌+◌, ◌-◌, ◌≤◌, ◌<◌}
use mathlib.Core.Path.{◌≡◌, refl, sym, ap, subst}
use mathlib.Core.Bool.{Bool, true, false}
use mathlib.Core.List.{List, ◌∷◌}
use mathlib.Core.Logic.{◌≢◌}
use native.Mathlib.Decide.{ℕ_discrete}
use native.Mathlib.Omega.{arith}
use lib.Dec.{eqb}
use borrow.Author.Tests.{eq-eqb, ne_eqb, eqb-true}
use Rattle.laws.specs.Sums.{only, sum}
use Rattle.laws.proofs.Sums.{sum_none, sum_suc}
use Rattle.laws.proofs.Only.{only_true, only_false, only_none, only_le, only_some}
use Rattle.model.specs.declared.order.Order.{Order}
use Rattle.demand.specs.Priority.{Members}
use Rattle.machine.specs.Step.{Pattern, Job, Running, free, runs, ended, joining, of_members, state_before}
use Rattle.machine.proofs.View.{goes_on_lem, begins, rests, waiting_before, running_before, joined_by, ViewAt, view}
use Rattle.machine.proofs.Line.{released_before, InLine, line_joined, line_at}

-- 1 where what runs is a job of task k, and the time left of such a job
abbrev pub serves_task : ℕ → Running → ℕ
serves_task k free = 0
serves_task k (runs j a l) = only (eqb k j) 1

abbrev pub left_of : ℕ → Running → ℕ
left_of k free = 0
left_of k (runs j a l) = only (eqb k j) l

pub serves_itself : (k a l : ℕ) → serves_task k (runs k a l) ≡ 1
serves_itself k a l = only_true _ 1 (eq-eqb k k refl)

pub left_of_itself : (k a l : ℕ) → left_of k (runs k a l) ≡ l
left_of_itself k a l = only_true _ l (eq-eqb k k refl)

pub serves_other : (k j a l : ℕ) → k ≢ j → serves_task k (runs j a l) ≡ 0
serves_other k j a l h = only_false _ 1 (ne_eqb k j h)

left_of_other : (k j a l : ℕ) → k ≢ j → left_of k (runs j a l) ≡ 0
left_of_other k j a l h = only_false _ l (ne_eqb k j h)

-- a task is served once a tick at most, by a job of it that runs
pub serves_once : (k : ℕ) (r : Running) → serves_task k r ≤ 1
serves_once k free = omega arith
serves_once k (runs j a l) = only_le (eqb k j) 1

pub serves_own : (k : ℕ) (r : Running) → serves_task k r ≡ 1 → (a : ℕ) × (l : ℕ) × (r ≡ runs k a l)
serves_own k free e = absurd (omega arith)
serves_own k (runs j a l) e = (a, l, ap (λ (x : ℕ). runs x a l) (sym (eqb-true k j (only_some (eqb k j) 1 (omega arith)).0)))

-- one tick less to run is one tick of service
left_less : (k j a l : ℕ) → serves_task k (runs j a l) + left_of k (runs j a l) ≡ left_of k (runs j a (suc l))
left_less k j a l = go (eqb k j)
  where
    go : (b : Bool) → only b 1 + only b l ≡ only b (suc l)
    go true = omega arith
    go false = refl

-- a job that ends has no time left
pub none_left : (k : ℕ) (r : Running) → ended r ≡ free → left_of k r ≡ 0
unfolding ended
none_left k free e = refl
none_left k (runs j a zero) e = only_none (eqb k j)
none_left k (runs j a (suc l)) e = let z : ◌≡◌ {A = ℕ} 0 1 = cc in absurd (omega arith)

module _ (o : Order) (member : Members) (releases : Pattern) where
  abbrev waiting : ℕ → ℕ → List Job
  waiting = waiting_before o member releases

  abbrev running : ℕ → Running
  running = running_before o member releases

  -- what the members release
  abbrev pub theirs : Pattern
  theirs = of_members o member releases

  pub theirs_of : (t k : ℕ) → member k ≡ true → theirs t k ≡ releases t k
  unfolding of_members
  theirs_of t k mine = only_true (member k) (releases t k) mine

  -- 1 if task k is served while tick t lasts: what runs then has one tick less before the next
  abbrev pub serves : ℕ → ℕ → ℕ
  serves k t = serves_task k (running (suc t))

  abbrev pub served_before : ℕ → ℕ → ℕ
  served_before k t = sum (serves k) t

  -- of the running job: what was served of its task, with its time left, is the work up to and with it
  abbrev pub RunsInLine : ℕ → Running → Type 0
  RunsInLine t free = Unit {0}
  RunsInLine t (runs k a l) = (served_before k t + l ≡ released_before theirs k a + theirs a k) × (l < theirs a k)

  abbrev LineBefore : ℕ → ℕ → Type 0
  LineBefore t k = InLine theirs k (served_before k t + left_of k (running t)) (waiting t k) t

  pub record Counted (t : ℕ) : Type 0 where
    pub line : (k : ℕ) → LineBefore t k
    pub run : RunsInLine t (running t)

  counted_first : Counted 0
  unfolding state_before
  counted_first = record { line = λ k. omega (arith, sum_none (serves k), sum_none (λ u. theirs u k)); run = tt }

  -- the releases of the tick have joined
  line_at_tick : (t : ℕ) → Counted t → (k : ℕ) → InLine theirs k (served_before k t + left_of k (running t)) (joined_by o member releases t k) (suc t)
  unfolding joining
  line_at_tick t I k = line_joined theirs k _ (waiting t k) t (theirs t k) refl (I.line k)

  counted_step : (t : ℕ) → Counted t → ViewAt o member releases t → Counted (suc t)
  counted_step t I (goes_on_lem j a l e e' same) = record { line = line; run = subst (RunsInLine (suc t)) (sym e') run }
    where
      line : (k : ℕ) → LineBefore (suc t) k
      line k =
          line_at theirs k (suc t)
          (omega (arith, sum_suc (serves k) t, ap (left_of k) e, ap (left_of k) e', ap (serves_task k) e', left_less k j a l))
          (sym (same k)) (line_at_tick t I k)

      run : RunsInLine (suc t) (runs j a l)
      run =
          let h : RunsInLine t (runs j a (suc l)) = subst (RunsInLine t) e I.run in
          (omega (arith, sum_suc (serves j) t, ap (serves_task j) e', serves_itself j a l), omega arith)
  counted_step t I (begins j x js over below e e' w' same up) = record { line = λ k. line k (ℕ_discrete k j); run = subst (RunsInLine (suc t)) (sym e') run }
    where
      front : InLine theirs j (served_before j t + left_of j (running t)) (x ∷ js) (suc t)
      front = line_at theirs j (suc t) refl e (line_at_tick t I j)

      now : served_before j (suc t) ≡ served_before j t + 1
      now = omega (arith, sum_suc (serves j) t, ap (serves_task j) e', serves_itself j x.release (x.duration - 1))

      mine : LineBefore (suc t) j
      mine =
          line_at theirs j (suc t)
          (omega (arith, now, ap (left_of j) e', left_of_itself j x.release (x.duration - 1), none_left j _ over, front.2))
          (sym w') front.3

      line : (k : ℕ) → Dec (k ≡ j) → LineBefore (suc t) k
      line k (yes p) = subst (LineBefore (suc t)) (sym p) mine
      line k (no p) =
          line_at theirs k (suc t)
          (omega (
            arith,
            sum_suc (serves k) t,
            none_left k _ over,
            ap (left_of k) e',
            ap (serves_task k) e',
            serves_other k j x.release (x.duration - 1) p,
            left_of_other k j x.release (x.duration - 1) p,
          )
          )
          (sym (same k p)) (line_at_tick t I k)

      run : RunsInLine (suc t) (runs j x.release (x.duration - 1))
      run = (omega (arith, now, none_left j _ over, front.0, front.1, front.2), omega (arith, front.1, front.2))
  counted_step t I (rests over e' same idle) = record { line = line; run = subst (RunsInLine (suc t)) (sym e') tt }
    where
      line : (k : ℕ) → LineBefore (suc t) k
      line k =
          line_at theirs k (suc t)
          (omega (arith, sum_suc (serves k) t, none_left k _ over, ap (left_of k) e', ap (serves_task k) e'))
          (sym (same k)) (line_at_tick t I k)

  pub counted : (t : ℕ) → Counted t
  counted zero = counted_first
  counted (suc t) = counted_step t (counted t) (view o member releases t)
