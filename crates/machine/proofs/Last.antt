-- The last job started is the one that runs.
use Prim.Native.Nat.{ℕ, zero, suc}
use mathlib.Core.Path.{◌≡◌, refl, ◌∙◌}
use mathlib.Core.List.{List, [], ◌∷◌}
use mathlib.Core.Option.{Option, none, some}
use native.Mathlib.Omega.{arith}
use Rattle.model.specs.declared.order.Order.{Order}
use Rattle.machine.specs.Step.{Job, Waiting, Running, free, runs, ended, passed, highest, oldest_starts, starts, starts_if_free, joining, of_members, during_tick, step, state_before}
use Rattle.machine.specs.Claims.{RanLast}

module _ (o : Order) (waiting : Waiting) (last : Option ℕ) where
  -- whatever is chosen, what runs then is what was started last
  by_oldest : (k task release left : ℕ) (js : List Job) → passed (oldest_starts o waiting last k js).running ≡ runs task release left → (oldest_starts o waiting last k js).last ≡ some task
  unfolding oldest_starts passed
  by_oldest k task release left [] e = (let z : ◌≡◌ {A = ℕ} 0 1 = cc e in absurd (omega arith))
  by_oldest k task release left (j ∷ js) e = cc e

  by_choice : (task release left : ℕ) (choice : Option ℕ) → passed (starts o waiting last choice).running ≡ runs task release left → (starts o waiting last choice).last ≡ some task
  unfolding starts passed
  by_choice task release left none e = (let z : ◌≡◌ {A = ℕ} 0 1 = cc e in absurd (omega arith))
  by_choice task release left (some k) e = by_oldest k task release left (waiting k) e

  by_running : (task release left : ℕ) (r : Running) → ((k a l : ℕ) → r ≡ runs k a l → last ≡ some k) →
      passed (starts_if_free o waiting last (ended r)).running ≡ runs task release left → (starts_if_free o waiting last (ended r)).last ≡ some task
  unfolding starts_if_free ended passed
  by_running task release left free was e = by_choice task release left (highest o waiting o.tasks) e
  by_running task release left (runs k a zero) was e = by_choice task release left (highest o waiting o.tasks) e
  by_running task release left (runs k a (suc l)) was e = was k a (suc l) refl ∙ cc e

pub ran_last : RanLast
unfolding state_before step during_tick
ran_last o member releases zero task release left e = (let z : ◌≡◌ {A = ℕ} 0 1 = cc e in absurd (omega arith))
ran_last o member releases (suc tick) task release left e =
    let before = state_before o member releases tick in
    by_running o (joining (of_members o member releases) tick before.waiting) before.last task release left before.running (λ k a l h. ran_last o member releases tick k a l h) e
