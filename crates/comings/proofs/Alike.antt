-- Comings that agree make one pattern.
use Prim.Native.Nat.{ℕ, ◌-◌, ◌%◌, ◌<◌}
use mathlib.Core.Path.{◌≡◌, refl, sym, ap, ◌∙◌}
use mathlib.Core.Bool.{Bool, true, false, ◌&&◌}
use native.Mathlib.Decide.{dec_lt}
use native.Mathlib.Omega.{arith}
use lib.Dec.{ltb, eqb}
use borrow.Author.Tests.{le-ltb}
use Rattle.laws.specs.Choice.{within}
use Rattle.laws.specs.Sums.{only}
use Rattle.model.specs.declared.order.Order.{Order}
use Rattle.demand.specs.Releases.{period_of}
use Rattle.machine.specs.Pattern.{run_of}
use Rattle.comings.specs.Comings.{Comings, comes_at, coming_pattern}

-- comings that agree on a task
pub record Alike (c d : Comings) (task : ℕ) : Type 0 where
  pub part : c.takes_part task ≡ d.takes_part task
  pub ticks : d.takes_part task ≡ true → (c.first task ≡ d.first task) × (c.last task ≡ d.last task)

-- it comes at the same ticks
module _ (o : Order) (c d : Comings) (tick task : ℕ) where
  at_ticks : (first last : ℕ) → Bool
  at_ticks first last = within first last tick && eqb ((tick - first) % period_of o task) 0

  same_ticks : Alike c d task → comes_at o c tick task ≡ comes_at o d tick task
  unfolding comes_at at_ticks
  same_ticks alike = ap (◌&& at_ticks (c.first task) (c.last task)) alike.part ∙ go (d.takes_part task) refl
    where
      go : (test : Bool) → d.takes_part task ≡ test → (test && at_ticks (c.first task) (c.last task)) ≡ (test && at_ticks (d.first task) (d.last task))
      go true its = (let same = alike.ticks its in ap (λ (x : ℕ). at_ticks x (c.last task)) same.0 ∙ ap (at_ticks (d.first task)) same.1)
      go false its = refl

  pub same_coming : (task < o.tasks → Alike c d task) → coming_pattern o c tick task ≡ coming_pattern o d tick task
  unfolding coming_pattern
  same_coming alike = elim (dec_lt task o.tasks) [
    | yes known ↦ ap (λ (test : Bool). only (ltb task o.tasks && test) (run_of o task)) (same_ticks (alike known))
    | no past ↦ (let none : ltb task o.tasks ≡ false = le-ltb task o.tasks (omega (arith, past)) in
        ap (λ (test : Bool). only (test && comes_at o c tick task) (run_of o task)) none ∙ sym (ap (λ (test : Bool). only (test && comes_at o d tick task) (run_of o task)) none))
  ]
