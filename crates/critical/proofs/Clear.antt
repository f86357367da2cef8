-- When a job of task i begins, the members above it have no work left, in any pattern.
use Prim.Native.Nat.{ℕ, suc, ◌+◌, ◌≤◌, ◌<◌}
use mathlib.Core.Path.{◌≡◌, sym, ap, ◌∙◌}
use mathlib.Core.Bool.{true}
use native.Mathlib.Decide.{dec_le}
use native.Mathlib.Omega.{arith}
use lib.Dec.{eqb}
use borrow.Author.Tests.{eqb-true}
use Rattle.laws.proofs.Only.{only_some}
use Rattle.laws.proofs.Sums.{sum_suc}
use Rattle.laws.proofs.Growth.{sum_grows}
use Rattle.model.specs.declared.order.Order.{Order}
use Rattle.demand.specs.Priority.{Members, outranks}
use Rattle.machine.specs.Step.{Pattern, runs, joining}
use Rattle.machine.proofs.View.{goes_on_lem, begins, rests, waiting_before, running_before, ViewAt, view}
use Rattle.machine.proofs.Line.{released_before, work_of, work_none, work_joined}
use Rattle.machine.proofs.Work.{serves_task, none_left, theirs, serves, served_before}
use Rattle.machine.proofs.Once.{runs_in_line, conserved}

module _ (o : Order) (member : Members) (releases : Pattern) (i a s : ℕ) (served : serves o member releases i s ≡ 1)
    (next_in_line : served_before o member releases i s ≡ released_before (theirs o member releases) i a) where
  abbrev work : ℕ → ℕ → ℕ
  work = released_before (theirs o member releases)

  -- a job that has run is no next in line
  not_begun : (b l : ℕ) → running_before o member releases s ≡ runs i b (suc l) → ⊥
  not_begun b l e = go (runs_in_line o member releases s i b (suc l) e) (dec_le a b)
    where
      go : (served_before o member releases i s + suc l ≡ work i b + theirs o member releases b i) × (suc l < theirs o member releases b i) → Dec (a ≤ b) → ⊥
      go (counts, shorter) (yes le) = omega (arith, next_in_line, sum_grows (λ u. theirs o member releases u i) a b le)
      go (counts, shorter) (no over) =
          omega (arith, next_in_line, sum_suc (λ u. theirs o member releases u i) b, sum_grows (λ u. theirs o member releases u i) (suc b) a (omega arith))

  served_is : (j b l : ℕ) → running_before o member releases (suc s) ≡ runs j b l → i ≡ j
  served_is j b l e = eqb-true i j (only_some (eqb i j) 1 (omega (arith, served, ap (serves_task i) e))).0

  -- all that they released up to then has been served
  pub clear_above : (k : ℕ) → k < o.tasks → outranks o k i ≡ true → work k (suc s) ≤ served_before o member releases k s
  unfolding joining
  clear_above k known above = go (view o member releases s)
    where
      go : ViewAt o member releases s → work k (suc s) ≤ served_before o member releases k s
      go (goes_on_lem j b l e e' same) =
          let mine = served_is j b l e' in absurd (not_begun b l (e ∙ ap (λ (x : ℕ). runs x b (suc l)) (sym mine)))
      go (begins j x js over below e e' w' same first) =
          let mine = served_is j x.release _ e' in
          omega (
            arith,
            sum_suc (λ u. theirs o member releases u k) s,
            conserved o member releases k s,
            none_left k (running_before o member releases s) over,
            work_joined (waiting_before o member releases s k) s (theirs o member releases s k),
            ap work_of (first k known (ap (outranks o k) (sym mine) ∙ above)),
            work_none,
          )
      go (rests over e' same none) = absurd (omega (arith, served, ap (serves_task i) e'))
