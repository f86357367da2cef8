-- Ranks of a partition's members: those that outrank have lower ones, and no two are equal.
use Prim.Native.Nat.{ℕ, ◌≤◌, ◌<◌}
use mathlib.Core.Path.{◌≡◌, refl, ap}
use mathlib.Core.Bool.{Bool, true, false, ◌&&◌, ◌||◌}
use mathlib.Core.List.{List}
use mathlib.Core.Logic.{⊎_elim}
use native.Mathlib.Omega.{arith}
use lib.Dec.{eqb}
use borrow.Author.Tests.{eqb-true}
use Rattle.laws.specs.Sums.{only}
use Rattle.laws.proofs.Every.{and_both, both_and}
use Rattle.laws.proofs.Sums.{sum_le}
use Rattle.laws.proofs.Picked.{sum_with}
use Rattle.model.specs.declared.order.Order.{Order}
use Rattle.model.specs.declared.build.Build.{Build}
use Rattle.model.specs.declared.build.Release.{Release}
use Rattle.model.specs.Limits.{home_of}
use Rattle.demand.specs.Priority.{Members, members_of, outranks, higher, rank}
use Rattle.demand.proofs.Priority.{outranks_one, outranks_chain, higher_self}
use Rattle.machine.proofs.Isolation.{home_member}
use Rattle.stepper.specs.Follow.{rank_of, LegalRun}

module _ (o : Order) (member : Members) where
  above_counts : (m k : ℕ) → member m ≡ true → outranks o m k ≡ true → (j : ℕ) → only (eqb j m || higher o member m j) 1 ≤ only (higher o member k j) 1
  unfolding higher
  above_counts m k mine above j = go (eqb j m) (member j && outranks o j m) refl refl
    where
      counts : (member j && outranks o j k) ≡ true → (x : ℕ) → x ≤ 1 → x ≤ only (member j && outranks o j k) 1
      counts e x few = rw e few

      go : (x y : Bool) → eqb j m ≡ x → (member j && outranks o j m) ≡ y → only (x || y) 1 ≤ only (member j && outranks o j k) 1
      go true y e f = counts (rw (eqb-true j m e) (both_and _ _ mine above)) 1 (omega arith)
      go false true e f = let both = and_both (member j) (outranks o j m) f in counts (both_and _ _ both.0 (outranks_chain o j m k both.1 above)) 1 (omega arith)
      go false false e f = omega arith

  -- who outranks has the lower rank
  rank-above : (m k : ℕ) → m < o.tasks → member m ≡ true → outranks o m k ≡ true → rank o member m < rank o member k
  unfolding rank
  rank-above m k known mine above =
      omega (
        arith,
        sum_with (higher o member m) (λ j. 1) m (higher_self o member m) o.tasks known,
        sum_le (λ j. only (eqb j m || higher o member m j) 1) (λ j. only (higher o member k j) 1) o.tasks (λ j l. above_counts m k mine above j),
      )

module _ {o : Order} {b : Build} {script : List Release} (legal_run : LegalRun o b script) where
  pub outranks-lower : (p m k : ℕ) → m < o.tasks → k < o.tasks → home_of b m ≡ p → home_of b k ≡ p → outranks o m k ≡ true → rank_of b m < rank_of b k
  outranks-lower p m k known known' home home' above =
      omega (
        arith,
        rank-above o (members_of b p) m k known (home_member b p m home) above,
        legal_run.ranked m known,
        legal_run.ranked k known',
        ap (λ (q : ℕ). rank o (members_of b q) m) home,
        ap (λ (q : ℕ). rank o (members_of b q) k) home',
      )

  pub ranks_apart : (p m k : ℕ) → m < o.tasks → k < o.tasks → home_of b m ≡ p → home_of b k ≡ p → (m ≡ k → ⊥) → rank_of b m ≡ rank_of b k → ⊥
  ranks_apart p m k known known' home home' other same =
      ⊎_elim
      (λ above. omega (arith, outranks-lower p m k known known' home home' above))
      (λ above. omega (arith, outranks-lower p k m known' known home' home above))
      (outranks_one o m k other)
