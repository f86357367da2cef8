-- What a line of members gives: rank, the work of higher members, blocking.
use mathlib.Core.Path.{◌≡◌, refl, sym, ap, ◌∙◌, subst}
use mathlib.Core.Bool.{Bool, true, false, ◌&&◌}
use Prim.Native.Nat.{ℕ, zero, suc, ◌+◌, ◌-◌, ◌≤◌, ◌<◌}
use native.Mathlib.Decide.{dec_lt, ℕ_discrete}
use native.Mathlib.Nat.{le_antisymm}
use native.Mathlib.Omega.{arith}
use lib.Dec.{eqb}
use borrow.Author.Tests.{eqb-true, eq-eqb}
use Rattle.laws.specs.Sums.{only, sum, largest}
use Rattle.laws.proofs.Every.{and_both, both_and}
use Rattle.laws.proofs.Only.{only_true, only_false, only_some}
use Rattle.laws.proofs.Sums.{sum_same, sum_in, sum_some, largest_in, largest_le}
use Rattle.laws.proofs.Inserted.{sum_front}
use Rattle.model.specs.declared.order.Order.{Order}
use Rattle.model.specs.Limits.{task_of}
use Rattle.demand.specs.Priority.{Members, outranks, higher, lower, rank}
use Rattle.demand.specs.Releases.{cost_of, work_by}
use Rattle.demand.specs.Test.{blocking, higher_work}
use Rattle.demand.proofs.Priority.{outranks_self, never-above}
use Rattle.roster.specs.Ranked.{Ranked}

-- a test and another, of what counts
pub both_only : (a b : Bool) (x : ℕ) → only (a && b) x ≡ only a (only b x)
both_only true b x = refl
both_only false b x = refl

ones : (n : ℕ) → sum (λ s. 1) n ≡ n
unfolding sum
ones zero = refl
ones (suc n) = omega (arith, ones n)

-- what counts as the members do has a place for each member
pub place_in : (o : Order) (member : Members) (number : ℕ → ℕ) (count : ℕ) → ((f : ℕ → ℕ) → sum (λ i. only (member i) (f i)) o.tasks ≡ sum (λ r. f (number r)) count)
    → (i : ℕ) → i < o.tasks → member i ≡ true → (r : ℕ) × (r < count) × (number r ≡ i)
place_in o member number count sums i l m =
    let f : ℕ → ℕ = λ j. only (eqb j i) 1 in
    let own : f i ≡ 1 = only_true (eqb i i) 1 (eq-eqb i i refl) in
    let counted : only (member i) (f i) ≡ 1 = only_true (member i) (f i) m ∙ own in
    let some : 0 < sum (λ r. f (number r)) count = omega (arith, sums f, sum_in (λ j. only (member j) (f j)) o.tasks i l, counted) in
    let there = sum_some (λ r. f (number r)) count some in
    (there.0, there.1, eqb-true _ _ (only_some (eqb (number there.0) i) 1 there.2).0)

module _ (o : Order) (member : Members) (number : ℕ → ℕ) (count : ℕ) (is : Ranked o member number count) where
  -- each member has a place
  pub place_of : (i : ℕ) → i < o.tasks → member i ≡ true → (r : ℕ) × (r < count) × (number r ≡ i)
  place_of = place_in o member number count is.sums

  -- places before outrank, and only they
  above : (r s : ℕ) → r < count → s < r → outranks o (number s) (number r) ≡ true
  above r s l h = is.falling s r h l

  not_above : (r s : ℕ) → r < count → r ≤ s → s < count → outranks o (number s) (number r) ≡ false
  not_above r s l h k = elim (ℕ_discrete r s) [
    | yes same ↦ subst (λ (x : ℕ). outranks o (number x) (number r) ≡ false) same (outranks_self o (number r))
    | no other ↦ never-above o (number r) (number s) (is.falling r s (omega (arith, other)) k)
  ]

  -- what is counted over the higher members is counted over the places before
  over_higher_lem : (f : ℕ → ℕ) (r : ℕ) → r < count → sum (λ j. only (higher o member (number r) j) (f j)) o.tasks ≡ sum (λ s. f (number s)) r
  unfolding higher
  over_higher_lem f r l =
      sum_same _ _ o.tasks (λ j k. both_only (member j) (outranks o j (number r)) (f j))
      ∙ is.sums (λ j. only (outranks o j (number r)) (f j))
      ∙ sum_front (λ s. only (outranks o (number s) (number r)) (f (number s))) r count (omega arith) (λ s a b. only_false _ _ (not_above r s l a b))
      ∙ sum_same _ _ r (λ s k. only_true _ _ (above r s l k))

  -- "Rank is the number of higher-priority members."
  pub rank_is : (r : ℕ) → r < count → rank o member (number r) ≡ r
  unfolding rank
  rank_is r l = over_higher_lem (λ j. 1) r l ∙ ones r

  pub higher_work_lem : (r w : ℕ) → r < count → higher_work o member (number r) w ≡ sum (λ s. work_by (task_of o (number s)) w) r
  unfolding higher_work
  higher_work_lem r w l = over_higher_lem (λ j. work_by (task_of o j) w) r l

  -- "the largest C among lower-priority members"
  pub blocked_by : (r : ℕ) → r < count → blocking o member (number r) ≡ largest (λ s. cost_of o (number (r + 1 + s))) (count - (r + 1)) - 1
  unfolding blocking lower
  blocked_by r l = ap (λ (x : ℕ). x - 1) (le_antisymm most least)
    where
      f : ℕ → ℕ
      f j = only (member j && outranks o (number r) j) (cost_of o j)

      after : ℕ → ℕ
      after s = cost_of o (number (r + 1 + s))

      each : (j : ℕ) → j < o.tasks → (b : Bool) → (member j && outranks o (number r) j) ≡ b → only b (cost_of o j) ≤ largest after (count - (r + 1))
      each j k false e = omega arith
      each j k true e =
          let both = and_both (member j) (outranks o (number r) j) e in
          let place = place_of j k both.0 in
          let late : r < place.0 = elim (dec_lt r place.0) [
            | yes h ↦ h
            | no g ↦ (let e' : outranks o (number r) (number place.0) ≡ false = not_above place.0 r place.1 (omega arith) l in
                let clash : true ≡ false = sym both.1 ∙ ap (outranks o (number r)) (sym place.2) ∙ e' in
                let z : ◌≡◌ {A = ℕ} 0 1 = cc clash in absurd (omega arith))
          ] in
          let e'' : r + 1 + (place.0 - (r + 1)) ≡ place.0 = omega arith in
          let same : after (place.0 - (r + 1)) ≡ cost_of o j = ap (λ (x : ℕ). cost_of o (number x)) e'' ∙ ap (cost_of o) place.2 in
          omega (arith, same, largest_in after (count - (r + 1)) (place.0 - (r + 1)) (omega (arith, place.1)))

      most : largest f o.tasks ≤ largest after (count - (r + 1))
      most = largest_le f o.tasks (largest after (count - (r + 1))) (λ j k. each j k (member j && outranks o (number r) j) refl)

      least : largest after (count - (r + 1)) ≤ largest f o.tasks
      least = largest_le after (count - (r + 1)) (largest f o.tasks) (λ s k.
          (let j = number (r + 1 + s) in
          let inside : r + 1 + s < count = omega arith in
          let counts : f j ≡ cost_of o j = only_true _ _ (both_and _ _ (is.members (r + 1 + s) inside) (is.falling r (r + 1 + s) (omega arith) inside)) in
          omega (arith, counts, largest_in f o.tasks j (is.within (r + 1 + s) inside))))
