-- The blocker: where B is over 0 there is one, and what is known of it; and when the pattern begins.
use Rattle.std.specs.Prelude.{Some, None, Option}
use Prim.Native.Nat.{ℕ, suc, ◌-◌, ◌≤◌, ◌<◌}
use mathlib.Core.Path.{◌≡◌, refl, sym, ◌∙◌, subst}
use mathlib.Core.Bool.{Bool, true, ◌&&◌}
use native.Mathlib.Omega.{arith}
use native.Mathlib.Decide.{dec_lt}
use lib.Dec.{ltb, eqb}
use borrow.Author.Tests.{eq-eqb, eqb-true, lt-ltb, ltb-true}
use Rattle.laws.specs.Sums.{only}
use Rattle.laws.proofs.Every.{clash, and_both, both_and}
use Rattle.laws.proofs.Only.{only_true, only_some}
use Rattle.laws.proofs.Sums.{largest_in, largest_reaches}
use Rattle.model.specs.declared.order.Order.{Order}
use Rattle.search.specs.Smallest.{Answers, IsSmallest}
use Rattle.search.proofs.Smallest.{smallest_is}
use Rattle.demand.specs.Priority.{Members, outranks, lower}
use Rattle.demand.specs.Releases.{cost_of}
use Rattle.demand.specs.Test.{blocking}
use Rattle.critical.specs.Pattern.{longest_lower, is_at, blocks, begin}
use Rattle.critical.specs.Claims.{OneBlocker, BlockerIsThere}

module _ (o : Order) (member : Members) (i : ℕ) where
  abbrev B : ℕ
  B = blocking o member i

  -- a lower member of the largest C
  abbrev is_longest : ℕ → Bool
  is_longest j = lower o member i j && eqb (cost_of o j) (suc B)

  abbrev lower_cost : ℕ → ℕ
  lower_cost j = only (lower o member i j) (cost_of o j)

  -- "the largest C among lower-priority members, less 1": none is over B + 1
  cost_most : (k : ℕ) → k < o.tasks → lower o member i k ≡ true → cost_of o k ≤ suc B
  unfolding blocking
  cost_most k below is_lower = omega (arith, largest_in lower_cost o.tasks k below, only_true (lower o member i k) (cost_of o k) is_lower)

  some_longest : 0 < B → (j : ℕ) × (j < o.tasks) × (is_longest j ≡ true)
  unfolding blocking
  some_longest some =
      let r = largest_reaches lower_cost o.tasks (suc B) (omega arith) (omega arith) in
      let s = only_some (lower o member i r.0) (cost_of o r.0) (omega (arith, r.2)) in
      let c = only_true (lower o member i r.0) (cost_of o r.0) s.0 in
      (r.0, r.1, both_and _ _ s.0 (eq-eqb (cost_of o r.0) (suc B) (omega (arith, cost_most r.0 r.1 s.0, r.2))))

  found : 0 < B → (j : ℕ) × (longest_lower o member i ≡ Some j) × IsSmallest is_longest 0 (o.tasks - 1) j
  unfolding longest_lower
  found some = go (longest_lower o member i) refl (smallest_is is_longest 0 (o.tasks - 1) (omega arith))
    where
      go : (f : Option ℕ) → longest_lower o member i ≡ f → Answers is_longest 0 (o.tasks - 1) (longest_lower o member i)
          → (j : ℕ) × (longest_lower o member i ≡ Some j) × IsSmallest is_longest 0 (o.tasks - 1) j
      go (Some j) e a = (j, e, subst (Answers is_longest 0 (o.tasks - 1)) e a)
      go None e a =
          let there = some_longest some in
          clash (sym (subst (Answers is_longest 0 (o.tasks - 1)) e a there.0 (omega arith) (omega (arith, there.1))) ∙ there.2)

  one_blocker : 0 < B → (j : ℕ) × (blocks o member i j ≡ true) × OneBlocker o member i j
  unfolding blocks
  one_blocker some = go (found some)
    where
      go : (j : ℕ) × (longest_lower o member i ≡ Some j) × IsSmallest is_longest 0 (o.tasks - 1) j → (j : ℕ) × (blocks o member i j ≡ true) × OneBlocker o member i j
      go (j, e, is) =
          let there = some_longest some in
          let both = and_both (lower o member i j) (eqb (cost_of o j) (suc B)) is.holds in
          let cost_is = eqb-true (cost_of o j) (suc B) both.1 in (
            j,
            both_and _ _ (lt-ltb 0 B some) (rw e (eq-eqb j j refl)),
            record {
              known = omega (arith, is.upto, there.1);
              is_lower = both.0;
              cost_is = cost_is;
              largest = λ k below is_lower. omega (arith, cost_most k below is_lower);
              lowest = λ k below is_lower. shorter k below is_lower (dec_lt (cost_of o k) (cost_of o j));
              only_it = λ k it. eqb-true k j (subst (λ (f : Option ℕ). is_at o member i f k ≡ true) e (and_both (ltb 0 B) (is_at o member i (longest_lower o member i) k) it).1);
            },
          )
        where
          shorter : (k : ℕ) → k < j → lower o member i k ≡ true → Dec (cost_of o k < cost_of o j) → cost_of o k < cost_of o j
          shorter k below is_lower (yes less) = less
          shorter k below is_lower (no more) =
              let there = some_longest some in
              let cost_is = eqb-true (cost_of o j) (suc B) (and_both (lower o member i j) (eqb (cost_of o j) (suc B)) is.holds).1 in
              let same : cost_of o k ≡ suc B = omega (arith, cost_most k (omega (arith, is.upto, there.1)) is_lower) in
              clash (sym (is.below k (omega arith) below) ∙ both_and _ _ is_lower (eq-eqb (cost_of o k) (suc B) same))

  -- it comes only where B is over 0
  pub blocks_some : (j : ℕ) → blocks o member i j ≡ true → 0 < B
  unfolding blocks
  blocks_some j it = ltb-true 0 B (and_both _ _ it).0

  -- and is neither task i nor above it
  pub blocks_outranked : (j : ℕ) → blocks o member i j ≡ true → outranks o i j ≡ true
  unfolding lower
  blocks_outranked j it =
      let there = one_blocker (blocks_some j it) in
      let same : j ≡ there.0 = there.2.only_it j it in
      rw same (and_both (member there.0) _ there.2.is_lower).1

  pub begin_blocked : 0 < B → begin o member i ≡ 1
  unfolding begin
  begin_blocked some = rw (lt-ltb 0 B some)

pub blocker_is_there : BlockerIsThere
blocker_is_there = one_blocker
