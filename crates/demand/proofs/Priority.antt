-- Priority is a strict order without ties; ranks count those above.
use mathlib.Core.Path.{◌≡◌, refl, sym, ◌∙◌}
use mathlib.Core.Bool.{Bool, true, false, ◌&&◌, ◌||◌}
use mathlib.Core.Logic.{◌⊎◌, inl, inr}
use Prim.Native.Nat.{ℕ, ◌≤◌, ◌<◌}
use native.Mathlib.Decide.{dec_lt}
use native.Mathlib.Nat.{mul-one}
use native.Mathlib.Omega.{arith}
use lib.Dec.{ltb, eqb}
use borrow.Author.Tests.{lt-ltb, le-ltb, eq-eqb, ltb-true, eqb-true}
use Rattle.laws.specs.Sums.{only}
use Rattle.laws.proofs.Every.{clash}
use Rattle.laws.proofs.Only.{only_le}
use Rattle.laws.proofs.Picked.{sum_most, sum_with}
use Rattle.model.specs.declared.order.Order.{Order}
use Rattle.demand.specs.Priority.{Members, deadline_of, outranks, higher, rank}

-- what it is to outrank
abbrev pub Outranks : Order → (j i : ℕ) → Type 0
Outranks o j i = (deadline_of o j < deadline_of o i) ⊎ ((deadline_of o j ≡ deadline_of o i) × (j < i))

module _ (o : Order) where
  pub outranks_says : (j i : ℕ) → outranks o j i ≡ true → Outranks o j i
  unfolding outranks
  outranks_says j i h = go (ltb (deadline_of o j) (deadline_of o i)) (eqb (deadline_of o j) (deadline_of o i)) (ltb j i) refl refl refl h
    where
      go : (x y z : Bool) → ltb (deadline_of o j) (deadline_of o i) ≡ x → eqb (deadline_of o j) (deadline_of o i) ≡ y → ltb j i ≡ z → (x || (y && z)) ≡ true → Outranks o j i
      go true y z p q r h = inl (ltb-true _ _ p)
      go false true true p q r h = inr (eqb-true _ _ q, ltb-true j i r)
      go false true false p q r h = clash h
      go false false z p q r h = clash h

  pub says_outranks : (j i : ℕ) → Outranks o j i → outranks o j i ≡ true
  unfolding outranks
  says_outranks j i (inl l) = rw (lt-ltb _ _ l)
  says_outranks j i (inr (same, l)) = rw (le-ltb (deadline_of o j) (deadline_of o i) (omega arith), eq-eqb _ _ same, lt-ltb j i l)

  -- no task outranks itself
  pub outranks_self : (i : ℕ) → outranks o i i ≡ false
  unfolding outranks
  outranks_self i = rw (le-ltb (deadline_of o i) (deadline_of o i) (omega arith), eq-eqb (deadline_of o i) (deadline_of o i) refl, le-ltb i i (omega arith))

  -- of two tasks one outranks the other
  pub outranks_one : (j i : ℕ) → (j ≡ i → ⊥) → (outranks o j i ≡ true) ⊎ (outranks o i j ≡ true)
  outranks_one j i apart =
      elim (dec_lt (deadline_of o j) (deadline_of o i)) [
        | yes l ↦ inl (says_outranks j i (inl l))
        | no g ↦ elim (dec_lt (deadline_of o i) (deadline_of o j)) [
          | yes l ↦ inr (says_outranks i j (inl l))
          | no h ↦ elim (dec_lt j i) [
            | yes l ↦ inl (says_outranks j i (inr (omega arith, l)))
            | no k ↦ inr (says_outranks i j (inr (omega arith, omega arith)))
          ]
        ]
      ]

  pub outranks_chain : (k j i : ℕ) → outranks o k j ≡ true → outranks o j i ≡ true → outranks o k i ≡ true
  outranks_chain k j i p q = go (outranks_says k j p) (outranks_says j i q)
    where
      go : Outranks o k j → Outranks o j i → outranks o k i ≡ true
      go (inl x) (inl y) = says_outranks k i (inl (omega arith))
      go (inl x) (inr y) = says_outranks k i (inl (omega arith))
      go (inr x) (inl y) = says_outranks k i (inl (omega arith))
      go (inr x) (inr y) = says_outranks k i (inr (omega arith, omega arith))

  -- of two tasks only one outranks the other
  pub never-above : (j i : ℕ) → outranks o j i ≡ true → outranks o i j ≡ false
  never-above j i above = go (outranks o i j) refl
    where
      go : (x : Bool) → outranks o i j ≡ x → x ≡ false
      go true p = clash (sym (outranks_self j) ∙ outranks_chain j i j above p)
      go false p = refl

  and_false : (a b : Bool) → b ≡ false → (a && b) ≡ false
  and_false true b e = e
  and_false false b e = refl

  module _ (member : Members) where
    -- no task is higher than one that outranks it
    pub not_higher : (i j : ℕ) → outranks o j i ≡ false → higher o member i j ≡ false
    unfolding higher
    not_higher i j e = and_false (member j) _ e

    pub higher_self : (i : ℕ) → higher o member i i ≡ false
    higher_self i = not_higher i i (outranks_self i)

    pub rank_le : (i : ℕ) → rank o member i ≤ o.tasks
    unfolding rank
    rank_le i = omega (arith, sum_most (λ j. only (higher o member i j) 1) 1 o.tasks (λ j l. only_le (higher o member i j) 1), mul-one o.tasks)

    -- a task is not among those above it
    pub rank_less : (i : ℕ) → i < o.tasks → rank o member i < o.tasks
    unfolding rank
    rank_less i below =
        let split = sum_with (higher o member i) (λ j. 1) i (higher_self i) o.tasks below in
        let all = sum_most (λ j. only (eqb j i || higher o member i j) 1) 1 o.tasks (λ j l. only_le (eqb j i || higher o member i j) 1) in
        omega (arith, mul-one o.tasks)
