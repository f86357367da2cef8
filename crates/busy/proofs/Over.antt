-- Laws of sums over higher members, and over i with them.
use Prim.Native.Nat.{ℕ, zero, suc, ◌+◌, ◌≤◌, ◌<◌}
use mathlib.Core.Path.{◌≡◌, refl, sym, ◌∙◌, ap}
use mathlib.Core.Bool.{Bool, true, false}
use native.Mathlib.Decide.{ℕ_discrete}
use native.Mathlib.Omega.{arith}
use lib.Dec.{eqb}
use borrow.Author.Tests.{ne_eqb}
use Rattle.laws.specs.Sums.{only}
use Rattle.laws.proofs.Sums.{sum_le, sum_same, sum_add, sum_zero, sum_in, sum_some, sum_none, sum_suc}
use Rattle.laws.proofs.Only.{only_none, only_add, only_some, only_true, only_false, only_same, only_le, only_mono}
use Rattle.busy.specs.Window.{over_higher, over_both}

module _ (higher : ℕ → Bool) (n : ℕ) where
  pub higher_add : (f g : ℕ → ℕ) → over_higher higher n (λ k. f k + g k) ≡ over_higher higher n f + over_higher higher n g
  higher_add f g = sum_same _ _ n (λ k l. only_add (higher k) (f k) (g k)) ∙ sum_add _ _ n

  pub higher_same : (f g : ℕ → ℕ) → ((k : ℕ) → f k ≡ g k) → over_higher higher n f ≡ over_higher higher n g
  higher_same f g h = sum_same _ _ n (λ k l. ap (only (higher k)) (h k))

  pub higher_le : (f g : ℕ → ℕ) → ((k : ℕ) → f k ≤ g k) → over_higher higher n f ≤ over_higher higher n g
  higher_le f g h = sum_le _ _ n (λ k l. only_mono (higher k) (h k))

  -- only the higher tasks below n count
  pub higher_same_of : (f g : ℕ → ℕ) → ((k : ℕ) → k < n → higher k ≡ true → f k ≡ g k) → over_higher higher n f ≡ over_higher higher n g
  higher_same_of f g h = sum_same _ _ n (λ k l. only_same (higher k) (f k) (g k) (h k l))

  pub higher_le_of : (f g : ℕ → ℕ) → ((k : ℕ) → k < n → higher k ≡ true → f k ≤ g k) → over_higher higher n f ≤ over_higher higher n g
  higher_le_of f g h = sum_le _ _ n (λ k l. go k l (higher k) refl)
    where
      go : (k : ℕ) → k < n → (b : Bool) → higher k ≡ b → only b (f k) ≤ only b (g k)
      go k l true up = h k l up
      go k l false up = omega arith

  pub higher_zero : (f : ℕ → ℕ) → ((k : ℕ) → f k ≡ 0) → over_higher higher n f ≡ 0
  higher_zero f h = sum_zero _ n (λ k l. ap (only (higher k)) (h k) ∙ only_none (higher k))

  -- one higher task's part is at most the sum
  pub higher_in : (f : ℕ → ℕ) (k : ℕ) → k < n → higher k ≡ true → f k ≤ over_higher higher n f
  higher_in f k l h = omega (arith, sum_in (λ j. only (higher j) (f j)) n k l, only_true (higher k) (f k) h)

  -- a sum over 0 has a higher task with a part over 0
  pub higher_some : (f : ℕ → ℕ) → 0 < over_higher higher n f → (k : ℕ) × (k < n) × (higher k ≡ true) × (0 < f k)
  higher_some f h =
      let r = sum_some (λ j. only (higher j) (f j)) n h in
      let s = only_some (higher r.0) (f r.0) r.2 in (r.0, r.1, s.0, s.1)

-- 1 for task j and 0 for every other
abbrev pub just : (j k : ℕ) → ℕ
just j k = only (eqb k j) 1

just_other : (j k : ℕ) → (k ≡ j → ⊥) → just j k ≡ 0
just_other j k apart = only_false (eqb k j) 1 (ne_eqb k j apart)

module _ (higher : ℕ → Bool) (j : ℕ) where
  part_other : (k : ℕ) → (k ≡ j → ⊥) → only (higher k) (just j k) ≡ 0
  part_other k apart = ap (only (higher k)) (just_other j k apart) ∙ only_none (higher k)

  -- of one task the sum has nothing where it is not higher, and 1 at most
  higher_miss : (n : ℕ) → higher j ≡ false → over_higher higher n (just j) ≡ 0
  higher_miss n not_higher = sum_zero _ n (λ k l. each k (ℕ_discrete k j))
    where
      each : (k : ℕ) → Dec (k ≡ j) → only (higher k) (just j k) ≡ 0
      each k (yes same) = only_false (higher k) (just j k) (ap higher same ∙ not_higher)
      each k (no apart) = part_other k apart

  higher_one : (n : ℕ) → over_higher higher n (just j) ≤ 1
  higher_one zero = omega (arith, sum_none (λ k. only (higher k) (just j k)))
  higher_one (suc n) = go (higher_one n) (ℕ_discrete n j)
    where
      go : over_higher higher n (just j) ≤ 1 → Dec (n ≡ j) → over_higher higher (suc n) (just j) ≤ 1
      go earlier (yes same) =
          omega (
            arith,
            sum_suc (λ k. only (higher k) (just j k)) n,
            sum_zero (λ k. only (higher k) (just j k)) n (λ k below. part_other k (λ z. omega arith)),
            only_le (higher n) (just j n),
            only_le (eqb n j) 1,
          )
      go earlier (no apart) = omega (arith, sum_suc (λ k. only (higher k) (just j k)) n, part_other n apart)

module _ (higher : ℕ → Bool) (i n : ℕ) where
  pub both_add : (f g : ℕ → ℕ) → over_both higher i n (λ k. f k + g k) ≡ over_both higher i n f + over_both higher i n g
  both_add f g = omega (arith, higher_add higher n f g)

  pub both_same : (f g : ℕ → ℕ) → ((k : ℕ) → f k ≡ g k) → over_both higher i n f ≡ over_both higher i n g
  both_same f g h = omega (arith, h i, higher_same higher n f g h)

  -- one task counts once at most, and not at all where it is neither i nor higher
  pub both_miss : (j : ℕ) → (i ≡ j → ⊥) → higher j ≡ false → over_both higher i n (just j) ≡ 0
  both_miss j apart not_higher = omega (arith, just_other j i apart, higher_miss higher j n not_higher)

  pub both_one : higher i ≡ false → (j : ℕ) → over_both higher i n (just j) ≤ 1
  both_one not_itself j = go (ℕ_discrete i j)
    where
      go : Dec (i ≡ j) → over_both higher i n (just j) ≤ 1
      go (yes same) = omega (arith, only_le (eqb i j) 1, higher_miss higher j n (ap higher (sym same) ∙ not_itself))
      go (no apart) = omega (arith, just_other j i apart, higher_one higher j n)
