-- Laws of a test of each number below a bound, and of how many pass.
use mathlib.Core.Path.{◌≡◌, refl, sym, ap, ◌∙◌, subst}
use mathlib.Core.Bool.{Bool, true, false, ◌&&◌}
use mathlib.Core.Logic.{⊎_elim}
use Prim.Native.Nat.{ℕ, zero, suc, ◌+◌, ◌≤◌, ◌<◌}
use native.Mathlib.Nat.{eq-or-lt_of_le, le_of_suc-le-suc, mul-one}
use native.Mathlib.Numerals.{add-one}
use native.Mathlib.Omega.{arith}
use Rattle.laws.specs.Every.{every}
use Rattle.laws.specs.Sums.{only, sum}
use Rattle.laws.proofs.Only.{only_le}
use Rattle.laws.proofs.Picked.{sum_most}

pub clash : {A : Type 0} → false ≡ true → A
clash e = let z : ◌≡◌ {A = ℕ} 0 1 = cc e in absurd (omega arith)

pub and_both : (a b : Bool) → (a && b) ≡ true → (a ≡ true) × (b ≡ true)
and_both true b e = (refl, e)
and_both false b e = clash e

pub both_and : (a b : Bool) → a ≡ true → b ≡ true → (a && b) ≡ true
both_and a b p q = rw (p, q)

module _ (passes : ℕ → Bool) where
  pub every_none : every passes 0 ≡ true
  unfolding every
  every_none = refl

  pub every_more : (n : ℕ) → every passes n ≡ true → passes n ≡ true → every passes (n + 1) ≡ true
  unfolding every
  every_more n earlier here = rw (add-one, every, earlier) here

  pub every_at : (n : ℕ) → every passes n ≡ true → (j : ℕ) → j < n → passes j ≡ true
  unfolding every
  every_at zero e j l = absurd (omega arith)
  every_at (suc n) e j l =
      let both = and_both (every passes n) (passes n) e in
      ⊎_elim
      (λ s. subst (λ (x : ℕ). passes x ≡ true) (sym s) both.1)
      (λ below. every_at n both.0 j below)
      (eq-or-lt_of_le (le_of_suc-le-suc l))

  pub every_all : (n : ℕ) → ((j : ℕ) → j < n → passes j ≡ true) → every passes n ≡ true
  unfolding every
  every_all zero each = refl
  every_all (suc n) each =
      both_and (every passes n) (passes n) (every_all n (λ j l. each j (omega arith))) (each n (omega arith))

  -- one that fails is enough
  pub every_stop : (n j : ℕ) → j < n → passes j ≡ false → every passes n ≡ false
  every_stop n j l e = go (every passes n) refl
    where
      go : (b : Bool) → every passes n ≡ b → every passes n ≡ false
      go true p = clash (sym e ∙ every_at n p j l)
      go false p = p

  -- how many pass: at most all, and all just where each does
  pub count_le : (n : ℕ) → sum (λ j. only (passes j) 1) n ≤ n
  count_le n = omega (arith, sum_most (λ j. only (passes j) 1) 1 n (λ j l. only_le (passes j) 1), mul-one n)

  pub count_each : (n : ℕ) → ((j : ℕ) → j < n → passes j ≡ true) → sum (λ j. only (passes j) 1) n ≡ n
  unfolding sum
  count_each zero each = refl
  count_each (suc n) each =
      let one : only (passes n) 1 ≡ 1 = ap (λ (x : Bool). only x 1) (each n (omega arith)) in
      omega (arith, count_each n (λ j l. each j (omega arith)))

  pub count_all : (n : ℕ) → sum (λ j. only (passes j) 1) n ≡ n → (j : ℕ) → j < n → passes j ≡ true
  unfolding sum
  count_all zero e j l = absurd (omega arith)
  count_all (suc n) e j l = go (λ (h : sum (λ j. only (passes j) 1) n ≡ n) (b : j < n). count_all n h j b) (passes n) refl e
    where
      go : (sum (λ j. only (passes j) 1) n ≡ n → j < n → passes j ≡ true) → (b : Bool) → passes n ≡ b → sum (λ j. only (passes j) 1) n + only b 1 ≡ suc n → passes j ≡ true
      go earlier true h s =
          ⊎_elim (λ same. ap passes same ∙ h) (λ below. earlier (omega arith) below) (eq-or-lt_of_le (le_of_suc-le-suc l))
      go earlier false h s = absurd (omega (arith, count_le n))
