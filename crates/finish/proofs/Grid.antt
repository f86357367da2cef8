-- The work that a script releases, over all tasks and ticks, is at most its durations together.
use Prim.Native.Nat.{ℕ, zero, suc, ◌+◌, ◌*◌, ◌≤◌, ◌<◌}
use mathlib.Core.Path.{◌≡◌, refl}
use mathlib.Core.Bool.{Bool, true, false, ◌&&◌}
use mathlib.Core.List.{List, [], ◌∷◌}
use native.Mathlib.Decide.{dec_lt}
use native.Mathlib.Nat.{suc-mul}
use native.Mathlib.Omega.{arith}
use lib.Dec.{eqb}
use lib.ListN.{length}
use borrow.Author.Tests.{eqb-true}
use Rattle.laws.specs.Choice.{pick}
use Rattle.laws.specs.Sums.{only, sum}
use Rattle.laws.proofs.Sums.{sum_none, sum_suc, sum_le, sum_add, sum_zero}
use Rattle.model.specs.declared.build.Release.{Release}
use Rattle.machine.specs.Pattern.{record_of, joins_at, pattern_of}

-- at most one number of a range is a
module _ (a : ℕ) (c : Bool) (x : ℕ) where
  abbrev here : ℕ → ℕ
  here u = only (eqb a u && c) x

  unequal : (u : ℕ) → (a ≡ u → ⊥) → here u ≡ 0
  unequal u ne = go (eqb a u) refl
    where
      go : (b : Bool) → eqb a u ≡ b → only (b && c) x ≡ 0
      go true e = absurd (ne (eqb-true a u e))
      go false e = refl

  at_most : (u : ℕ) → here u ≤ only c x
  at_most u = go (eqb a u)
    where
      go : (b : Bool) → only (b && c) x ≤ only c x
      go true = omega arith
      go false = omega arith

  pub one_hit : (t : ℕ) → sum here t ≤ only c x
  one_hit zero = omega (arith, sum_none here)
  one_hit (suc t) = go (one_hit t) (dec_lt a t) (dec_lt t a)
    where
      go : sum here t ≤ only c x → Dec (a < t) → Dec (t < a) → sum here (suc t) ≤ only c x
      go ih (yes l) d = omega (arith, sum_suc here t, unequal t (λ e. omega arith))
      go ih (no l) (yes g) = omega (arith, sum_suc here t, unequal t (λ e. omega arith))
      go ih (no l) (no g) = omega (arith, sum_suc here t, at_most t, sum_zero here t (λ j m. unequal j (λ e. omega arith)))

-- the durations of a script's records, together
unfoldable pub total : List Release → ℕ
total [] = 0
total (r ∷ script) = r.duration + total script

pub total_most : (most : ℕ) (script : List Release) → ((i : ℕ) → i < length script → (record_of script i).duration ≤ most) → total script ≤ length script * most
unfolding total
total_most most [] each = omega arith
total_most most (r ∷ script) each =
    omega (arith, each 0 (omega arith), total_most most script (λ i l. each (suc i) (omega arith)), suc-mul (length script) most)

-- the work released before a tick by the tasks below n
abbrev pub released_work : List Release → (n t : ℕ) → ℕ
released_work script n t = sum (λ k. sum (λ u. pattern_of script u k) t) n

pub released_most : (script : List Release) (n t : ℕ) → released_work script n t ≤ total script
unfolding total pattern_of
released_most [] n t = omega (arith, sum_zero (λ k. sum (λ u. 0) t) n (λ k l. sum_zero (λ u. 0) t (λ u m. refl)))
released_most (r ∷ script) n t =
    omega (
      arith,
      released_most script n t,
      sum_le (λ k. sum (λ u. pattern_of (r ∷ script) u k) t) (λ k. only (eqb r.task k && true) r.duration + sum (λ u. pattern_of script u k) t) n (λ k l. column k),
      sum_add (λ k. only (eqb r.task k && true) r.duration) (λ k. sum (λ u. pattern_of script u k) t) n,
      one_hit r.task true r.duration n,
    )
  where
    first_or_rest : (b : Bool) (x y : ℕ) → pick b x y ≤ only b x + y
    first_or_rest true x y = omega arith
    first_or_rest false x y = omega arith

    and_true : (b : Bool) → only b r.duration ≡ only (b && true) r.duration
    and_true true = refl
    and_true false = refl

    column : (k : ℕ) → sum (λ u. pattern_of (r ∷ script) u k) t ≤ only (eqb r.task k && true) r.duration + sum (λ u. pattern_of script u k) t
    column k =
        omega (
          arith,
          sum_le (λ u. pattern_of (r ∷ script) u k) (λ u. only (eqb (joins_at r) u && eqb r.task k) r.duration + pattern_of script u k) t (λ u l. first_or_rest (eqb (joins_at r) u && eqb r.task k) r.duration (pattern_of script u k)),
          sum_add (λ u. only (eqb (joins_at r) u && eqb r.task k) r.duration) (λ u. pattern_of script u k) t,
          one_hit (joins_at r) (eqb r.task k) r.duration t,
          and_true (eqb r.task k),
        )
