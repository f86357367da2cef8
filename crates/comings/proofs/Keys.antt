-- Laws of joined lists and of sums over keys, tick * 32 + task.
use Prim.Native.Nat.{ℕ, zero, suc, ◌+◌, ◌*◌, ◌≤◌, ◌<◌}
use mathlib.Core.Path.{◌≡◌, refl, sym, ap}
use mathlib.Core.List.{List, [], append-nil}
use mathlib.Core.Logic.{⊎_elim}
use native.Mathlib.Nat.{eq-or-lt_of_le, suc-mul}
use native.Mathlib.Omega.{arith}
use lib.ListN.{length, length-append}
use Rattle.laws.specs.Joined.{joined}
use Rattle.laws.specs.Sums.{sum}
use Rattle.laws.proofs.Sums.{sum_add, sum_zero}
use Rattle.laws.proofs.Inserted.{sum_split}

module _ {A : Type 0} (f : ℕ → List A) where
  -- from n up to m nothing is joined
  pub joined_nothing : (n m : ℕ) → n ≤ m → ((i : ℕ) → n ≤ i → i < m → f i ≡ []) → joined f m ≡ joined f n
  unfolding joined
  joined_nothing zero zero le none = refl
  joined_nothing (suc n) zero le none = absurd (omega arith)
  joined_nothing n (suc m) le none =
      ⊎_elim
      (λ e. ap (joined f) (sym e))
      (λ l. rw (none m (omega arith) (omega arith), append-nil) (joined_nothing n m (omega arith) (λ i p q. none i p (omega arith))))
      (eq-or-lt_of_le le)

  pub length_as_sum : (n : ℕ) → length (joined f n) ≡ sum (λ i. length (f i)) n
  unfolding joined sum
  length_as_sum zero = refl
  length_as_sum (suc n) = rw (length-append, length_as_sum n)

-- a sum of sums, in either order
pub sum_exchange : (f : ℕ → ℕ → ℕ) (n m : ℕ) → sum (λ i. sum (f i) m) n ≡ sum (λ j. sum (λ i. f i j) n) m
unfolding sum
sum_exchange f zero m = sym (sum_zero (λ j. 0) m (λ j l. refl))
sum_exchange f (suc n) m = rw (sum_exchange f n m) (sym (sum_add (λ j. sum (λ i. f i j) n) (f n) m))

-- a sum over the keys before a tick, tick by tick and task by task
pub sum_keys : (f : ℕ → ℕ) (ticks : ℕ) → sum f (ticks * 32) ≡ sum (λ tick. sum (λ task. f (tick * 32 + task)) 32) ticks
unfolding sum
sum_keys f zero = refl
sum_keys f (suc ticks) = rw (suc-mul, sum_split f (ticks * 32) 32, sum_keys f ticks)
