-- A legal pattern keeps to the response test's counts of releases.
use Prim.Native.Nat.{ℕ, zero, suc, ◌+◌, ◌*◌, ◌-◌, ◌≤◌, ◌<◌}
use mathlib.Core.Path.{◌≡◌, refl, ap}
use native.Mathlib.Nat.{add-zero}
use native.Mathlib.Omega.{arith}
use Rattle.laws.specs.Sums.{only}
use Rattle.laws.proofs.Growth.{sum_further}
use Rattle.laws.proofs.Only.{only_some, only_le}
use Rattle.model.specs.declared.order.Order.{Order}
use Rattle.model.specs.Limits.{task_of, cost}
use Rattle.model.specs.Rules.{WithinLimits}
use Rattle.demand.specs.Priority.{Members}
use Rattle.demand.specs.Releases.{period_of, cost_of, work_by}
use Rattle.demand.proofs.Releases.{work_spaced}
use Rattle.demand.proofs.Demands.{sized_of}
use Rattle.machine.specs.Step.{Pattern, of_members}
use Rattle.machine.specs.Pattern.{LegalPattern, run_of}
use Rattle.machine.proofs.Line.{released_before}
use Rattle.busy.specs.Window.{Arrivals}

-- a job takes at most the cost of its task
run_in_cost : (o : Order) (k : ℕ) → run_of o k ≤ cost_of o k
unfolding cost
run_in_cost o k = omega arith

-- the most that task k releases within x + 1 ticks, as the test counts
abbrev pub most : Order → ℕ → ℕ → ℕ
most o k x = work_by (task_of o k) x

-- what reaches a partition's members is legal
pub members_legal : (o : Order) (member : Members) (releases : Pattern) → LegalPattern o releases → LegalPattern o (of_members o member releases)
unfolding of_members
members_legal o member releases legal =
    record {
      known = λ t k h. legal.known t k (some t k h);
      durations = λ t k h. omega (arith, only_le (member k) (releases t k), legal.durations t k (some t k h));
      apart = λ t u k h g. legal.apart t u k (some t k h) (some u k g);
    }
  where
    some : (t k : ℕ) → 0 < only (member k) (releases t k) → 0 < releases t k
    some t k h = (only_some (member k) (releases t k) h).1

module _ (o : Order) (limits : WithinLimits o) (releases : Pattern) (legal : LegalPattern o releases) where
  pub short : (t k : ℕ) → releases t k ≤ cost_of o k
  short t k = go (releases t k) refl
    where
      go : (x : ℕ) → releases t k ≡ x → releases t k ≤ cost_of o k
      go zero e = omega arith
      go (suc x) e = omega (arith, legal.durations t k (omega arith), run_in_cost o k)

  abbrev work : ℕ → ℕ → ℕ
  work = released_before releases

  -- what task k released in the x ticks from t: nothing, or m + 1 jobs, the last of them l ticks after t
  data Came (k t x : ℕ) : Type 0 where
    none : work k (t + x) ≡ work k t → Came k t x
    some : (m l : ℕ) → work k (t + x) ≤ work k t + suc m * cost_of o k → l < x → 0 < releases (t + l) k → m * period_of o k ≤ l → Came k t x

  came : (k t x : ℕ) → Came k t x
  came k t zero = none (ap (work k) (add-zero t))
  came k t (suc x) = go (came k t x) (releases (t + x) k) refl
    where
      go : Came k t x → (y : ℕ) → releases (t + x) k ≡ y → Came k t (suc x)
      go (none e) zero z = none (omega (arith, sum_further (λ u. releases u k) t x))
      go (none e) (suc y) z = some 0 x (omega (arith, sum_further (λ u. releases u k) t x, short (t + x) k)) (omega arith) (omega arith) (omega arith)
      go (some m l few below r gap) zero z = some m l (omega (arith, sum_further (λ u. releases u k) t x)) (omega arith) r gap
      go (some m l few below r gap) (suc y) z =
          some (suc m) x (omega (arith, sum_further (λ u. releases u k) t x, short (t + x) k)) (omega arith) (omega arith)
          (omega (arith, legal.apart (t + l) (t + x) k r (omega arith) (omega arith)))

  few : (k t x : ℕ) → work k (t + suc x) ≤ work k t + most o k x
  few k t x = go (came k t (suc x))
    where
      go : Came k t (suc x) → work k (t + suc x) ≤ work k t + most o k x
      go (none e) = omega arith
      go (some m l few below r gap) =
          omega (arith, work_spaced (task_of o k) (sized_of o limits k (legal.known (t + l) k r)).period_least x m (omega arith))

  own : (i t a : ℕ) → t ≤ a → 0 < releases a i → (q : ℕ) × (work i a ≤ work i t + q * cost_of o i) × (t + q * period_of o i ≤ a)
  own i t a h r = go (a - t) (omega arith) (came i t (a - t))
    where
      go : (x : ℕ) → t + x ≡ a → Came i t x → (q : ℕ) × (work i a ≤ work i t + q * cost_of o i) × (t + q * period_of o i ≤ a)
      go x e (none z) = (0, omega (arith, ap (work i) e), omega arith)
      go x e (some m l few below r' gap) = (suc m, omega (arith, ap (work i) e), omega (arith, legal.apart (t + l) a i r' r (omega arith)))

  pub arrivals : (i : ℕ) → Arrivals i (most o) (period_of o i) (cost_of o i) 0 releases (λ a. a)
  arrivals i = record { few = few; short = λ a. short a i; near = λ a h. omega arith; own = own i }
