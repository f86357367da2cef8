-- What the test answers of a task alone, and that it looks at members alone.
use mathlib.Core.Path.{◌≡◌, refl, ap, ap₂, fun_ext}
use mathlib.Core.Bool.{Bool, false, ◌||◌}
use Prim.Native.Nat.{ℕ, zero, suc, ◌+◌, ◌-◌, ◌*◌, ◌≤◌, ◌<◌}
use native.Mathlib.Nat.{zero-mul, one-mul, suc-mul, le_of_eq}
use native.Mathlib.Decide.{ℕ_discrete}
use native.Mathlib.Omega.{arith}
use lib.Dec.{eqb}
use Rattle.laws.specs.Sums.{only, largest}
use Rattle.laws.proofs.Sums.{sum_same, sum_zero, largest_le}
use Rattle.model.specs.declared.order.Order.{Order}
use Rattle.model.specs.Limits.{task_of}
use Rattle.model.specs.Rules.{WithinLimits}
use Rattle.demand.specs.Priority.{Members, deadline_of, higher, lower, rank}
use Rattle.demand.specs.Releases.{period_of, cost_of, work_in, work_by, jobs}
use Rattle.demand.specs.Test.{first_met, blocking, window_demand, window, higher_work, start_demand, start, response_from, response, largest_found, worst, verdict_by, verdict}
use Rattle.demand.specs.Meaning.{IsWindow, IsResponse, IsPassing, AlonePasses, OnlyMembersCount}
use Rattle.demand.specs.Over.{window_over}
use Rattle.demand.proofs.Releases.{work_few, work_spaced}
use Rattle.demand.proofs.Priority.{not_higher, outranks_self, higher_self}
use Rattle.demand.proofs.Demands.{sized_of, cost_of_most, window_over_lem}
use Rattle.demand.proofs.Meaning.{every_verdict_means}

largest_same : (f g : ℕ → ℕ) (n : ℕ) → ((j : ℕ) → j < n → f j ≡ g j) → largest f n ≡ largest g n
unfolding largest
largest_same f g zero same = refl
largest_same f g (suc n) same = rw (largest_same f g n (λ j l. same j (omega arith)), same n (omega arith))

-- the verdict looks at nothing but the higher members and the blocking
module _ (o : Order) (member others : Members) (i : ℕ) (higher_same : (j : ℕ) → j < o.tasks → higher o member i j ≡ higher o others i j) (blocking_same : blocking o member i ≡ blocking o others i) where
  window_same : (t : ℕ) → window_demand o member i t ≡ window_demand o others i t
  unfolding window_demand
  window_same t =
      ap₂ (λ (x y : ℕ). x + y) blocking_same
      (sum_same _ _ o.tasks (λ j l. ap (λ (b : Bool). only (eqb j i || b) (work_in (task_of o j) t)) (higher_same j l)))

  start_same : (q w : ℕ) → start_demand o member i q w ≡ start_demand o others i q w
  unfolding start_demand higher_work
  start_same q w =
      ap₂ (λ (x y : ℕ). x + q * cost_of o i + y) blocking_same
      (sum_same _ _ o.tasks (λ j l. ap (λ (b : Bool). only b (work_by (task_of o j) w)) (higher_same j l)))

  response_same : (q : ℕ) → response o member i q ≡ response o others i q
  unfolding response start
  response_same q = ap (λ f. response_from (first_met f 0) (cost_of o i) (q * period_of o i)) (fun_ext (start_same q))

  pub verdict_alike : verdict o member i ≡ verdict o others i
  unfolding verdict worst window
  verdict_alike =
      ap₂ (λ f g. verdict_by (first_met f 1) (λ L. largest_found g (jobs (task_of o i) L)) (deadline_of o i)) (fun_ext window_same) (fun_ext response_same)

module _ (o : Order) (member others : Members) (i : ℕ) (same : (j : ℕ) → j < o.tasks → member j ≡ others j) where
  higher_same : (j : ℕ) → j < o.tasks → higher o member i j ≡ higher o others i j
  unfolding higher
  higher_same j l = rw (same j l)

  lower_same : (j : ℕ) → j < o.tasks → lower o member i j ≡ lower o others i j
  unfolding lower
  lower_same j l = rw (same j l)

  pub rank_same : rank o member i ≡ rank o others i
  unfolding rank
  rank_same = sum_same _ _ o.tasks (λ j l. ap (λ (b : Bool). only b 1) (higher_same j l))

  blocking_same : blocking o member i ≡ blocking o others i
  unfolding blocking
  blocking_same = ap (λ (x : ℕ). x - 1) (largest_same _ _ o.tasks (λ j l. ap (λ (b : Bool). only b (cost_of o j)) (lower_same j l)))

  pub verdict_same : verdict o member i ≡ verdict o others i
  verdict_same = verdict_alike o member others i higher_same blocking_same

pub only_members_count : OnlyMembersCount
only_members_count o member others i same = (rank_same o member others i same, verdict_same o member others i same)

-- a task alone in its partition
module _ (o : Order) (member : Members) (i : ℕ) (limits : WithinLimits o) (mine : i < o.tasks) (alone : (j : ℕ) → j < o.tasks → (j ≡ i → ⊥) → member j ≡ false) where
  no_higher : (j : ℕ) → j < o.tasks → higher o member i j ≡ false
  unfolding higher
  no_higher j l = elim (ℕ_discrete j i) [ yes e ↦ rw e (higher_self o member i) | no ne ↦ rw (alone j l ne) ]

  no_lower : (j : ℕ) → j < o.tasks → lower o member i j ≡ false
  unfolding lower higher
  no_lower j l = elim (ℕ_discrete j i) [ yes e ↦ rw e (not_higher o member i i (outranks_self o i)) | no ne ↦ rw (alone j l ne) ]

  no_blocking : blocking o member i ≡ 0
  unfolding blocking
  no_blocking =
      omega (arith, largest_le (λ j. only (lower o member i j) (cost_of o j)) o.tasks 0 (λ j l. le_of_eq (ap (λ (b : Bool). only b (cost_of o j)) (no_lower j l))))

  no_work : (w : ℕ) → higher_work o member i w ≡ 0
  unfolding higher_work
  no_work w = sum_zero _ o.tasks (λ j l. ap (λ (b : Bool). only b (work_by (task_of o j) w)) (no_higher j l))

  asked : (t : ℕ) → 1 ≤ t → window_demand o member i t ≡ work_by (task_of o i) (t - 1)
  unfolding window_over
  asked t from = omega (arith, window_over_lem o member i limits mine t from, no_blocking, no_work (t - 1))

  alone-window : IsWindow o member i (cost_of o i)
  alone-window =
      let s = sized_of o limits i mine in
      let C = cost_of o i in
      let T = period_of o i in
      record {
        from = s.cost-least;
        upto = cost_of_most o limits i mine;
        met = omega (arith, asked C s.cost-least, work_few (task_of o i) s.period_least (C - 1) 1 (omega (arith, one-mul T, s.cost-least, s.cost_most, s.deadline_most)), one-mul C);
        earlier = λ t a b. omega (arith, asked t a, work_spaced (task_of o i) s.period_least (t - 1) 0 (omega (arith, zero-mul T)), one-mul C);
      }

  alone-response : IsResponse o member i 0 (cost_of o i)
  unfolding start_demand
  alone-response =
      record {
        start = 0;
        start_is =
            record {
              from = omega arith;
              upto = omega arith;
              met = omega (arith, no_blocking, no_work 0, zero-mul (cost_of o i));
              earlier = λ s a b. absurd (omega arith);
            };
        response_is = omega (arith, zero-mul (period_of o i));
      }

  first_alone : (q : ℕ) → q * period_of o i < cost_of o i → IsResponse o member i q (cost_of o i)
  first_alone zero l = alone-response
  first_alone (suc q) l = let s = sized_of o limits i mine in absurd (omega (arith, suc-mul q (period_of o i), s.cost_most, s.deadline_most))

  alone_passes : IsPassing o member i (cost_of o i)
  alone_passes =
      record {
        size = cost_of o i;
        window = alone-window;
        each = λ q l. (cost_of o i, first_alone q l, omega arith);
        attained = (0, omega (arith, zero-mul (period_of o i), (sized_of o limits i mine).cost-least), alone-response);
        in_time_lem = (sized_of o limits i mine).cost_most;
      }

  pub alone_closes : IsWindow o member i (cost_of o i)
  alone_closes = alone-window

pub every_alone_passes : AlonePasses
every_alone_passes o member i limits mine alone =
    ((every_verdict_means o member i limits mine).passes (cost_of o i)).1 (alone_passes o member i limits mine alone)
