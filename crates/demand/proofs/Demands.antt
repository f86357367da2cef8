-- The test over an order within the limits: its demands grow, they are those over the higher members' work, and a window has room for all its jobs.
use mathlib.Core.Path.{◌≡◌, refl, sym, ap, subst}
use Prim.Native.Nat.{ℕ, ◌+◌, ◌-◌, ◌*◌, ◌≤◌, ◌<◌}
use native.Mathlib.Nat.{le_trans}
use native.Mathlib.Omega.{arith}
use Rattle.laws.specs.Sums.{only}
use Rattle.laws.proofs.Sums.{sum_le, sum_same, largest_le}
use Rattle.laws.proofs.Only.{only_mono, only_le}
use Rattle.laws.proofs.Picked.{sum_with}
use Rattle.model.specs.declared.order.Order.{Order}
use Rattle.model.specs.Limits.{task_of}
use Rattle.model.specs.Rules.{WithinLimits, Sized}
use Rattle.model.proofs.Ranges.{sized}
use Rattle.demand.specs.Priority.{Members, higher, lower}
use Rattle.demand.specs.Releases.{period_of, cost_of, work_in, work_by}
use Rattle.demand.specs.Test.{first_met, blocking, window_demand, window, higher_work, start_demand, start, response, worst, verdict}
use Rattle.demand.specs.Meaning.{FirstMetAt, IsWindow, IsStart}
use Rattle.demand.specs.Over.{start_over, window_over, job_base, response_over, verdict_over}
use Rattle.demand.proofs.Releases.{work_mono, work_in_by}
use Rattle.demand.proofs.Priority.{higher_self}
use Rattle.demand.proofs.FirstMet.{met_same}
use Rattle.demand.proofs.Over as over

-- of each task of an order within the limits
module _ (o : Order) (limits : WithinLimits o) where
  pub sized_of : (j : ℕ) → j < o.tasks → Sized (task_of o j)
  sized_of j l = sized o.processors (task_of o j) (limits.each j l)

  pub cost_of_most : (j : ℕ) → j < o.tasks → cost_of o j ≤ 1_000_000
  cost_of_most j l = let s = sized_of j l in omega (arith, s.cost_most, s.deadline_most, s.period_most)

module _ (o : Order) (member : Members) (i : ℕ) (limits : WithinLimits o) where
  -- what the higher members ask, and what the test asks over it
  abbrev pub Above : ℕ → ℕ
  Above = higher_work o member i

  pub blocking_most : blocking o member i ≤ 1_000_000
  unfolding blocking
  blocking_most =
      omega (arith, largest_le (λ j. only (lower o member i j) (cost_of o j)) o.tasks 1_000_000 (λ j l. le_trans (only_le (lower o member i j) (cost_of o j)) (cost_of_most o limits j l)))

  pub work_grows : over.Grows Above
  unfolding higher_work
  work_grows a b h =
      sum_le _ _ o.tasks (λ j l. only_mono (higher o member i j) (work_mono (task_of o j) (sized_of o limits j l).period_least h))

  pub start_over_lem : (q : ℕ) → start_demand o member i q ≡ start_over Above (job_base Above (blocking o member i) (task_of o i) q)
  unfolding start_demand start_over
  start_over_lem q = refl

  pub response_over_lem : (q : ℕ) → response o member i q ≡ response_over Above (blocking o member i) (task_of o i) q
  unfolding response response_over start start_demand start_over
  response_over_lem q = refl

  module _ (mine : i < o.tasks) where
    pub window_over_lem : (t : ℕ) → 1 ≤ t → window_demand o member i t ≡ window_over Above (blocking o member i) (task_of o i) t
    unfolding window_demand window_over higher_work
    window_over_lem t from =
        let split = sum_with (higher o member i) (λ j. work_in (task_of o j) t) i (higher_self o member i) o.tasks mine in
        let own = work_in_by (task_of o i) (sized_of o limits i mine).period_least t from in
        let others = sum_same (λ j. only (higher o member i j) (work_in (task_of o j) t)) (λ j. only (higher o member i j) (work_by (task_of o j) (t - 1))) o.tasks
        (λ j l. ap (only (higher o member i j)) (work_in_by (task_of o j) (sized_of o limits j l).period_least t from)) in
        omega arith

    pub window-is_over : window o member i ≡ first_met (window_over Above (blocking o member i) (task_of o i)) 1
    unfolding window
    window-is_over = met_same _ _ 1 window_over_lem

    -- the verdict, over the work
    pub verdict-is_over : verdict o member i ≡ verdict_over Above (blocking o member i) (task_of o i)
    unfolding verdict verdict_over worst response_over response start start_demand start_over
    verdict-is_over = rw window-is_over

    -- a window, over the work
    pub over_window : (L : ℕ) → IsWindow o member i L → FirstMetAt (window_over Above (blocking o member i) (task_of o i)) 1 L
    over_window L is =
        record {
          from = is.from;
          upto = is.upto;
          met = omega (arith, is.met, window_over_lem L is.from);
          earlier = λ s a b. omega (arith, is.earlier s a b, window_over_lem s a);
        }

    -- job q of a window of L: its start, at or after its release; and it ends in the window
    pub record JobOf (L q : ℕ) : Type 0 where
      pub at : ℕ
      pub is : IsStart o member i q at
      pub release : q * period_of o i ≤ at
      pub ends : at + cost_of o i ≤ L

    pub job_of : (L q : ℕ) → IsWindow o member i L → q * period_of o i < L → JobOf L q
    job_of L q window inside =
        let s = sized_of o limits i mine in
        let j = over.job Above work_grows (blocking o member i) (task_of o i) s.period_least s.cost-least L q (over_window L window) inside in
        record {
          at = j.at;
          is = subst (λ (f : ℕ → ℕ). FirstMetAt f 0 j.at) (sym (start_over_lem q)) j.is;
          release = j.release;
          ends = j.ends;
        }
