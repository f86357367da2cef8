-- Rows of ranked members give what the test asks of the order itself.
use Rattle.std.specs.Prelude.{Option}
use mathlib.Core.Path.{◌≡◌, refl, sym, ap, ◌∙◌, fun_ext}
use Prim.Native.Nat.{ℕ, ◌+◌, ◌-◌, ◌*◌, ◌≤◌, ◌<◌}
use native.Mathlib.Omega.{arith}
use Rattle.laws.proofs.Sums.{sum_same, largest_same}
use Rattle.model.specs.declared.order.Task.{Task}
use Rattle.model.specs.declared.order.Order.{Order}
use Rattle.model.specs.Limits.{most_tasks, task_of, cost}
use Rattle.model.specs.Rules.{WithinLimits, Sized}
use Rattle.demand.specs.Priority.{Members}
use Rattle.demand.specs.Releases.{ceil_div, releases_by, work_by, jobs}
use Rattle.demand.specs.Test.{first_met, response_from, largest_found, verdict_by, blocking, higher_work, verdict}
use Rattle.demand.specs.Over.{start_over, window_over, response_over, verdict_over}
use Rattle.demand.proofs.Demands.{sized_of, verdict-is_over}
use Rattle.asked.specs.Rows.{row_task, share_of, RowsFit, asked_by, blocking_in}
use Rattle.asked.proofs.RowLaws.{asked_more}
use Rattle.roster.specs.Rows.{RowOf}
use Rattle.roster.specs.Ranked.{Ranked, RowsOf}
use Rattle.roster.proofs.Ranks.{higher_work_lem, blocked_by}
use Rattle.asked.specs.declared.rows.Rows.{Rows}

-- the row's task asks what the task itself does
module _ (rows : Rows) (r : ℕ) (task : Task) (is : RowOf rows r task) where
  row_cost : cost (row_task rows r) ≡ cost task
  unfolding cost
  row_cost = is.cost_is

  pub row_work : (w : ℕ) → work_by (row_task rows r) w ≡ work_by task w
  unfolding work_by releases_by
  row_work w = rw (row_cost, is.period) refl

  pub row_share : share_of (row_task rows r) ≡ share_of task
  unfolding share_of
  row_share = rw (row_cost, is.period) refl

  pub row_sized : Sized task → Sized (row_task rows r)
  row_sized s =
      record {
        cost-least = rw row_cost s.cost-least;
        cost_most = rw (row_cost, is.deadline) s.cost_most;
        deadline_most = rw (is.deadline, is.period) s.deadline_most;
        period_least = rw is.period s.period_least;
        period_most = rw is.period s.period_most;
      }

  row_window : (work : ℕ → ℕ) (B : ℕ) → window_over work B (row_task rows r) ≡ window_over work B task
  unfolding window_over
  row_window work B = fun_ext (λ t. ap (λ (x : ℕ). B + x + work (t - 1)) (row_work (t - 1)))

  row_response : (work : ℕ → ℕ) (B : ℕ) → response_over work B (row_task rows r) ≡ response_over work B task
  unfolding response_over
  row_response work B =
      fun_ext (λ q. ap (λ (C : ℕ). response_from (first_met (start_over work (B + q * C)) 0) C (q * (row_task rows r).period)) row_cost
      ∙ ap (λ (T : ℕ). response_from (first_met (start_over work (B + q * cost task)) 0) (cost task) (q * T)) is.period)

  row_jobs : (L : ℕ) → jobs (row_task rows r) L ≡ jobs task L
  unfolding jobs
  row_jobs L = ap (ceil_div L) is.period

  row_verdict : (work : ℕ → ℕ) (B : ℕ) → verdict_over work B (row_task rows r) ≡ verdict_over work B task
  unfolding verdict_over
  row_verdict work B =
      ap (λ (asked : ℕ → ℕ). verdict_by (first_met asked 1) (λ L. largest_found (response_over work B (row_task rows r)) (jobs (row_task rows r) L)) (row_task rows r).deadline) (row_window work B)
      ∙ ap (λ (f : ℕ → Option ℕ). verdict_by (first_met (window_over work B task) 1) (λ L. largest_found f (jobs (row_task rows r) L)) (row_task rows r).deadline) (row_response work B)
      ∙ ap (λ (g : ℕ → ℕ). verdict_by (first_met (window_over work B task) 1) (λ L. largest_found (response_over work B task) (g L)) (row_task rows r).deadline) (fun_ext row_jobs)
      ∙ ap (verdict_by (first_met (window_over work B task) 1) (λ L. largest_found (response_over work B task) (jobs task L))) is.deadline

module _ (o : Order) (limits : WithinLimits o) (member : Members) (number : ℕ → ℕ) (count : ℕ) (rows : Rows)
    (is : Ranked o member number count) (few : count ≤ most_tasks) (holds : RowsOf o number count rows) where
  pub rows_fit : RowsFit rows count
  rows_fit =
      record {
        few = few;
        each = λ r l. row_sized rows r (task_of o (number r)) (holds r l) (sized_of o limits (number r) (is.within r l));
        shares = λ r l. (holds r l).share ∙ sym (row_share rows r (task_of o (number r)) (holds r l));
      }

  -- what they ask is what the higher members ask
  pub asked_is : (r w : ℕ) → r < count → asked_by rows r w ≡ higher_work o member (number r) w
  unfolding asked_by
  asked_is r w l =
      sum_same _ _ r (λ s k. row_work rows s (task_of o (number s)) (holds s (omega arith)) w) ∙ sym (higher_work_lem o member number count is r w l)

  pub blocking_is : (r : ℕ) → r < count → blocking_in rows count r ≡ blocking o member (number r)
  unfolding blocking_in
  blocking_is r l =
      ap (λ (x : ℕ). x - 1) (largest_same _ _ (count - (r + 1)) (λ s k. (holds (r + 1 + s) (omega arith)).cost_is))
      ∙ sym (blocked_by o member number count is r l)

  -- and the verdict over the rows is the test's
  pub verdict_is : (r : ℕ) → r < count → verdict_over (asked_by rows r) (blocking_in rows count r) (row_task rows r) ≡ verdict o member (number r)
  verdict_is r l =
      row_verdict rows r (task_of o (number r)) (holds r l) (asked_by rows r) (blocking_in rows count r)
      ∙ ap (λ (work : ℕ → ℕ). verdict_over work (blocking_in rows count r) (task_of o (number r))) (fun_ext (λ w. asked_is r w l))
      ∙ ap (λ (B : ℕ). verdict_over (higher_work o member (number r)) B (task_of o (number r))) (blocking_is r l)
      ∙ sym (verdict-is_over o member (number r) limits (is.within r l))

  -- the member itself counted too
  pub asked_with : (r w : ℕ) → r < count → asked_by rows (r + 1) w ≡ higher_work o member (number r) w + work_by (task_of o (number r)) w
  asked_with r w l = asked_more rows r w ∙ omega (arith, asked_is r w l, row_work rows r (task_of o (number r)) (holds r l) w)
