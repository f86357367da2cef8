-- The named task is late, and the job that was found is its first late one.
use Rattle.std.specs.Prelude.{Some, Option, Err}
use mathlib.Core.Path.{◌≡◌, sym, ap, ◌∙◌, subst}
use Prim.Native.Nat.{ℕ, ◌+◌, ◌-◌, ◌*◌, ◌≤◌, ◌<◌}
use native.Mathlib.Nat.{mul-le-mul_left, mul-one}
use native.Mathlib.Omega.{arith}
use borrow.Author.Tests.{lt-ltb, le-ltb}
use Rattle.model.specs.declared.order.Order.{Order}
use Rattle.model.specs.Limits.{horizon, task_of}
use Rattle.model.specs.Rules.{WithinLimits}
use Rattle.search.specs.Smallest.{number_found}
use Rattle.search.proofs.Smallest.{smallest_at}
use Rattle.demand.specs.declared.Failing.TheVariants.{TooLate}
use Rattle.demand.specs.Priority.{Members, deadline_of}
use Rattle.demand.specs.Releases.{period_of, cost_of}
use Rattle.demand.specs.Test.{response_from, blocking, higher_work, start_demand, start, response, verdict}
use Rattle.demand.specs.Meaning.{FirstMetAt}
use Rattle.demand.proofs.FirstMet.{met_at}
use Rattle.demand.proofs.Demands.{sized_of, start_over_lem, over_window}
use Rattle.demand.proofs.Meaning.{every_verdict_means}
use Rattle.critical.specs.Late.{is_over, late_job, late_start}
use Rattle.late_find.specs.Found.{JobStarts, LateOver, FirstLateOver}

module _ (o : Order) (member : Members) (i : ℕ) (limits : WithinLimits o) (mine : i < o.tasks) where
  abbrev Starts : (q w : ℕ) → Type 0
  Starts = JobStarts (higher_work o member i) (blocking o member i) (task_of o i)

  -- "late", over the higher members' work
  pub late_over : verdict o member i ≡ Err TooLate → LateOver (higher_work o member i) (blocking o member i) (task_of o i)
  late_over says =
      let is = (every_verdict_means o member i limits mine).late.0 says in
      let over : (q w : ℕ) → FirstMetAt (start_demand o member i q) 0 w → Starts q w = λ q w starts. subst (λ (f : ℕ → ℕ). FirstMetAt f 0 w) (start_over_lem o member i limits q) starts in
      let it = is.late.2 in
      record {
        size = is.size;
        window = over_window o member i limits mine is.size is.window;
        each = λ q inside. (let its = is.each q inside in (its.1.start, over q its.1.start its.1.start_is));
        late = (is.late.0, is.late.1, (it.1.start, over is.late.0 it.1.start it.1.start_is, omega (arith, it.1.response_is, it.2)));
      }

  start_is : (q w : ℕ) → Starts q w → start o member i q ≡ Some w
  unfolding start
  start_is q w starts = met_at (start_demand o member i q) 0 w (subst (λ (f : ℕ → ℕ). FirstMetAt f 0 w) (sym (start_over_lem o member i limits q)) starts)

  response_is : (q w : ℕ) → Starts q w → response o member i q ≡ Some (w + cost_of o i - q * period_of o i)
  unfolding response
  response_is q w starts = ap (λ (f : Option ℕ). response_from f (cost_of o i) (q * period_of o i)) (start_is q w starts)

  module _ (q w : ℕ) (first : FirstLateOver (higher_work o member i) (blocking o member i) (task_of o i) q w) where
    -- it is released and starts by the horizon
    pub late_early : (q * period_of o i < horizon) × (w ≤ horizon)
    late_early = (omega (arith, first.late, first.starts.upto, (sized_of o limits i mine).cost_most), first.starts.upto)

    number_early : q ≤ horizon
    number_early = omega (arith, late_early.0, mul-le-mul_left q (sized_of o limits i mine).period_least, mul-one q)

    pub late_job_is : late_job o member i ≡ q
    unfolding late_job
    late_job_is =
        ap number_found (smallest_at (λ p. is_over (deadline_of o i) (response o member i p)) 0 horizon q (omega arith) number_early
        (ap (is_over (deadline_of o i)) (response_is q w first.starts) ∙ lt-ltb (deadline_of o i) (w + cost_of o i - q * period_of o i) (omega (arith, first.late)))
        (λ p a l. (let its = first.earlier p l in
        ap (is_over (deadline_of o i)) (response_is p its.0 its.1) ∙ le-ltb (deadline_of o i) (its.0 + cost_of o i - p * period_of o i) (omega (arith, its.2)))))

    pub late_start_is : late_start o member i ≡ w
    unfolding late_start
    late_start_is = ap (λ (p : ℕ). number_found (start o member i p)) late_job_is ∙ ap number_found (start_is q w first.starts)
