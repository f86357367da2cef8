-- The named task's jobs, one after the other: what the searches' answers say of the first late one.
use Rattle.std.specs.Prelude.{Option, Some, None}
use Rattle.std.specs.Option.{IsSome}
use mathlib.Core.Path.{◌≡◌, refl, sym, subst}
use Prim.Native.Nat.{ℕ, ◌+◌, ◌-◌, ◌*◌, ◌≤◌, ◌<◌}
use native.Mathlib.Nat.{le_trans, mul-le-mul_left, mul-le-mul_right, add-mul, one-mul, mul-one}
use native.Mathlib.Decide.{dec_le, ℕ_discrete}
use native.Mathlib.Omega.{arith}
use Rattle.model.specs.declared.order.Task.{Task}
use Rattle.model.specs.Limits.{horizon, cost}
use Rattle.model.specs.Rules.{Sized}
use Rattle.demand.specs.Meaning.{FirstMetAt}
use Rattle.demand.specs.Over.{start_over, job_base}
use Rattle.demand.proofs.FirstMet.{met_one}
use Rattle.demand.proofs.Over.{Grows, start_next}
use Rattle.asked.specs.Met.{met_by, UnmetBelow}
use Rattle.asked.proofs.Said as said
use Rattle.late_find.specs.Found.{StartsFrom, JobStarts, LateOver, FirstLateOver}

module _ (work : ℕ → ℕ) (base : ℕ) where
  -- nothing before a start meets what is asked
  pub unmet_before : (from : ℕ) → StartsFrom work base from → UnmetBelow work (base + 1) from
  unfolding start_over
  unmet_before from is s l = omega (arith, is.starts.earlier s (omega arith) (omega (arith, l, is.not_before)))

  -- what is unmet up to a tick starts later
  starts_later : (from start : ℕ) → UnmetBelow work (base + 1) from → FirstMetAt (start_over work base) 0 start → from ≤ start
  unfolding start_over
  starts_later from start unmet is = elim (dec_le from start) [ yes le ↦ le | no gt ↦ absurd (omega (arith, unmet start (omega (arith, gt)), is.met)) ]

  -- what was found is the start, and no later than any
  pub start_found : (limit start found : ℕ) → FirstMetAt (start_over work base) 0 start → met_by work (base + 1) limit ≡ Some found → FirstMetAt (start_over work base) 0 found
  unfolding start_over
  start_found limit start found is at =
      let m = said.met_says work (base + 1) limit (Some found) at in
      record { from = omega arith; upto = omega (arith, starts_later found start m.unmet is, is.upto); met = omega (arith, m.met); earlier = λ s a l. omega (arith, m.unmet s l) }

  -- a search up to the horizon finds it
  pub start_there : (start : ℕ) → FirstMetAt (start_over work base) 0 start → met_by work (base + 1) horizon ≡ None → ⊥
  start_there start is none =
      omega (arith, starts_later (horizon + 1) start (said.met_says work (base + 1) horizon None none) is, is.upto)

  -- what is unmet over a base stays so over the next, up to the job's end
  unmet_next : Grows work → (C start : ℕ) → FirstMetAt (start_over work base) 0 start → UnmetBelow work (base + C + 1) (start + C)
  unfolding start_over
  unmet_next grows C start is s l = omega (arith, start_next work grows base C start (λ x k. is.earlier x (omega arith) k) s l)

  pub start_some : (start : ℕ) → FirstMetAt (start_over work base) 0 start → (found : Option ℕ) → found ≡ met_by work (base + 1) horizon → IsSome found
  start_some start is (Some w) e = refl
  start_some start is None e = absurd (start_there start is (sym e))

module _ (work : ℕ → ℕ) (B : ℕ) (task : Task) where
  -- before a job: the base of its start, where its search begins, and that every earlier job ends in time
  pub record SoFar (number base release from : ℕ) : Type 0 where
    pub base_is : base ≡ B + number * cost task
    pub release_is : release ≡ number * task.period
    pub unmet : UnmetBelow work (base + 1) from
    pub near : from ≤ 2_000_000
    pub earlier : (p : ℕ) → p < number → (v : ℕ) × (JobStarts work B task p v) × (v + cost task ≤ p * task.period + task.deadline)

  pub none_yet : SoFar 0 B 0 0
  none_yet =
      record { base_is = omega arith; release_is = omega arith; unmet = λ s l. absurd (omega (arith, l)); near = omega arith; earlier = λ p l. absurd (omega (arith, l)) }

  module _ (number base release from : ℕ) (so_far : SoFar number base release from) (sized : Sized task) (late : LateOver work B task) where
    -- the late job is still to come: this one lies in the window
    inside : number * task.period < late.size
    inside = elim (dec_le number late.late.0) [
      | yes le ↦ omega (arith, mul-le-mul_right task.period le, late.late.1)
      | no gt ↦ (let its = late.late.2 in
          let was = so_far.earlier late.late.0 (omega (arith, gt)) in
          absurd (omega (arith, met_one (start_over work (job_base work B task late.late.0)) 0 was.0 its.0 was.1 its.1, was.2, its.2)))
    ]

    pub early : release < horizon
    early = omega (arith, so_far.release_is, inside, late.window.upto)

    pub base_small : base ≤ B + release
    base_small = omega (arith, so_far.base_is, so_far.release_is, mul-le-mul_left number (le_trans sized.cost_most sized.deadline_most))

    pub number_small : number ≤ release
    number_small = omega (arith, so_far.release_is, mul-le-mul_left number sized.period_least, mul-one number)

    -- its start
    starts : (w : ℕ) × FirstMetAt (start_over work base) 0 w
    starts =
        let its = late.each number inside in
        (its.0, subst (λ (x : ℕ). FirstMetAt (start_over work x) 0 its.0) (sym so_far.base_is) its.1)

    as_job : (w : ℕ) → FirstMetAt (start_over work base) 0 w → JobStarts work B task number w
    as_job w is = subst (λ (x : ℕ). FirstMetAt (start_over work x) 0 w) so_far.base_is is

    -- none by the last tick from which it would end in time
    module _ (none : met_by work (base + 1) (release + task.deadline - cost task) ≡ None) where
      past_due : (w : ℕ) → FirstMetAt (start_over work base) 0 w → release + task.deadline - cost task + 1 ≤ w
      past_due w is =
          starts_later work base (release + task.deadline - cost task + 1) w (said.met_says work (base + 1) (release + task.deadline - cost task) None none) is

      pub starts_past : StartsFrom work base (release + task.deadline - cost task + 1)
      starts_past = record { start = starts.0; starts = starts.1; not_before = past_due starts.0 starts.1 }

      pub first_late : (w : ℕ) → FirstMetAt (start_over work base) 0 w → FirstLateOver work B task number w
      first_late w is =
          record { starts = as_job w is; late = omega (arith, past_due w is, so_far.release_is, sized.cost_most); earlier = so_far.earlier }

    -- one by then: the next job follows
    module _ (grows : Grows work) (start : ℕ) (at-start : met_by work (base + 1) (release + task.deadline - cost task) ≡ Some start) where
      is_start : FirstMetAt (start_over work base) 0 start
      is_start = start_found work base (release + task.deadline - cost task) starts.0 start starts.1 at-start

      pub start_small : start ≤ horizon
      start_small = is_start.upto

      pub one_more : SoFar (number + 1) (base + cost task) (release + task.period) (start + cost task)
      one_more =
          record {
            base_is = omega (arith, so_far.base_is, add-mul number 1 (cost task), one-mul (cost task));
            release_is = omega (arith, so_far.release_is, add-mul number 1 task.period, one-mul task.period);
            unmet = unmet_next work base grows (cost task) start is_start;
            near = omega (arith, start_small, sized.cost_most, sized.deadline_most, sized.period_most);
            earlier = λ p l. elim (ℕ_discrete p number) [
              | yes same ↦ subst (λ (x : ℕ). (v : ℕ) × (JobStarts work B task x v) × (v + cost task ≤ x * task.period + task.deadline)) (sym same) (start, as_job start is_start, in_time_lem)
              | no other ↦ so_far.earlier p (omega (arith, l, other))
            ];
          }
        where
          in_time_lem : start + cost task ≤ number * task.period + task.deadline
          in_time_lem = omega (arith, (said.met_says work (base + 1) (release + task.deadline - cost task) (Some start) at-start).upto, so_far.release_is, sized.cost_most)

-- before a job all is small, since the late job is still to come
pub small : {work : ℕ → ℕ} {B : ℕ} {task : Task} {number base release from : ℕ} → SoFar work B task number base release from → Sized task → LateOver work B task → B ≤ 1_000_000
    → (release < 1_000_000) × (base < 2_000_000) × (number < 1_000_000) × (1 ≤ cost task) × (cost task ≤ task.deadline) × (task.deadline ≤ task.period) × (task.period ≤ 1_000_000)
small {work} {B} {task} {number} {base} {release} {from} so_far sized late few =
    let soon = early work B task number base release from so_far sized late in (
      soon,
      omega (arith, base_small work B task number base release from so_far sized late, soon, few),
      omega (arith, number_small work B task number base release from so_far sized late, soon),
      sized.cost-least,
      sized.cost_most,
      sized.deadline_most,
      sized.period_most,
    )
