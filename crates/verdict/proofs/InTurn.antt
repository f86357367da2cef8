-- A member's jobs, one after the other: what the searches' answers say of its window and of its verdict.
use Rattle.std.specs.Prelude.{Some, None, Option, Ok, Err}
use mathlib.Core.Path.{◌≡◌, refl, sym, ap, ◌∙◌}
use mathlib.Core.Logic.{◌↔◌}
use Prim.Native.Nat.{ℕ, ◌+◌, ◌-◌, ◌*◌, ◌≤◌, ◌<◌, min, max}
use native.Mathlib.Nat.{le_trans, mul-le-mul_left, add-mul, one-mul, le_antisymm}
use native.Mathlib.Decide.{dec_le}
use native.Mathlib.Omega.{arith}
use Rattle.model.specs.declared.order.Task.{Task}
use Rattle.model.specs.Limits.{horizon, cost}
use Rattle.model.specs.Rules.{Sized}
use Rattle.demand.specs.declared.Failing.TheVariants.{NoWindow, TooLate}
use Rattle.demand.specs.Releases.{work_by, jobs}
use Rattle.demand.specs.Test.{first_met, largest_found, judged}
use Rattle.demand.specs.Meaning.{FirstMetAt, NeverMet}
use Rattle.demand.specs.Over.{start_over, window_over, job_base, response_over, verdict_over}
use Rattle.demand.proofs.Releases.{jobs_are, work_spaced, work_few}
use Rattle.demand.proofs.FirstMet.{met_at, met_never, met_says}
use Rattle.demand.proofs.Largest.{largest_found_none, largest_found_more, judged_late, judged_passes}
use Rattle.demand.proofs.Over.{Grows, Job, job}
use Rattle.asked.specs.Met.{met_by, UnmetBelow}
use Rattle.asked.proofs.Said as said
use Rattle.verdict.specs.Tested.{worst_of}

module _ (work : ℕ → ℕ) (B : ℕ) (task : Task) where
  -- no window of up to t ticks closes
  abbrev pub OpenTo : ℕ → Type 0
  OpenTo t = (s : ℕ) → 1 ≤ s → s ≤ t → s ≤ horizon → s < window_over work B task s

  -- it does not pass
  abbrev pub Fails : Type 0
  Fails = worst_of (verdict_over work B task) ≡ None

  -- before job q: the base of its start, where its search begins, and the worst response so far
  pub record Going (q base release begin worst : ℕ) : Type 0 where
    pub base_is : base ≡ B + q * cost task
    pub release_is : release ≡ q * task.period
    pub begin_late : release < horizon → release ≤ begin
    pub unmet : UnmetBelow work (base + 1) begin
    pub opened : OpenTo release
    pub worst_is : release < horizon → largest_found (response_over work B task) q ≡ Some worst
    pub in_time_lem : worst ≤ task.deadline

module _ (work : ℕ → ℕ) (grows : Grows work) (B : ℕ) (task : Task) (sized : Sized task) where
  abbrev C : ℕ
  C = cost task

  abbrev T : ℕ
  T = task.period

  pub first_job : (begin : ℕ) → UnmetBelow work (B + 1) begin → Going work B task 0 B 0 begin 0
  first_job begin unmet =
      record {
        base_is = omega arith;
        release_is = omega arith;
        begin_late = λ h. omega arith;
        unmet = unmet;
        opened = λ s a b h. absurd (omega arith);
        worst_is = λ h. largest_found_none (response_over work B task);
        in_time_lem = omega arith;
      }

  pub never : NeverMet (window_over work B task) 1 → verdict_over work B task ≡ Err NoWindow
  unfolding verdict_over
  never none = rw (met_never (window_over work B task) 1 none)

  pub window_fails : verdict_over work B task ≡ Err NoWindow → Fails work B task
  window_fails e = ap worst_of e

  pub late_fails : verdict_over work B task ≡ Err TooLate → Fails work B task
  late_fails e = ap worst_of e

  -- open beyond the horizon: no window
  pub open_fails : (t : ℕ) → horizon ≤ t → OpenTo work B task t → Fails work B task
  open_fails t past shut = window_fails (never (λ s a b. shut s a (omega arith) b))

  -- the verdict in a window
  in_window : (L : ℕ) → first_met (window_over work B task) 1 ≡ Some L →
      verdict_over work B task ≡ judged task.deadline (largest_found (response_over work B task) (jobs task L))
  unfolding verdict_over
  in_window L e = rw e

  response_at : (q s : ℕ) → first_met (start_over work (job_base work B task q)) 0 ≡ Some s → response_over work B task q ≡ Some (s + C - q * T)
  unfolding response_over
  response_at q s e = rw e

  -- a job of the window that does not start in time is enough
  late_job_lem : (L q : ℕ) → FirstMetAt (window_over work B task) 1 L → q * T < L → ((s : ℕ) → s ≤ q * T + task.deadline - C → s < start_over work (job_base work B task q) s) →
      verdict_over work B task ≡ Err TooLate
  late_job_lem L q window inside none =
      in_window L (met_at (window_over work B task) 1 L window)
      ∙ judged_late (response_over work B task) (jobs task L) task.deadline q ((job_at q inside).at + C - q * T) (λ p k. ((job_at p ((within p).1 k)).at + C - p * T, found p ((within p).1 k)))
      ((within q).0 inside) (found q inside) (omega (arith, past, sized.cost_most))
    where
      within : (p : ℕ) → (p * T < L) ↔ (p < jobs task L)
      within p = jobs_are task sized.period_least p L

      job_at : (p : ℕ) → p * T < L → Job work grows B task sized.period_least sized.cost-least L p
      job_at p l = job work grows B task sized.period_least sized.cost-least L p window l

      found : (p : ℕ) (l : p * T < L) → response_over work B task p ≡ Some ((job_at p l).at + C - p * T)
      found p l = response_at p (job_at p l).at (met_at (start_over work (job_base work B task p)) 0 (job_at p l).at (job_at p l).is)

      past : q * T + task.deadline - C < (job_at q inside).at
      past = elim (dec_le (job_at q inside).at (q * T + task.deadline - C)) [
        | yes le ↦ absurd (omega (arith, none (job_at q inside).at le, (job_at q inside).is.met))
        | no gt ↦ omega arith
      ]

  module _ (q base release begin worst : ℕ) (going : Going work B task q base release begin worst) (early : release < horizon) where
    -- the job's own work in its period
    own_spaced : (w : ℕ) → release ≤ w → (q + 1) * C ≤ work_by task w
    own_spaced w le = work_spaced task sized.period_least w q (omega (arith, going.release_is))

    own_few : (w : ℕ) → w < release + T → work_by task w ≤ (q + 1) * C
    own_few w l = work_few task sized.period_least w (q + 1) (omega (arith, going.release_is, add-mul q 1 T, one-mul T))

    base_next : base + C ≡ B + (q + 1) * C
    base_next = omega (arith, going.base_is, add-mul q 1 C, one-mul C)

    -- all that is asked stays small
    pub base_small : base ≤ B + release
    base_small = omega (arith, going.base_is, going.release_is, mul-le-mul_left q (le_trans sized.cost_most sized.deadline_most))

    -- what is unmet over base + 1 is no start
    unmet_start : (w : ℕ) → UnmetBelow work (base + 1) w → (s : ℕ) → s < w → s < start_over work (job_base work B task q) s
    unfolding start_over
    unmet_start w unmet s l = omega (arith, unmet s l, going.base_is)

    -- what stays unmet over the next base stays open
    still_open : (w : ℕ) → UnmetBelow work (base + C) w → OpenTo work B task w
    unfolding window_over
    still_open w unmet s a b h =
        elim (dec_le s release) [
          | yes le ↦ going.opened s a le h
          | no gt ↦ omega (arith, unmet (s - 1) (omega arith), own_spaced (s - 1) (omega arith), base_next)
        ]

    -- without a start by then, the job would be late
    pub unstarted : met_by work (base + 1) (release + task.deadline - C) ≡ None → Fails work B task
    unstarted e = go (first_met (window_over work B task) 1) refl
      where
        go : (f : Option ℕ) → first_met (window_over work B task) 1 ≡ f → Fails work B task
        go None w = window_fails (never (met_says (window_over work B task) 1 (omega arith) None w))
        go (Some L) w =
            let is = met_says (window_over work B task) 1 (omega arith) (Some L) w in
            let inside : release < L = elim (dec_le L release) [ yes le ↦ absurd (omega (arith, going.opened L is.from le is.upto, is.met)) | no gt ↦ omega arith ] in
            late_fails (late_job_lem L q is (omega (arith, going.release_is)) (λ s le. unmet_start (release + task.deadline - C + 1) (said.met_says work (base + 1) (release + task.deadline - C) None e) s (omega (arith, going.release_is))))

    -- nor does a window close by then
    pub unstarted_open : met_by work (base + 1) (release + task.deadline - C) ≡ None → (s : ℕ) → s < release + task.deadline - C + 1 → s + 1 < window_over work B task (s + 1)
    unfolding window_over
    unstarted_open e s l =
        let same : s + 1 - 1 ≡ s = omega arith in
        let unmet = said.met_says work (base + 1) (release + task.deadline - C) None e s l in
        elim (dec_le (s + 1) release) [
          | yes le ↦ going.opened (s + 1) (omega arith) le (omega arith)
          | no gt ↦ omega (arith, unmet, own_spaced s (omega arith), base_next, sized.cost-least, ap work same, ap (work_by task) same)
        ]

    module _ (start : ℕ) (at-start : met_by work (base + 1) (release + task.deadline - C) ≡ Some start) where
      is : said.MetAt work (base + 1) (release + task.deadline - C) start
      is = said.met_says work (base + 1) (release + task.deadline - C) (Some start) at-start

      -- a job starts no earlier than its release
      pub start_late : release ≤ start
      start_late = elim (dec_le begin start) [
        | yes le ↦ omega (arith, going.begin_late early)
        | no gt ↦ absurd (omega (arith, is.met, going.unmet start (omega arith)))
      ]

      pub end_due : start + C ≤ release + task.deadline
      end_due = omega (arith, is.upto, sized.cost_most)

      -- nothing closes before the job ends
      pub unmet_end : UnmetBelow work (base + C) (start + C - 1)
      unmet_end s l = elim (dec_le C (s + 1)) [
        | yes le ↦ omega (arith, is.unmet (s + 1 - C) (omega arith), grows (s + 1 - C) s (omega (arith, sized.cost-least)))
        | no gt ↦ omega arith
      ]

      -- where no release comes before the end, all is done then
      pub met_end : (next : ℕ) → ((s : ℕ) → start ≤ s → s < next → work s ≡ work start) → start + C ≤ next → base + C + work (start + C - 1) ≤ start + C
      met_end next same le = omega (arith, same (start + C - 1) (omega (arith, sized.cost-least)) (omega (arith, sized.cost-least)), is.met)

      response_now : start ≤ horizon → response_over work B task q ≡ Some (start + C - release)
      unfolding start_over
      response_now h =
          let first : FirstMetAt (start_over work (job_base work B task q)) 0 start = record { from = omega arith; upto = h; met = omega (arith, is.met, going.base_is); earlier = λ s a l. omega (arith, is.unmet s l, going.base_is) } in
          response_at q start (met_at (start_over work (job_base work B task q)) 0 start first) ∙ ap (λ (x : ℕ). Some (start + C - x)) (sym going.release_is)

      worst_now : start ≤ horizon → largest_found (response_over work B task) (q + 1) ≡ Some (max worst (start + C - release))
      worst_now h = largest_found_more (response_over work B task) q worst (start + C - release) (going.worst_is early) (response_now h)

      -- the window closes before the next release: the member passes
      pub closing : (last : ℕ) → met_by work (base + C) (min horizon (release + T) - 1) ≡ Some last →
          verdict_over work B task ≡ Ok (max worst (start + C - release))
      unfolding window_over
      closing last e =
          let m = said.met_says work (base + C) (min horizon (release + T) - 1) (Some last) e in
          let in-period : last < release + T = omega (arith, m.upto, sized.period_least) in
          let same : last + 1 - 1 ≡ last = omega arith in
          let met : window_over work B task (last + 1) ≤ last + 1 = omega (arith, m.met, own_few last in-period, base_next, ap work same, ap (work_by task) same) in
          let late : release ≤ last = elim (dec_le release last) [ yes le ↦ le | no gt ↦ absurd (omega (arith, met, going.opened (last + 1) (omega arith) (omega arith) (omega arith))) ] in
          let window : FirstMetAt (window_over work B task) 1 (last + 1) =
          record { from = omega arith; upto = omega (arith, m.upto); met = met; earlier = λ s a l. still_open last m.unmet s a (omega arith) (omega (arith, m.upto)) } in
          let after : start + C ≤ last + 1 = elim (dec_le (start + C) (last + 1)) [ yes le ↦ le | no gt ↦ absurd (omega (arith, m.met, unmet_end last (omega arith))) ] in
          let few : jobs task (last + 1) ≡ q + 1 =
          le_antisymm
          (elim (dec_le (jobs task (last + 1)) (q + 1)) [ yes le ↦ le | no gt ↦ absurd (omega (arith, (jobs_are task sized.period_least (q + 1) (last + 1)).1 (omega arith), add-mul q 1 T, one-mul T, going.release_is)) ])
          (omega (arith, (jobs_are task sized.period_least q (last + 1)).0 (omega (arith, going.release_is)))) in
          let most : max worst (start + C - release) ≤ task.deadline = omega (arith, going.in_time_lem, end_due) in
          in_window (last + 1) (met_at (window_over work B task) 1 (last + 1) window)
          ∙ ap (λ (k : ℕ). judged task.deadline (largest_found (response_over work B task) k)) few
          ∙ judged_passes (response_over work B task) (q + 1) task.deadline (max worst (start + C - release)) (worst_now (omega (arith, m.upto, sized.cost-least))) most

      -- no window closes before that
      pub closing_open : (last : ℕ) → met_by work (base + C) (min horizon (release + T) - 1) ≡ Some last → OpenTo work B task last
      closing_open last e = still_open last (said.met_says work (base + C) (min horizon (release + T) - 1) (Some last) e).unmet

      -- it does not: the next job follows
      pub going_on_lem : met_by work (base + C) (min horizon (release + T) - 1) ≡ None →
          Going work B task (q + 1) (base + C) (release + T) (min horizon (release + T)) (max worst (start + C - release))
      going_on_lem e =
          let unmet : UnmetBelow work (base + C) (min horizon (release + T)) = λ s l. said.met_says work (base + C) (min horizon (release + T) - 1) None e s (omega arith) in
          record {
            base_is = base_next;
            release_is = omega (arith, going.release_is, add-mul q 1 T, one-mul T);
            begin_late = λ h. omega arith;
            unmet = λ s l. omega (arith, unmet s l);
            opened = λ s a b h. still_open (min horizon (release + T)) unmet s a (omega arith) h;
            worst_is = λ h. worst_now (omega (arith, end_due, sized.deadline_most, sized.cost-least));
            in_time_lem = omega (arith, going.in_time_lem, end_due);
          }
