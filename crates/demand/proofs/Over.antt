-- Windows and starts over any work of higher members that grows with w: what a window gives its jobs, and where searches may begin.
use Rattle.std.specs.Prelude.{Some, None, Option}
use mathlib.Core.Path.{◌≡◌, refl}
use Prim.Native.Nat.{ℕ, zero, suc, ◌+◌, ◌-◌, ◌*◌, ◌≤◌, ◌<◌}
use native.Mathlib.Nat.{mul-le-mul_right, add-mul, one-mul, zero-mul}
use native.Mathlib.Decide.{dec_le}
use native.Mathlib.Omega.{arith}
use Rattle.model.specs.declared.order.Task.{Task}
use Rattle.model.specs.Limits.{cost}
use Rattle.demand.specs.Test.{first_met}
use Rattle.demand.specs.Meaning.{FirstMetAt}
use Rattle.demand.specs.Over.{start_over, window_over, job_base}
use Rattle.demand.proofs.Releases.{work_mono, work_few, work_spaced}
use Rattle.demand.proofs.FirstMet.{met_says}

-- more work is asked of a later tick
abbrev pub Grows : (ℕ → ℕ) → Type 0
Grows work = (a b : ℕ) → a ≤ b → work a ≤ work b

some_job : (q T : ℕ) {w : ℕ} → w < q * T → 1 ≤ q
some_job zero T h = absurd (omega (arith, zero-mul T))
some_job (suc q) T h = omega arith

module _ (work : ℕ → ℕ) (grows : Grows work) where
  pub start_grows : (base : ℕ) → Grows (start_over work base)
  unfolding start_over
  start_grows base a b h = omega (arith, grows a b h)

  -- a start over cost more comes at least the cost later
  pub start_next : (base cost w : ℕ) → ((s : ℕ) → s < w → s < start_over work base s) → (s : ℕ) → s < w + cost → s < start_over work (base + cost) s
  unfolding start_over
  start_next base cost w before s l =
      elim (dec_le cost s) [
        | yes le ↦ omega (arith, before (s - cost) (omega arith), grows (s - cost) s (omega arith))
        | no gt ↦ omega arith
      ]

  module _ (B : ℕ) (task : Task) (period_least : 1 ≤ task.period) where
    pub window_grows : (a b : ℕ) → 1 ≤ a → a ≤ b → window_over work B task a ≤ window_over work B task b
    unfolding window_over
    window_grows a b from h =
        let le : a - 1 ≤ b - 1 = omega arith in
        omega (arith, grows (a - 1) (b - 1) le, work_mono task period_least le)

    module _ (cost-least : 1 ≤ cost task) where
      -- where t would close the window, each of its jobs could start at t - C
      pub room : (t q : ℕ) → 1 ≤ t → window_over work B task t ≤ t → q * task.period < t → start_over work (job_base work B task q) (t - cost task) + cost task ≤ t
      unfolding window_over start_over
      room t q from met inside =
          omega (arith, work_spaced task period_least (t - 1) q (omega arith), grows (t - cost task) (t - 1) (omega arith), add-mul q 1 (cost task), one-mul (cost task))

      -- a start of job q is no earlier than its release, while no window has closed
      pub released : (L q w : ℕ) → ((s : ℕ) → 1 ≤ s → s < L → s < window_over work B task s) → q * task.period < L → start_over work (job_base work B task q) w ≤ w → q * task.period ≤ w
      unfolding window_over start_over
      released L q w before inside met = elim (dec_le (q * task.period) w) [ yes le ↦ le | no gt ↦ absurd (early (omega arith)) ]
        where
          early : w < q * task.period → ⊥
          early l =
              let one : 1 * cost task ≤ q * cost task = mul-le-mul_right (cost task) (some_job q task.period l) in
              let from : 1 ≤ w = omega arith in
              omega (arith, before w from (omega arith), grows (w - 1) w (omega arith), work_few task period_least (w - 1) q (omega arith))

      -- job q of a window of L: its start, at or after its release; and it ends in the window
      pub record Job (L q : ℕ) : Type 0 where
        pub at : ℕ
        pub is : FirstMetAt (start_over work (job_base work B task q)) 0 at
        pub release : q * task.period ≤ at
        pub ends : at + cost task ≤ L

      pub job : (L q : ℕ) → FirstMetAt (window_over work B task) 1 L → q * task.period < L → Job L q
      job L q window inside = go (first_met (start_over work (job_base work B task q)) 0) refl
        where
          fits : start_over work (job_base work B task q) (L - cost task) + cost task ≤ L
          fits = room L q window.from window.met inside

          go : (f : Option ℕ) → first_met (start_over work (job_base work B task q)) 0 ≡ f → Job L q
          go None e = absurd (omega (arith, fits, met_says (start_over work (job_base work B task q)) 0 (omega arith) None e (L - cost task) (omega arith) (omega (arith, window.upto))))
          go (Some w) e =
              let is = met_says (start_over work (job_base work B task q)) 0 (omega arith) (Some w) e in
              record {
                at = w;
                is = is;
                release = released L q w window.earlier inside is.met;
                ends = elim (dec_le w (L - cost task)) [
                  | yes le ↦ omega (arith, fits)
                  | no gt ↦ absurd (omega (arith, fits, is.earlier (L - cost task) (omega arith) (omega arith)))
                ];
              }
