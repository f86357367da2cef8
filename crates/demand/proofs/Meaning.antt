-- Every verdict says what specs/Meaning.antt claims; and NoStart never comes.
use Rattle.std.specs.Prelude.{Some, None, Option, Ok, Err}
use mathlib.Core.Path.{◌≡◌, refl, sym, ap, ◌∙◌, subst}
use mathlib.Core.Bool.{Bool, true, false}
use mathlib.Core.Logic.{◌↔◌}
use Prim.Native.Nat.{ℕ, ◌+◌, ◌-◌, ◌*◌, ◌≤◌, ◌<◌}
use native.Mathlib.Nat.{zero-mul}
use native.Mathlib.Omega.{arith}
use lib.Dec.{leb}
use borrow.Author.Tests.{leb-true, leb-false}
use Rattle.laws.specs.Choice.{pick}
use Rattle.model.specs.declared.order.Order.{Order}
use Rattle.model.specs.Limits.{task_of}
use Rattle.model.specs.Rules.{WithinLimits}
use Rattle.demand.specs.Priority.{Members, deadline_of}
use Rattle.demand.specs.Releases.{period_of, cost_of, jobs}
use Rattle.demand.specs.Test.{NoWindow, NoStart, TooLate, window_demand, window, start_demand, start, response, largest_found, judged, worst, verdict}
use Rattle.demand.specs.Meaning.{NeverMet, IsWindow, IsStart, IsResponse, IsPassing, IsWithoutStart, IsLate, VerdictMeans, EveryVerdictMeans, NoStartNever}
use Rattle.demand.proofs.Releases.{jobs_are}
use Rattle.demand.proofs.FirstMet.{Says, met_at, met_never, met_says}
use Rattle.demand.proofs.Largest.{at_one, LargestIs, largest_says, largest_there, judged_late, judged_passes}
use Rattle.demand.proofs.Demands.{sized_of, job_of}

-- verdicts that differ
clash : {A : Type 0} → ◌≡◌ {A = ℕ} 0 1 → A
clash e = absurd (omega arith)

module _ (o : Order) (member : Members) (i : ℕ) where
  pub verdict_none : window o member i ≡ None → verdict o member i ≡ Err NoWindow
  unfolding verdict
  verdict_none e = rw e

  pub verdict_in_lem : (L : ℕ) → window o member i ≡ Some L → verdict o member i ≡ judged (deadline_of o i) (largest_found (response o member i) (jobs (task_of o i) L))
  unfolding verdict worst
  verdict_in_lem L e = rw e

  pub window_says : (f : Option ℕ) → window o member i ≡ f → Says (window_demand o member i) 1 f
  unfolding window
  window_says f e = met_says (window_demand o member i) 1 (omega arith) f e

  pub start_says : (q : ℕ) (f : Option ℕ) → start o member i q ≡ f → Says (start_demand o member i q) 0 f
  unfolding start
  start_says q f e = met_says (start_demand o member i q) 0 (omega arith) f e

  pub is_window : (L : ℕ) → IsWindow o member i L → window o member i ≡ Some L
  unfolding window
  is_window L is = met_at (window_demand o member i) 1 L is

  pub is_start : (q w : ℕ) → IsStart o member i q w → start o member i q ≡ Some w
  unfolding start
  is_start q w is = met_at (start_demand o member i q) 0 w is

  response_at : (q w : ℕ) → start o member i q ≡ Some w → response o member i q ≡ Some (w + cost_of o i - q * period_of o i)
  unfolding response
  response_at q w e = rw e

  module _ (limits : WithinLimits o) (mine : i < o.tasks) where
    -- a window of L
    module _ (L : ℕ) (win : IsWindow o member i L) where
      inside : (q : ℕ) → (q * period_of o i < L) ↔ (q < jobs (task_of o i) L)
      inside q = jobs_are (task_of o i) (sized_of o limits i mine).period_least q L

      -- job q's response, as the definition has it, and in the document's words
      record Answer (q : ℕ) : Type 0 where
        is : ℕ
        found : response o member i q ≡ Some is
        means : IsResponse o member i q is

      answer : (q : ℕ) → q * period_of o i < L → Answer q
      answer q l =
          let j = job_of o member i limits mine L q win l in
          record {
            is = j.at + cost_of o i - q * period_of o i;
            found = response_at q j.at (is_start q j.at j.is);
            means = record { start = j.at; start_is = j.is; response_is = omega (arith, j.release) };
          }

      -- a response in the document's words is the definition's
      pub answers : (q r : ℕ) → q * period_of o i < L → IsResponse o member i q r → response o member i q ≡ Some r
      answers q r l is = response_at q is.start (is_start q is.start is.start_is) ∙ ap Some (omega (arith, is.response_is))

      meaning : (q r : ℕ) → q * period_of o i < L → response o member i q ≡ Some r → IsResponse o member i q r
      meaning q r l e =
          let a = answer q l in
          let v : ◌≡◌ {A = Option ℕ} (Some a.is) (Some r) = sym a.found ∙ e in
          subst (λ (x : ℕ). IsResponse o member i q x) (at_one a.is r v) a.means

      -- the worst response is there
      pub worst_there : (m : ℕ) × (largest_found (response o member i) (jobs (task_of o i) L) ≡ Some m)
      worst_there = largest_there (response o member i) (jobs (task_of o i) L) (λ q l. (let a = answer q ((inside q).1 l) in (a.is, a.found)))

      worst_is : (m : ℕ) → largest_found (response o member i) (jobs (task_of o i) L) ≡ Some m → LargestIs (response o member i) (jobs (task_of o i) L) m
      worst_is m e = largest_says (response o member i) (jobs (task_of o i) L) m e

      some : 0 < jobs (task_of o i) L
      some = (inside 0).0 (omega (arith, win.from, zero-mul (period_of o i)))

      passing : (m : ℕ) → largest_found (response o member i) (jobs (task_of o i) L) ≡ Some m → m ≤ deadline_of o i → IsPassing o member i m
      passing m e le =
          let w = worst_is m e in
          record {
            size = L;
            window = win;
            each = λ q l. (let r = w.each q ((inside q).0 l) in (r.0, meaning q r.0 l r.1, r.2));
            attained = (let r = w.attained some in let l = (inside r.0).1 r.1 in (r.0, l, meaning r.0 m l r.2));
            in_time_lem = le;
          }

      late_by_lem : (m : ℕ) → largest_found (response o member i) (jobs (task_of o i) L) ≡ Some m → deadline_of o i < m → IsLate o member i
      late_by_lem m e lt =
          let w = worst_is m e in
          record {
            size = L;
            window = win;
            each = λ q l. (let a = answer q l in (a.is, a.means));
            late = (let r = w.attained some in let l = (inside r.0).1 r.1 in (r.0, l, (m, meaning r.0 m l r.2, lt)));
          }

      -- one late response is enough
      pub late_one : (q x : ℕ) → q * period_of o i < L → response o member i q ≡ Some x → deadline_of o i < x → verdict o member i ≡ Err TooLate
      late_one q x l e lt =
          verdict_in_lem L (is_window L win)
          ∙ judged_late (response o member i) (jobs (task_of o i) L) (deadline_of o i) q x
          (λ p k. (let a = answer p ((inside p).1 k) in (a.is, a.found)))
          ((inside q).0 l) e lt

      pub passes_with : (m : ℕ) → largest_found (response o member i) (jobs (task_of o i) L) ≡ Some m → m ≤ deadline_of o i → verdict o member i ≡ Ok m
      passes_with m e le = verdict_in_lem L (is_window L win) ∙ judged_passes (response o member i) (jobs (task_of o i) L) (deadline_of o i) m e le

    -- the three cases of a verdict
    pub data Cases : Type 0 where
      without : NeverMet (window_demand o member i) 1 → verdict o member i ≡ Err NoWindow → Cases
      in_time_lem : (m : ℕ) → IsPassing o member i m → verdict o member i ≡ Ok m → Cases
      too_late : IsLate o member i → verdict o member i ≡ Err TooLate → Cases

    pub cases : Cases
    cases = by_window (window o member i) refl
      where
        by_test : (L : ℕ) (win : IsWindow o member i L) (m : ℕ) → largest_found (response o member i) (jobs (task_of o i) L) ≡ Some m → (b : Bool) → leb m (deadline_of o i) ≡ b → Cases
        by_test L win m e true h = in_time_lem m (passing L win m e (leb-true _ _ h)) (passes_with L win m e (leb-true _ _ h))
        by_test L win m e false h = too_late (late_by_lem L win m e (leb-false _ _ h)) (verdict_in_lem L (is_window L win) ∙ (ap (judged (deadline_of o i)) e ∙ ap (λ (b : Bool). pick b (Ok m) (Err TooLate)) h))

        by_window : (f : Option ℕ) → window o member i ≡ f → Cases
        by_window None e = without (window_says None e) (verdict_none e)
        by_window (Some L) e = (let win = window_says (Some L) e in let w = worst_there L win in by_test L win w.0 w.1 (leb w.0 (deadline_of o i)) refl)

    -- a worst response in the document's words is the definition's
    is_passing : (r : ℕ) → IsPassing o member i r → verdict o member i ≡ Ok r
    is_passing r p =
        let L = p.size in
        let win = p.window in
        let w = worst_there L win in
        let m = w.0 in
        let is = largest_says (response o member i) (jobs (task_of o i) L) m w.1 in
        let top = is.attained ((jobs_are (task_of o i) (sized_of o limits i mine).period_least 0 L).0 (omega (arith, win.from, zero-mul (period_of o i)))) in
        let top-inside = (jobs_are (task_of o i) (sized_of o limits i mine).period_least top.0 L).1 top.1 in
        let below = p.each top.0 top-inside in
        let up : ◌≡◌ {A = Option ℕ} (Some below.0) (Some m) = sym (answers L win top.0 below.0 top-inside below.1) ∙ top.2 in
        let a = p.attained in
        let there = is.each a.0 ((jobs_are (task_of o i) (sized_of o limits i mine).period_least a.0 L).0 a.1) in
        let down : ◌≡◌ {A = Option ℕ} (Some there.0) (Some r) = sym there.1 ∙ answers L win a.0 r a.1 a.2 in
        let same : m ≡ r = omega (arith, at_one below.0 m up, below.2, at_one there.0 r down, there.2) in
        passes_with L win m w.1 (omega (arith, p.in_time_lem)) ∙ ap Ok same

    is_late : IsLate o member i → verdict o member i ≡ Err TooLate
    is_late p =
        let q = p.late.0 in
        let x = p.late.2.0 in
        late_one p.size p.window q x p.late.1 (answers p.size p.window q x p.late.1 p.late.2.1) p.late.2.2

    is_without_start : IsWithoutStart o member i → ⊥
    is_without_start p =
        let j = job_of o member i limits mine p.size p.missing.0 p.window p.missing.1 in
        omega (arith, p.missing.2 j.at (omega arith) j.is.upto, j.is.met)

    is_without : NeverMet (window_demand o member i) 1 → verdict o member i ≡ Err NoWindow
    unfolding window
    is_without never = verdict_none (met_never (window_demand o member i) 1 never)

    pub never_no_start : verdict o member i ≡ Err NoStart → ⊥
    never_no_start e = go cases
      where
        go : Cases → ⊥
        go (without a v) = clash (cc (sym v ∙ e))
        go (in_time_lem m a v) = clash (cc (sym v ∙ e))
        go (too_late a v) = clash (cc (sym v ∙ e))

    says_passing : (r : ℕ) → verdict o member i ≡ Ok r → IsPassing o member i r
    says_passing r e = go cases
      where
        go : Cases → IsPassing o member i r
        go (without a v) = clash (cc (sym v ∙ e))
        go (in_time_lem m a v) = let same : m ≡ r = cc (sym v ∙ e) in subst (λ (x : ℕ). IsPassing o member i x) same a
        go (too_late a v) = clash (cc (sym v ∙ e))

    says_late : verdict o member i ≡ Err TooLate → IsLate o member i
    says_late e = go cases
      where
        go : Cases → IsLate o member i
        go (without a v) = clash (cc (sym v ∙ e))
        go (in_time_lem m a v) = clash (cc (sym v ∙ e))
        go (too_late a v) = a

    says_without : verdict o member i ≡ Err NoWindow → NeverMet (window_demand o member i) 1
    says_without e = go cases
      where
        go : Cases → NeverMet (window_demand o member i) 1
        go (without a v) = a
        go (in_time_lem m a v) = clash (cc (sym v ∙ e))
        go (too_late a v) = clash (cc (sym v ∙ e))

    pub means : VerdictMeans o member i
    means =
        record {
          passes = λ r. (says_passing r, is_passing r);
          no_window = (says_without, is_without);
          no_start = (λ e. absurd (never_no_start e), λ p. absurd (is_without_start p));
          late = (says_late, is_late);
        }

pub every_verdict_means : EveryVerdictMeans
every_verdict_means o member i limits mine = means o member i limits mine

pub no_start_never : NoStartNever
no_start_never o member i limits mine e = never_no_start o member i limits mine e
