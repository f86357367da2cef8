-- What no worst response and a window tell of a verdict; and what the tests of 27 to 30 tell of a member, each where those before it hold.
use Rattle.std.specs.Prelude.{Some, None, Option, Ok, Err}
use mathlib.Core.Path.{◌≡◌, refl, sym, ap, ◌∙◌, subst}
use mathlib.Core.Bool.{Bool, true, false}
use mathlib.Core.Logic.{◌↔◌, ◌⊎◌, inl, inr}
use Prim.Native.Nat.{ℕ, ◌*◌, ◌≤◌, ◌<◌}
use native.Mathlib.Omega.{arith}
use lib.Dec.{leb}
use borrow.Author.Tests.{eq-eqb, eqb-true}
use Rattle.laws.specs.Choice.{pick}
use Rattle.laws.proofs.Every.{clash}
use Rattle.model.specs.declared.order.Task.{Task}
use Rattle.model.specs.declared.order.Order.{Order}
use Rattle.model.specs.declared.build.Build.{Build}
use Rattle.model.specs.Limits.{member_of, home_of}
use Rattle.model.specs.Rules.{WithinLimits, TestsTell}
use Rattle.model.proofs.Rules.{tell_all}
use Rattle.demand.specs.Priority.{Members, members_of, deadline_of}
use Rattle.demand.specs.Releases.{period_of, jobs}
use Rattle.demand.specs.Verdict.{Verdict}
use Rattle.demand.specs.declared.Failing.TheVariants.{NoWindow, NoStart, TooLate}
use Rattle.demand.specs.Test.{window_demand, start_demand, verdict, first_met, largest_found, judged, verdict_by}
use Rattle.demand.specs.Over.{window_over, response_over, verdict_over}
use Rattle.demand.specs.Meaning.{IsResponse, IsPassing, VerdictMeans}
use Rattle.demand.proofs.Meaning.{every_verdict_means, no_start_never}
use Rattle.demand.proofs.FirstMet.{met_one}
use Rattle.verdict.specs.Tested.{is_there, window_of, worst_of}
use Rattle.inspect_tests.specs.Rules.{WindowThere, StartsThere, IsWorst, InTime, window_there, starts_there, in_time, response_right, verdict_rules, task_test_rules, test_rules}

-- a window is there exactly where the verdict has one
window-judged : (deadline : ℕ) (f : Option ℕ) → window_there (judged deadline f) ≡ true
window-judged deadline None = refl
window-judged deadline (Some worst) = go (leb worst deadline)
  where
    go : (b : Bool) → window_there (pick b (Ok worst) (Err TooLate)) ≡ true
    go true = refl
    go false = refl

window_by : (f : Option ℕ) (worst : ℕ → Option ℕ) (deadline : ℕ) → is_there f ≡ window_there (verdict_by f worst deadline)
window_by None worst deadline = refl
window_by (Some L) worst deadline = sym (window-judged deadline (worst L))

pub window_over_lem : (work : ℕ → ℕ) (blocking : ℕ) (task : Task) → is_there (window_of work blocking task) ≡ window_there (verdict_over work blocking task)
unfolding window_of verdict_over
window_over_lem work blocking task = window_by (first_met (window_over work blocking task) 1) (λ L. largest_found (response_over work blocking task) (jobs task L)) task.deadline

-- what 27 to 30 say of member i
module _ (o : Order) (member : Members) (i : ℕ) where
  pub passing_worst : (worst : ℕ) → IsPassing o member i worst → IsWorst o member i worst
  passing_worst worst p = record { size = p.size; window = p.window; each = p.each; attained = p.attained }

  pub worst_passing : (worst : ℕ) → IsWorst o member i worst → worst ≤ deadline_of o i → IsPassing o member i worst
  worst_passing worst w le = record { size = w.size; window = w.window; each = w.each; attained = w.attained; in_time_lem = le }

  pub passing_starts : (worst : ℕ) → IsPassing o member i worst → StartsThere o member i
  passing_starts worst p = record { size = p.size; window = p.window; each = λ q l. (let r = p.each q l in (r.1.start, r.1.start_is)) }

  module _ (limits : WithinLimits o) (mine : i < o.tasks) where
    abbrev verdict_means : VerdictMeans o member i
    verdict_means = every_verdict_means o member i limits mine

    -- without a worst response it has no window, or is late
    pub no_response : worst_of (verdict o member i) ≡ None → (verdict o member i ≡ Err NoWindow) ⊎ (verdict o member i ≡ Err TooLate)
    no_response none = go (verdict o member i) refl
      where
        go : (v : Verdict) → verdict o member i ≡ v → (verdict o member i ≡ Err NoWindow) ⊎ (verdict o member i ≡ Err TooLate)
        go (Ok worst) e = (let z : ◌≡◌ {A = Option ℕ} (Some worst) None = sym (ap worst_of e) ∙ none in cc)
        go (Err NoWindow) e = inl e
        go (Err NoStart) e = absurd (no_start_never o member i limits mine e)
        go (Err TooLate) e = inr e

    never_both : {A : Type 0} (a b : Verdict) → verdict o member i ≡ a → verdict o member i ≡ b → (a ≡ b → ◌≡◌ {A = ℕ} 0 1) → A
    never_both a b x y differ = absurd (omega (arith, differ (sym x ∙ y)))

    late_out : verdict o member i ≡ Err TooLate → InTime o member i → ⊥
    late_out e t =
        let p = (verdict_means.passes t.worst).1 (worst_passing t.worst t.worst_is t.at_most) in
        never_both (Err TooLate) (Ok t.worst) e p (λ z. cc z)

    -- a job has one response
    one_response : (q r x : ℕ) → IsResponse o member i q r → IsResponse o member i q x → r ≡ x
    one_response q r x a b =
        let same = met_one (start_demand o member i q) 0 a.start b.start a.start_is b.start_is in
        omega (arith, a.response_is, b.response_is)

    -- and a member one worst response
    pub worst_one : (worst recorded : ℕ) → verdict o member i ≡ Ok worst → IsWorst o member i recorded → recorded ≡ worst
    worst_one worst recorded e w =
        let p = (verdict_means.passes worst).0 e in
        let same = met_one (window_demand o member i) 1 w.size p.size w.window p.window in
        let q = w.attained.0 in
        let r = p.each q (subst (λ (L : ℕ). q * period_of o i < L) same w.attained.1) in
        let low : recorded ≤ deadline_of o i = omega (arith, one_response q recorded r.0 w.attained.2 r.1, r.2, p.in_time_lem) in
        let again : ◌≡◌ {A = Verdict} (Ok worst) (Ok recorded) = sym e ∙ (verdict_means.passes recorded).1 (worst_passing recorded w low) in
        cc

    window_tells : (found : Verdict) → verdict o member i ≡ found → (window_there found ≡ true) ↔ WindowThere o member i
    window_tells (Ok worst) e = (λ _. (let p = (verdict_means.passes worst).0 e in (p.size, p.window)), λ _. refl)
    window_tells (Err NoWindow) e = (λ h. clash h, λ w. absurd (omega (arith, verdict_means.no_window.0 e w.0 w.1.from w.1.upto, w.1.met)))
    window_tells (Err NoStart) e = absurd (no_start_never o member i limits mine e)
    window_tells (Err TooLate) e = (λ _. (let p = verdict_means.late.0 e in (p.size, p.window)), λ _. refl)

    starts_tell : (found : Verdict) → verdict o member i ≡ found → window_there found ≡ true → (starts_there found ≡ true) ↔ StartsThere o member i
    starts_tell (Ok worst) e h = (λ _. passing_starts worst ((verdict_means.passes worst).0 e), λ _. refl)
    starts_tell (Err NoWindow) e h = clash h
    starts_tell (Err NoStart) e h = absurd (no_start_never o member i limits mine e)
    starts_tell (Err TooLate) e h =
        (λ _. (let p = verdict_means.late.0 e in record { size = p.size; window = p.window; each = λ q l. (let r = p.each q l in (r.1.start, r.1.start_is)) }), λ _. refl)

    in_time_tells : (found : Verdict) → verdict o member i ≡ found → window_there found ≡ true → starts_there found ≡ true → (in_time found ≡ true) ↔ InTime o member i
    in_time_tells (Ok worst) e h k = (λ _. (let p = (verdict_means.passes worst).0 e in record { worst = worst; worst_is = passing_worst worst p; at_most = p.in_time_lem }), λ _. refl)
    in_time_tells (Err NoWindow) e h k = clash h
    in_time_tells (Err NoStart) e h k = clash k
    in_time_tells (Err TooLate) e h k = (λ z. clash z, λ t. absurd (late_out e t))

    response_tells : (found : Verdict) (recorded : ℕ) → verdict o member i ≡ found → window_there found ≡ true → starts_there found ≡ true → in_time found ≡ true →
        (response_right found recorded ≡ true) ↔ IsWorst o member i recorded
    response_tells (Ok worst) recorded e h k t =
        (λ z. subst (IsWorst o member i) (sym (eqb-true recorded worst z)) (passing_worst worst ((verdict_means.passes worst).0 e)), λ w. eq-eqb recorded worst (worst_one worst recorded e w))
    response_tells (Err NoWindow) recorded e h k t = clash h
    response_tells (Err NoStart) recorded e h k t = clash k
    response_tells (Err TooLate) recorded e h k t = clash t

    verdict_tells : (recorded : ℕ) (found : Verdict) → verdict o member i ≡ found → TestsTell (verdict_rules o member i recorded found)
    unfolding TestsTell
    verdict_tells recorded found e =
        (window_tells found e, λ h. (starts_tell found e h, λ k. (in_time_tells found e h k, λ t. (response_tells found recorded e h k t, λ _. tt))))

-- 27 to 30 tell, of an order within the limits
pub tests_tell : (o : Order) (b : Build) → WithinLimits o → TestsTell (test_rules o b)
unfolding test_rules
tests_tell o b limits = tell_all (task_test_rules o b) o.tasks (λ i l. verdict_tells o (members_of b (home_of b i)) i limits l (member_of b i).response _ refl)
