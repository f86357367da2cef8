-- The worst response of the test is exact; and where a window closes by H, so is 29.
use Rattle.std.specs.Prelude.{Ok, Err}
use mathlib.Core.Path.{◌≡◌, refl, subst}
use mathlib.Core.List.{List}
use Prim.Native.Nat.{ℕ, ◌+◌, ◌*◌, ◌<◌}
use native.Mathlib.Nat.{le_refl}
use native.Mathlib.Omega.{arith}
use Rattle.model.specs.declared.order.Order.{Order}
use Rattle.model.specs.declared.build.Build.{Build}
use Rattle.model.specs.Limits.{home_of}
use Rattle.model.specs.Rules.{WithinLimits}
use Rattle.model.proofs.Rules.{kept_pass}
use Rattle.order.specs.Order.{order_at, order_rules}
use Rattle.order.proofs.Rules.{order_tells}
use Rattle.order.proofs.Reading.{within_limits}
use Rattle.build.specs.Build.{build_at}
use Rattle.demand.specs.Verdict.{Verdict}
use Rattle.demand.specs.declared.Failing.TheVariants.{NoWindow, NoStart, TooLate}
use Rattle.demand.specs.Priority.{Members, members_of}
use Rattle.demand.specs.Releases.{period_of, cost_of}
use Rattle.demand.specs.Test.{verdict}
use Rattle.demand.proofs.Meaning.{every_verdict_means, no_start_never}
use Rattle.machine.specs.Step.{Ends}
use Rattle.machine.specs.Pattern.{pattern_of}
use Rattle.machine.specs.Box.{Finishes}
use Rattle.machine.proofs.Once.{ends_once, runs_own}
use Rattle.machine.proofs.Script.{legal_script_is_legal}
use Rattle.machine.proofs.Isolation.{home_member}
use Rattle.busy.proofs.Passing.{passing_is_in_time}
use Rattle.inspect_tests.specs.Rules.{InTime, IsWorst}
use Rattle.inspect_tests.proofs.Verdicts.{passing_worst, worst_passing}
use Rattle.inspect.specs.Claims.{OrderRight}
use Rattle.inspect.proofs.Claims.{order_kept}
use Rattle.critical.specs.Pattern.{begin, critical_script}
use Rattle.critical.specs.Claims.{IsMember, JobInWindow}
use Rattle.critical.proofs.Legal.{critical_is_legal}
use Rattle.critical.proofs.Exact.{critical_is_exact}
use Rattle.critical.proofs.Late.{too_late_misses, within_any_worst}
use Rattle.late.specs.Exact.{ExactResponse, WorstIsExact, NeverMisses, HasWindow, TestedInTime, ExactWhereWindowsClose}

right_limits : (order : List ℕ) → OrderRight order → WithinLimits (order_at order)
right_limits order right = within_limits order (kept_pass (order_rules order) (order_tells order) (order_kept order right))

module _ (o : Order) (member : Members) (i worst : ℕ) (m : IsMember o member i) (is : IsWorst o member i worst) where
  abbrev q : ℕ
  q = is.attained.0

  abbrev w : ℕ
  w = is.attained.2.start

  job : JobInWindow o member i q w
  job = record { size = is.size; window = is.window; inside = is.attained.1; starts = is.attained.2.start_is }

  -- the job of the worst response takes it all
  taken : Ends o member (pattern_of (critical_script o member i q w)) i (begin o member i + q * period_of o i) (begin o member i + q * period_of o i + worst)
  taken =
      let same : begin o member i + w + cost_of o i ≡ begin o member i + q * period_of o i + worst = omega (arith, is.attained.2.response_is) in
      subst (Ends o member (pattern_of (critical_script o member i q w)) i (begin o member i + q * period_of o i)) same
      (critical_is_exact o member i q w m job q w (le_refl q) is.attained.2.start_is)

  exact : ExactResponse o member i worst
  exact =
      record {
        never_more = within_any_worst o member i is.size worst m is.window
            (λ p l. let r = is.each p l in (r.1.start, r.1.start_is, omega (arith, r.1.response_is, r.2)));
        script = critical_script o member i q w;
        legal = (critical_is_legal o member i q w m job).script;
        release = begin o member i + q * period_of o i;
        comes = (runs_own o member (pattern_of (critical_script o member i q w)) _ i (begin o member i + q * period_of o i) 0 taken).2;
        attained = taken;
      }

pub worst_is_exact : WorstIsExact
worst_is_exact o member i worst m is = exact o member i worst m is

module _ (o : Order) (b : Build) (i : ℕ) (limits : WithinLimits o) (known : i < o.tasks) where
  abbrev member : Members
  member = members_of b (home_of b i)

  abbrev here : IsMember o member i
  here = record { limits = limits; known = known; its_own = home_member b (home_of b i) i refl }

  -- a late member has a legal script that misses
  late_misses : verdict o member i ≡ Err TooLate → NeverMisses o b i → ⊥
  unfolding Finishes
  late_misses late never-misses =
      let shown = too_late_misses o member i here late in
      let missed = shown.misses in
      let said = never-misses _ (legal_script_is_legal o _ shown.legal).legal missed.release missed.comes in
      omega (arith, said.2, missed.late, ends_once o member _ i missed.release said.0 missed.finish said.1 missed.finishes)

  never-in_time : HasWindow o b i → NeverMisses o b i → TestedInTime o b i
  never-in_time there never-misses = go (verdict o member i) refl
    where
      go : (v : Verdict) → verdict o member i ≡ v → InTime o member i
      go (Ok worst) e = let p = ((every_verdict_means o member i limits known).passes worst).0 e in record { worst = worst; worst_is = passing_worst o member i worst p; at_most = p.in_time_lem }
      go (Err NoWindow) e = absurd (omega (arith, (every_verdict_means o member i limits known).no_window.0 e there.0 there.1.from there.1.upto, there.1.met))
      go (Err NoStart) e = absurd (no_start_never o member i limits known e)
      go (Err TooLate) e = absurd (late_misses e never-misses)

  in_time-never : TestedInTime o b i → NeverMisses o b i
  unfolding Finishes
  in_time-never t releases legal release comes =
      let passes = ((every_verdict_means o member i limits known).passes t.worst).1 (worst_passing o member i t.worst t.worst_is t.at_most) in
      let f = passing_is_in_time o member i t.worst limits known here.its_own passes releases legal release comes in
      (f.finish, f.finishes, f.in_deadline)

pub exact_where_windows_close : ExactWhereWindowsClose
exact_where_windows_close order build right i known there =
    let limits = right_limits order right.order_right in
    (never-in_time (order_at order) (build_at build) i limits known there, in_time-never (order_at order) (build_at build) i limits known)
