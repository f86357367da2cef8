-- A member that is late in the test has a first late job, and the script up to it misses; no job of any legal pattern takes longer.
use Rattle.std.specs.Prelude.{Some, None, Option}
use Prim.Native.Nat.{ℕ, ◌+◌, ◌-◌, ◌*◌, ◌≤◌, ◌<◌}
use mathlib.Core.Path.{◌≡◌, refl, sym, ap, ◌∙◌, subst, subst₂}
use mathlib.Core.Bool.{Bool, true}
use native.Mathlib.Decide.{dec_le, dec_lt}
use native.Mathlib.Nat.{mul-le-mul, mul-le-mul_right}
use native.Mathlib.Omega.{arith}
use lib.Dec.{ltb}
use borrow.Author.Tests.{lt-ltb, ltb-true, ltb-false}
use Rattle.laws.proofs.Every.{clash}
use Rattle.model.specs.declared.order.Order.{Order}
use Rattle.model.specs.Limits.{horizon}
use Rattle.search.specs.Smallest.{smallest, number_found, Answers, IsSmallest}
use Rattle.search.proofs.Smallest.{smallest_is}
use Rattle.demand.specs.Priority.{Members, deadline_of}
use Rattle.demand.specs.Releases.{period_of, cost_of}
use Rattle.demand.specs.Test.{response}
use Rattle.demand.specs.Meaning.{IsLate}
use Rattle.demand.proofs.Demands.{sized_of, JobOf, job_of}
use Rattle.demand.proofs.Meaning.{is_start, answers, every_verdict_means}
use Rattle.machine.specs.Step.{Ends}
use Rattle.machine.specs.Pattern.{pattern_of}
use Rattle.machine.proofs.Work.{theirs_of}
use Rattle.busy.proofs.Passing.{finishes_within}
use Rattle.critical.specs.Pattern.{begin, critical_pattern}
use Rattle.critical.specs.Late.{is_over, late_job, late_start, late_script, FirstLate}
use Rattle.critical.specs.Claims.{IsMember, JobInWindow, HasFirstLate, TooLateHasFirst, TooLateMisses, WithinAnyWorst}
use Rattle.critical.proofs.Counts.{own_length, own_past, own_job}
use Rattle.critical.proofs.Legal.{critical_is_legal}
use Rattle.critical.proofs.Exact.{critical_is_exact}

module _ (o : Order) (member : Members) (i : ℕ) (of : IsMember o member i) (late : IsLate o member i) where
  abbrev T : ℕ
  T = period_of o i

  abbrev C : ℕ
  C = cost_of o i

  abbrev D : ℕ
  D = deadline_of o i

  -- "a response over D"
  abbrev over : ℕ → Bool
  over q = is_over D (response o member i q)

  -- a job of the window, and its test
  job : (q : ℕ) → q * T < late.size → JobOf o member i of.limits of.known late.size q
  job q inside = job_of o member i of.limits of.known late.size q late.window inside

  over_is : (q : ℕ) → q * T < late.size → (j : JobOf o member i of.limits of.known late.size q) → over q ≡ ltb D (j.at + C - q * T)
  over_is q inside j =
      ap (is_over D) (answers o member i of.limits of.known late.size late.window q (j.at + C - q * T) inside
      (record { start = j.at; start_is = j.is; response_is = omega (arith, j.release) }))

  some_over : over late.late.0 ≡ true
  some_over =
      let r = late.late.2 in
      ap (is_over D) (answers o member i of.limits of.known late.size late.window late.late.0 r.0 late.late.1 r.1) ∙ lt-ltb D r.0 r.2

  -- job m is the first such
  module _ (m : ℕ) (first : IsSmallest over 0 horizon m) where
    up_to : m ≤ late.late.0
    up_to = elim (dec_le m late.late.0) [ yes le ↦ le | no gt ↦ clash (sym (first.below late.late.0 (omega arith) (omega arith)) ∙ some_over) ]

    inside : (p : ℕ) → p ≤ m → p * T < late.size
    inside p le = let far : p * T ≤ late.late.0 * T = mul-le-mul_right T (omega (arith, up_to)) in omega (arith, late.late.1)

    its : JobOf o member i of.limits of.known late.size m
    its = job m (inside m (omega arith))

    first_late : FirstLate o member i m its.at
    first_late =
        record {
          starts = its.is;
          late = omega (arith, ltb-true D (its.at + C - m * T) (sym (over_is m (inside m (omega arith)) its) ∙ first.holds));
          earlier = λ p before.
              let j = job p (inside p (omega arith)) in
              (j.at, j.is, omega (arith, ltb-false D (j.at + C - p * T) (sym (over_is p (inside p (omega arith)) j) ∙ first.below p (omega arith) before)));
        }

    has_first : late_job o member i ≡ m → HasFirstLate o member i
    unfolding late_start
    has_first job_is =
        let start_is : late_start o member i ≡ its.at = rw job_is (ap number_found (is_start o member i m its.at its.is)) in
        record {
          first = subst₂ (λ q w. FirstLate o member i q w) (sym job_is) (sym start_is) first_late;
          in_window = subst₂ (λ q w. JobInWindow o member i q w) (sym job_is) (sym start_is)
              (record { size = late.size; window = late.window; inside = inside m (omega arith); starts = its.is });
        }

  -- and there is a first
  first_found : HasFirstLate o member i
  unfolding late_job
  first_found = go (smallest over 0 horizon) refl (smallest_is over 0 horizon (omega arith))
    where
      in_horizon : late.late.0 ≤ horizon
      in_horizon =
          let least = (sized_of o of.limits i of.known).period_least in
          let far : late.late.0 * 1 ≤ late.late.0 * T = mul-le-mul (omega arith) least in
          omega (arith, late.late.1, late.window.upto)

      go : (f : Option ℕ) → smallest over 0 horizon ≡ f → Answers over 0 horizon (smallest over 0 horizon) → HasFirstLate o member i
      go (Some m) e a = has_first m (subst (Answers over 0 horizon) e a) (ap number_found e)
      go None e a = clash (sym (subst (Answers over 0 horizon) e a late.late.0 (omega arith) in_horizon) ∙ some_over)

pub too_late_has_first : TooLateHasFirst
too_late_has_first o member i of verdict_is = first_found o member i of ((every_verdict_means o member i of.limits of.known).late.0 verdict_is)

-- a job that comes sooner has a lower number
sooner_fewer : (T p q : ℕ) → p * T < q * T → p < q
sooner_fewer T p q sooner = elim (dec_lt p q) [ yes less ↦ less | no more ↦ (let le : q ≤ p = omega (arith, more) in absurd (omega (arith, sooner, mul-le-mul_right T le))) ]

-- "late in the test means late in the box"
pub too_late_misses : TooLateMisses
too_late_misses o member i of verdict_is =
    let has = too_late_has_first o member i of verdict_is in
    let q = late_job o member i in
    let w = late_start o member i in
    let legal = critical_is_legal o member i q w of has.in_window in
    let release = begin o member i + q * period_of o i in
    record {
      legal = legal.script;
      misses = record {
        release = release;
        finish = begin o member i + w + cost_of o i;
        comes = omega (
          arith,
          legal.same release i,
          theirs_of o member (critical_pattern o member i q w) release i of.its_own,
          own_length o member i q w of q (omega arith),
          (sized_of o of.limits i of.known).cost-least,
        );
        its_last = λ later after. legal.same later i ∙ own_past o member i q w of later after;
        finishes = critical_is_exact o member i q w of has.in_window q w (omega arith) has.first.starts;
        late = omega (arith, has.first.late);
      };
      earlier = λ before sooner comes.
          let p = own_job o member i q w of before (subst (0 <◌) (legal.same before i) comes) in
          let fewer : p.0 < q = sooner_fewer (period_of o i) p.0 q (omega (arith, sooner, p.1)) in
          let v = has.first.earlier p.0 fewer in (
            begin o member i + v.0 + cost_of o i,
            subst (λ (u : ℕ). Ends o member (pattern_of (late_script o member i)) i u (begin o member i + v.0 + cost_of o i)) (sym p.1)
                (critical_is_exact o member i q w of has.in_window p.0 v.0 (omega (arith, fewer)) v.1),
            omega (arith, p.1, v.2),
          );
    }

pub within_any_worst : WithinAnyWorst
within_any_worst o member i size worst of window starts releases legal release comes =
    let f = finishes_within o member i of.limits of.known of.its_own releases legal size worst window starts release comes in
    (f.0, f.3, f.2)
