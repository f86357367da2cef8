-- In the pattern, job p of task i starts just w_p ticks after the begin.
use Prim.Native.Nat.{ℕ, zero, suc, ◌+◌, ◌-◌, ◌*◌, ◌≤◌, ◌<◌}
use mathlib.Core.Path.{◌≡◌, refl, ap}
use native.Mathlib.Decide.{dec_lt}
use native.Mathlib.Nat.{add-zero, add-suc, one-mul, mul-le-mul_right}
use native.Mathlib.Omega.{arith}
use Rattle.laws.proofs.Every.{and_both}
use Rattle.laws.proofs.Growth.{sum_crosses}
use Rattle.model.specs.declared.order.Order.{Order}
use Rattle.model.specs.Limits.{task_of}
use Rattle.demand.specs.Priority.{Members, higher}
use Rattle.demand.specs.Releases.{period_of, cost_of, work_by}
use Rattle.demand.specs.Test.{blocking, higher_work, start_demand}
use Rattle.demand.specs.Meaning.{IsStart}
use Rattle.demand.specs.Over.{window_over}
use Rattle.demand.proofs.Releases.{work_spaced}
use Rattle.demand.proofs.Demands.{sized_of, window_over_lem}
use Rattle.machine.specs.Step.{Pattern, Ends}
use Rattle.machine.specs.Pattern.{LegalPattern}
use Rattle.machine.proofs.View.{running_before}
use Rattle.machine.proofs.Line.{released_before}
use Rattle.machine.proofs.Work.{theirs, serves, served_before}
use Rattle.machine.proofs.Once.{pending}
use Rattle.busy.specs.Window.{over_higher, Service, Arrivals}
use Rattle.busy.proofs.Over.{higher_zero, higher_same_of, higher_le_of}
use Rattle.busy.proofs.Window.{served, released, waits, served_suc, totals, begun_by, not_early}
use Rattle.busy.proofs.Arrivals.{most, members_legal, short, arrivals}
use Rattle.busy.proofs.Service.{carried, service}
use Rattle.busy.proofs.Ends.{ends_from}
use Rattle.critical.specs.Pattern.{begin, critical_pattern}
use Rattle.critical.specs.Claims.{IsMember, JobInWindow}
use Rattle.critical.proofs.Counts.{own_none, own_come, own_before, own_length, higher_none, higher_come}
use Rattle.critical.proofs.Legal.{not_before_release}
use Rattle.critical.proofs.Blocked.{once_a_tick, not_served_first}
use Rattle.critical.proofs.Clear.{clear_above}

module _ (o : Order) (member : Members) (i q w : ℕ) (of : IsMember o member i) (job : JobInWindow o member i q w)
    (legal : LegalPattern o (critical_pattern o member i q w)) where
  abbrev P : Pattern
  P = critical_pattern o member i q w

  abbrev B : ℕ
  B = blocking o member i

  abbrev t₀ : ℕ
  t₀ = begin o member i

  abbrev T : ℕ
  T = period_of o i

  abbrev C : ℕ
  C = cost_of o i

  abbrev work : ℕ → ℕ → ℕ
  work = released_before (theirs o member P)

  theirs_legal : LegalPattern o (theirs o member P)
  theirs_legal = members_legal o member P legal

  S : Service (higher o member i) i o.tasks B (theirs o member P) (pending o member P) (serves o member P) (carried o member P i)
  S = service o member P i of.known (short o of.limits (theirs o member P) theirs_legal)

  -- nothing of i and the members above it comes before the begin, and then what the test counts
  idle_first : released S t₀ ≡ 0
  idle_first =
      omega (
        arith,
        own_none o member i q w of,
        higher_same_of (higher o member i) o.tasks (λ k. work k t₀) (λ k. 0) (higher_none o member i q w of),
        higher_zero (higher o member i) o.tasks (λ k. 0) (λ k. refl),
      )

  higher_work_lem : (x : ℕ) → x ≤ w → over_higher (higher o member i) o.tasks (λ k. work k (t₀ + suc x)) ≡ higher_work o member i x
  unfolding higher_work
  higher_work_lem x inside = higher_same_of (higher o member i) o.tasks _ _ (higher_come o member i q w of x inside)

  -- B ticks from the begin are the blocker's, and each later one serves once
  served_most : (x : ℕ) → served S (t₀ + x) ≤ x - B
  served_most zero = rw add-zero (omega (arith, totals S t₀, idle_first))
  served_most (suc x) = rw add-suc (go (served_most x) (dec_lt x B))
    where
      go : served S (t₀ + x) ≤ x - B → Dec (x < B) → served S (suc (t₀ + x)) ≤ suc x - B
      go earlier (yes before) = omega (arith, served_suc S (t₀ + x), not_served_first o member i q w of x before)
      go earlier (no past) = omega (arith, served_suc S (t₀ + x), once_a_tick o member i q w of (running_before o member P (suc (t₀ + x))))

  -- so they have work without a pause up to the release of job q: else the window would close
  busy_through : (x : ℕ) → suc x ≤ q * T → 0 < waits S (t₀ + suc x)
  unfolding window_over
  busy_through x inside = go (waits S (t₀ + suc x)) refl
    where
      go : (y : ℕ) → waits S (t₀ + suc x) ≡ y → 0 < y
      go (suc y) e = omega arith
      go zero e =
          let last : suc x - 1 ≡ x = omega arith in
          absurd
          (omega (
            arith,
            totals S (t₀ + suc x),
            served_most (suc x),
            own_come o member i q w of x (omega arith),
            higher_work_lem x (omega (arith, not_before_release o member i q w of job)),
            work_spaced (task_of o i) (sized_of o of.limits i of.known).period_least x 0 (omega arith),
            (sized_of o of.limits i of.known).cost-least,
            window_over_lem o member i of.limits of.known (suc x) (omega arith),
            ap (work_by (task_of o i)) last,
            ap (higher_work o member i) last,
            one-mul (cost_of o i),
            job.window.earlier (suc x) (omega arith) (omega (arith, job.inside)),
          )
          )

  -- job p, which starts v ticks after the begin in the test
  module _ (p v : ℕ) (le : p ≤ q) (starts : IsStart o member i p v) where
    abbrev a : ℕ
    a = t₀ + p * T

    p_inside : p * T ≤ q * T
    p_inside = mul-le-mul_right T le

    comes : 0 < theirs o member P a i
    comes = omega (arith, own_length o member i q w of p le, (sized_of o of.limits i of.known).cost-least)

    -- an earlier job starts no later
    no_later : v ≤ w
    unfolding start_demand
    no_later = elim (dec_lt w v) [
      | yes less ↦ absurd (omega (arith, starts.earlier w (omega arith) less, job.starts.met, mul-le-mul_right C le))
      | no more ↦ omega arith
    ]

    -- where i is served next after its earlier jobs, the test would let it start too
    not_earlier : (x : ℕ) → x ≤ w → served_before o member P i (t₀ + x) ≡ work i a → serves o member P i (t₀ + x) ≡ 1 → v ≤ x
    unfolding start_demand higher
    not_earlier x inside next_in_line now =
        let e : t₀ + suc x ≡ suc (t₀ + x) = omega arith in
        let above : over_higher (higher o member i) o.tasks (λ k. work k (t₀ + suc x)) ≤ over_higher (higher o member i) o.tasks (λ k. served_before o member P k (t₀ + x)) =
        rw e (higher_le_of (higher o member i) o.tasks _ _ (λ k l up. clear_above o member P i a (t₀ + x) now next_in_line k l (and_both (member k) _ up).1)) in
        elim (dec_lt x v) [
          | yes less ↦ absurd (omega (
            arith,
            starts.earlier x (omega arith) less,
            served_most (suc x),
            ap (served S) e,
            served_suc S (t₀ + x),
            higher_work_lem x inside,
            own_before o member i q w of p le,
          ))
          | no more ↦ omega arith
        ]

    F : Arrivals i (most o) T C 0 (theirs o member P) (λ x. x)
    F = arrivals o of.limits (theirs o member P) theirs_legal i

    -- and the busy window lets it start by then
    by_then : work i a < served_before o member P i (t₀ + suc v)
    unfolding start_demand higher_work
    by_then =
        begun_by S F a comes t₀ (omega arith) (omega (arith, totals S t₀, idle_first)) after p v
        (omega (arith, own_before o member i q w of p le)) (omega (arith, starts.met))
      where
        after : (u : ℕ) → t₀ < u → u ≤ a → 0 < waits S u
        after u from upto =
            let e : u ≡ t₀ + suc (u - suc t₀) = omega arith in
            rw e (busy_through (u - suc t₀) (omega (arith, p_inside)))

    -- so it starts just then, and ends when its C is served
    pub ends_exactly : Ends o member P i a (t₀ + v + C)
    ends_exactly =
        let c = sum_crosses (serves o member P i) (S.unit i) (t₀ + suc v) (work i a) by_then in
        let s = c.0 in
        let from : a ≤ s = not_early S F a comes s (omega (arith, c.2)) c.3 in
        let e : s ≡ t₀ + (s - t₀) = omega arith in
        let late : v ≤ s - t₀ = not_earlier (s - t₀) (omega (arith, c.1, no_later)) (rw (← e) c.2) (rw (← e) c.3) in
        let finish : t₀ + v + C ≡ s + theirs o member P a i = omega (arith, c.1, own_length o member i q w of p le) in
        rw finish (ends_from o member P i a comes s c.2 c.3)
