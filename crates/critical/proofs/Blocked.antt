-- The blocker holds the partition to B ticks past the begin; only from then on are task i and the members above it served, once a tick.
use Prim.Native.Nat.{ℕ, suc, ◌+◌, ◌≤◌, ◌<◌}
use mathlib.Core.Path.{◌≡◌, refl, sym, ap, ◌∙◌}
use mathlib.Core.Bool.{Bool, true, false}
use native.Mathlib.Nat.{zero-mod}
use native.Mathlib.Omega.{arith}
use lib.Dec.{eqb, ltb}
use borrow.Author.Tests.{ne_eqb}
use Rattle.laws.specs.Choice.{pick, within}
use Rattle.laws.specs.Sums.{sum}
use Rattle.laws.proofs.Choice.{within_true}
use Rattle.laws.proofs.Every.{clash, and_both}
use Rattle.laws.proofs.Only.{only_some}
use Rattle.laws.proofs.Sums.{sum_none, sum_suc}
use Rattle.model.specs.declared.order.Order.{Order}
use Rattle.demand.specs.Priority.{Members, outranks, higher, lower}
use Rattle.demand.specs.Test.{blocking}
use Rattle.demand.proofs.Priority.{outranks_self, never-above, not_higher, higher_self}
use Rattle.machine.specs.Step.{Pattern, Running, free, runs}
use Rattle.machine.proofs.View.{running_before}
use Rattle.machine.proofs.Line.{work_of, work_none}
use Rattle.machine.proofs.Work.{serves_task, left_of, serves_itself, theirs, serves}
use Rattle.machine.proofs.Once.{runs_in_line, conserved, runs_own}
use Rattle.machine.proofs.Quiet.{at_rest, runs_unbroken}
use Rattle.busy.specs.Window.{over_both}
use Rattle.busy.proofs.Over.{higher_zero, both_miss, both_one}
use Rattle.comings.specs.Comings.{comes_at, coming_pattern}
use Rattle.critical.specs.Pattern.{blocks, begin, comes_from, comes_up_to, critical_comings, critical_pattern}
use Rattle.critical.specs.Claims.{IsMember, OneBlocker}
use Rattle.critical.proofs.Blocker.{blocker_is_there, begin_blocked}
use Rattle.critical.proofs.Counts.{or_right, theirs_are}

module _ (o : Order) (member : Members) (i q w : ℕ) (of : IsMember o member i) where
  abbrev P : Pattern
  P = critical_pattern o member i q w

  abbrev B : ℕ
  B = blocking o member i

  abbrev running : ℕ → Running
  running = running_before o member P

  -- how many of i and the members above it are served by what runs
  abbrev pub serves_both : Running → ℕ
  serves_both r = over_both (higher o member i) i o.tasks (λ k. serves_task k r)

  pub once_a_tick : (r : Running) → serves_both r ≤ 1
  once_a_tick free = omega (arith, higher_zero (higher o member i) o.tasks (λ k. 0) (λ k. refl))
  once_a_tick (runs j a l) = both_one (higher o member i) i o.tasks (higher_self o member i) j

  -- what is released before the begin is the blocker's
  first_blocks : 0 < B → (k : ℕ) → 0 < P 0 k → blocks o member i k ≡ true
  unfolding coming_pattern comes_at comes_from
  first_blocks some k released =
      let comes = (and_both (ltb k o.tasks) _ (only_some _ _ released).0).1 in
      let inside = (and_both (within (comes_from o member i q w k) (comes_up_to o member i q w k) 0) _ (and_both ((critical_comings o member i q w).takes_part k) _ comes).1).0 in
      go (blocks o member i k) refl (within_true (comes_from o member i q w k) (comes_up_to o member i q w k) 0 inside).0
    where
      go : (b : Bool) → blocks o member i k ≡ b → pick b 0 (begin o member i) ≤ 0 → blocks o member i k ≡ true
      go true it early = it
      go false it early = absurd (omega (arith, begin_blocked o member i some))

  module _ (some : 0 < B) (j : ℕ) (it : blocks o member i j ≡ true) (one : OneBlocker o member i j) where
    outranked : outranks o i j ≡ true
    unfolding lower
    outranked = (and_both (member j) _ one.is_lower).1

    not_i : i ≡ j → ⊥
    not_i same = clash (sym (outranks_self o i) ∙ (ap (outranks o i) same ∙ outranked))

    not_above : higher o member i j ≡ false
    not_above = not_higher o member i j (never-above o i j outranked)

    mine : member j ≡ true
    unfolding lower
    mine = (and_both (member j) _ one.is_lower).0

    takes_part_lem : (critical_comings o member i q w).takes_part j ≡ true
    takes_part_lem = or_right (eqb j i) _ (or_right (higher o member i j) _ it)

    from_0 : comes_from o member i q w j ≡ 0
    unfolding comes_from
    from_0 = rw it

    up_to_0 : comes_up_to o member i q w j ≡ 0
    unfolding comes_up_to
    up_to_0 = rw (ne_eqb j i (λ same. not_i (sym same)), not_above)

    -- "comes once at tick 0"
    comes_first : theirs o member P 0 j ≡ suc B
    comes_first = theirs_are o member i q w of j one.known mine takes_part_lem 0 0 from_0 up_to_0 0 ∙ rw zero-mod one.cost_is

    -- so it is what starts there
    starts_first : running 1 ≡ runs j 0 B
    starts_first = go (running 1) refl
      where
        released : sum (λ u. theirs o member P u j) 1 ≡ suc B
        released = omega (arith, sum_suc (λ u. theirs o member P u j) 0, sum_none (λ u. theirs o member P u j), comes_first)

        go : (r : Running) → running 1 ≡ r → r ≡ runs j 0 B
        go free e =
            absurd
            (omega (
              arith,
              released,
              conserved o member P j 1,
              ap (left_of j) e,
              ap work_of (at_rest o member P 1 e j one.known),
              work_none,
              sum_suc (serves o member P j) 0,
              sum_none (serves o member P j),
              ap (serves_task j) e,
            )
            )
        go (runs k a l) e =
            let own = runs_own o member P 1 k a l e in
            let at-0 : a ≡ 0 = omega (arith, own.3) in
            let same : k ≡ j = one.only_it k (first_blocks some k (rw at-0 at own.2)) in
            let e' : running 1 ≡ runs j 0 l = rw (same, at-0) at e in
            let counts = runs_in_line o member P 1 j 0 l e' in
            rw (same, at-0) (ap (runs j 0) (omega (
              arith,
              counts.0,
              comes_first,
              sum_suc (serves o member P j) 0,
              sum_none (serves o member P j),
              sum_none (λ u. theirs o member P u j),
              ap (serves_task j) e',
              serves_itself j 0 l,
            )))

    -- and it runs on: none of i and the members above it is served in its ticks
    holds_on : (u : ℕ) → u ≤ B → serves_both (running (suc u)) ≡ 0
    holds_on u le =
        let e : suc u ≡ 1 + u = omega arith in
        rw (e, runs_unbroken o member P 1 u j 0 B starts_first le) (both_miss (higher o member i) i o.tasks j not_i not_above)

  -- "if B is over 0" task i and the members above it are not served before B ticks from the begin
  pub not_served_first : (x : ℕ) → x < B → serves_both (running (suc (begin o member i + x))) ≡ 0
  not_served_first x before =
      let some : 0 < B = omega arith in
      let there = blocker_is_there o member i some in
      holds_on some there.0 there.1 there.2 (begin o member i + x) (omega (arith, begin_blocked o member i some))
