-- What task i and the members above it release in the pattern: from the begin on, just as much as the test counts.
use Prim.Native.Nat.{ℕ, zero, suc, ◌+◌, ◌-◌, ◌*◌, ◌/◌, ◌%◌, ◌≤◌, ◌<◌}
use mathlib.Core.Path.{◌≡◌, refl, sym, ap, ◌∙◌, subst}
use mathlib.Core.Bool.{Bool, true, false, ◌&&◌, ◌||◌}
use native.Mathlib.Nat.{div-add-mod, mul_comm, zero-mul, suc-mul, add-mul, one-mul, add-zero, mul-le-mul_right}
use native.Mathlib.Omega.{arith}
use lib.Dec.{eqb}
use borrow.Author.Tests.{eq-eqb, ne_eqb, lt-ltb, lt-leb}
use Rattle.laws.specs.Choice.{pick, within}
use Rattle.laws.specs.Sums.{only}
use Rattle.laws.proofs.Choice.{pick-never}
use Rattle.laws.proofs.Every.{clash, and_both}
use Rattle.laws.proofs.Sums.{sum_same, sum_zero}
use Rattle.laws.proofs.Growth.{sum_further}
use Rattle.model.specs.declared.order.Order.{Order}
use Rattle.model.specs.Limits.{task_of, cost}
use Rattle.demand.specs.Priority.{Members, outranks, higher}
use Rattle.demand.specs.Releases.{period_of, cost_of, releases_by, work_by}
use Rattle.demand.proofs.Priority.{outranks_self, never-above}
use Rattle.demand.proofs.Releases.{work_few, work_spaced}
use Rattle.demand.proofs.Demands.{sized_of}
use Rattle.machine.specs.Step.{Pattern, of_members}
use Rattle.machine.proofs.Line.{released_before}
use Rattle.machine.proofs.Work.{theirs, theirs_of}
use Rattle.comings.specs.Comings.{comes_at, coming_pattern}
use Rattle.comings.proofs.Count.{come_count}
use Rattle.comings.proofs.Comings.{pattern_comes}
use Rattle.critical.specs.Pattern.{blocks, begin, comes_from, comes_up_to, critical_comings, critical_pattern}
use Rattle.critical.specs.Claims.{IsMember}
use Rattle.critical.proofs.Blocker.{blocks_outranked}

pub or_right : (a b : Bool) → b ≡ true → (a || b) ≡ true
or_right true b e = refl
or_right false b e = e

module _ (o : Order) (member : Members) (i q w : ℕ) (of : IsMember o member i) where
  abbrev P : Pattern
  P = critical_pattern o member i q w

  abbrev work : ℕ → ℕ → ℕ
  work = released_before (theirs o member P)

  abbrev t₀ : ℕ
  t₀ = begin o member i

  -- when a task comes that is none that i outranks
  from_begin : (k : ℕ) → outranks o i k ≡ false → comes_from o member i q w k ≡ t₀
  unfolding comes_from
  from_begin k not-under = go (blocks o member i k) refl
    where
      go : (b : Bool) → blocks o member i k ≡ b → pick b 0 t₀ ≡ t₀
      go true it = clash (sym not-under ∙ blocks_outranked o member i k it)
      go false it = refl

  pub own_from : comes_from o member i q w i ≡ t₀
  own_from = from_begin i (outranks_self o i)

  pub higher_from : (k : ℕ) → higher o member i k ≡ true → comes_from o member i q w k ≡ t₀
  unfolding higher
  higher_from k above = from_begin k (never-above o k i (and_both (member k) _ above).1)

  pub own_up_to : comes_up_to o member i q w i ≡ t₀ + q * period_of o i
  unfolding comes_up_to
  own_up_to = rw (eq-eqb i i refl)

  pub higher-up_to : (k : ℕ) → higher o member i k ≡ true → comes_up_to o member i q w k ≡ t₀ + w
  unfolding comes_up_to higher
  higher-up_to k above =
      rw (ne_eqb k i (λ same. clash (sym (outranks_self o i) ∙ (ap (λ (x : ℕ). outranks o x i) (sym same) ∙ (and_both (member k) _ above).1))), above)

  -- a member that takes part releases jobs of its cost, every T
  module _ (k : ℕ) (known : k < o.tasks) (mine : member k ≡ true) (takes_part_lem : (critical_comings o member i q w).takes_part k ≡ true) where
    pub theirs_are : (first last : ℕ) → comes_from o member i q w k ≡ first → comes_up_to o member i q w k ≡ last → (u : ℕ)
        → theirs o member P u k ≡ only (within first last u && eqb ((u - first) % period_of o k) 0) (cost_of o k)
    unfolding of_members coming_pattern comes_at cost
    theirs_are first last from up_to_lem u = rw (mine, lt-ltb k o.tasks known, takes_part_lem, from, up_to_lem)

    -- nothing before the begin, and then "floor(x/T)+1" jobs up to x ticks later
    none_before : comes_from o member i q w k ≡ t₀ → work k t₀ ≡ 0
    none_before from = sum_zero (λ u. theirs o member P u k) t₀ (λ u early. theirs_are t₀ _ from refl u ∙ rw (lt-leb t₀ u early))

    come_by : (last x : ℕ) → comes_from o member i q w k ≡ t₀ → comes_up_to o member i q w k ≡ last → t₀ + x ≤ last → work k (t₀ + suc x) ≡ work_by (task_of o k) x
    unfolding work_by releases_by
    come_by last x from up_to_lem inside =
        sum_same (λ u. theirs o member P u k) _ (t₀ + suc x) (λ u l. theirs_are t₀ last from up_to_lem u)
        ∙ come_count t₀ last (period_of o k) x (cost_of o k) (sized_of o of.limits k known).period_least inside

  own_takes_part : (critical_comings o member i q w).takes_part i ≡ true
  own_takes_part = rw (eq-eqb i i refl)

  higher_takes_part : (k : ℕ) → higher o member i k ≡ true → (critical_comings o member i q w).takes_part k ≡ true
  higher_takes_part k above = or_right (eqb k i) _ (ap (◌|| blocks o member i k) above)

  higher_mine : (k : ℕ) → higher o member i k ≡ true → member k ≡ true
  unfolding higher
  higher_mine k above = (and_both (member k) _ above).0

  pub own_none : work i t₀ ≡ 0
  own_none = none_before i of.known of.its_own own_takes_part own_from

  pub own_come : (x : ℕ) → x ≤ q * period_of o i → work i (t₀ + suc x) ≡ work_by (task_of o i) x
  own_come x inside = come_by i of.known of.its_own own_takes_part (t₀ + q * period_of o i) x own_from own_up_to (omega arith)

  -- task i comes no more after job q
  pub own_past : (u : ℕ) → t₀ + q * period_of o i < u → P u i ≡ 0
  own_past u past =
      sym (theirs_of o member P u i of.its_own)
      ∙ (theirs_are i of.known of.its_own own_takes_part t₀ (t₀ + q * period_of o i) own_from own_up_to u
      ∙ rw (lt-leb u (t₀ + q * period_of o i) past, pick-never))

  -- task i comes with the jobs up to q alone
  pub own_job : (u : ℕ) → 0 < P u i → (p : ℕ) × (u ≡ t₀ + p * period_of o i)
  own_job u some =
      let it = pattern_comes o (critical_comings o member i q w) u i some in
      let x = u - t₀ in
      let whole : x / period_of o i * period_of o i ≡ x = mul_comm (x / period_of o i) (period_of o i) ∙ omega (arith, div-add-mod x (period_of o i), subst (λ (first : ℕ). (u - first) % period_of o i ≡ 0) own_from it.multiple) in
      (x / period_of o i, omega (arith, whole, it.from, own_from))

  pub higher_none : (k : ℕ) → k < o.tasks → higher o member i k ≡ true → work k t₀ ≡ 0
  higher_none k known above = none_before k known (higher_mine k above) (higher_takes_part k above) (higher_from k above)

  pub higher_come : (x : ℕ) → x ≤ w → (k : ℕ) → k < o.tasks → higher o member i k ≡ true → work k (t₀ + suc x) ≡ work_by (task_of o k) x
  higher_come x inside k known above =
      come_by k known (higher_mine k above) (higher_takes_part k above) (t₀ + w) x (higher_from k above) (higher-up_to k above) (omega arith)

  -- before job p of task i come p jobs, of p·C
  pub own_before : (p : ℕ) → p ≤ q → work i (t₀ + p * period_of o i) ≡ p * cost_of o i
  own_before zero le = rw (zero-mul (period_of o i), add-zero, zero-mul (cost_of o i)) own_none
  own_before (suc p) le =
      let T = period_of o i in
      let pos = (sized_of o of.limits i of.known).period_least in
      let next = suc-mul p T in
      let e : t₀ + suc p * T ≡ t₀ + suc (suc p * T - 1) = omega arith in
      let inside : suc p * T ≤ q * T = mul-le-mul_right T le in
      let counted = own_come (suc p * T - 1) (omega arith) in
      let few = work_few (task_of o i) pos (suc p * T - 1) (suc p) (omega arith) in
      let many = work_spaced (task_of o i) pos (suc p * T - 1) p (omega arith) in
      omega (arith, ap (work i) e, suc-mul p (cost_of o i), add-mul p 1 (cost_of o i), one-mul (cost_of o i))

  -- and its length is C
  pub own_length : (p : ℕ) → p ≤ q → theirs o member P (t₀ + p * period_of o i) i ≡ cost_of o i
  own_length p le =
      let T = period_of o i in
      let pos = (sized_of o of.limits i of.known).period_least in
      let inside : p * T ≤ q * T = mul-le-mul_right T le in
      let before = own_before p le in
      let counted = own_come (p * T) inside in
      let few = work_few (task_of o i) pos (p * T) (p + 1) (omega (arith, add-mul p 1 T, one-mul T)) in
      let many = work_spaced (task_of o i) pos (p * T) p (omega arith) in
      omega (arith, sum_further (λ u. theirs o member P u i) t₀ (p * T), add-mul p 1 (cost_of o i), one-mul (cost_of o i))
