-- A newcomer changes no verdict of a member that outranks it and is blocked as long already; and it closes no window sooner.
use mathlib.Core.Path.{◌≡◌, refl, sym, ap, ◌∙◌}
use mathlib.Core.Bool.{Bool, true, false, ◌&&◌, ◌||◌}
use Prim.Native.Nat.{ℕ, ◌+◌, ◌-◌, ◌≤◌, ◌<◌}
use native.Mathlib.Decide.{ℕ_discrete}
use native.Mathlib.Omega.{arith}
use lib.Dec.{eqb}
use Rattle.laws.specs.Sums.{only, largest}
use Rattle.laws.proofs.Only.{only_le}
use Rattle.laws.proofs.Sums.{sum_le, largest_in, largest_le}
use Rattle.model.specs.declared.order.Order.{Order}
use Rattle.model.specs.Limits.{task_of}
use Rattle.demand.specs.Priority.{Members, outranks, higher, lower}
use Rattle.demand.specs.Releases.{cost_of, work_in}
use Rattle.demand.specs.Test.{blocking, window_demand, verdict}
use Rattle.demand.proofs.Priority.{never-above, not_higher}
use Rattle.demand.proofs.Membership.{verdict_alike}

-- what counts among fewer counts among more
only_more : (a b c : Bool) (x : ℕ) → (b ≡ true → c ≡ true) → only (a || b) x ≤ only (a || c) x
only_more true b c x h = omega arith
only_more false true c x h = rw (h refl) (omega arith)
only_more false false c x h = omega arith

and_more : (a b c : Bool) → (a ≡ true → b ≡ true) → (a && c) ≡ true → (b && c) ≡ true
and_more true b c h e = rw (h refl) e
and_more false b c h e = (let z : ◌≡◌ {A = ℕ} 0 1 = cc e in absurd (omega arith))

-- more members ask more of a window
module _ (o : Order) (before after : Members) (more : (k : ℕ) → k < o.tasks → before k ≡ true → after k ≡ true) where
  only_fewer : (b c : Bool) (x : ℕ) → (b ≡ true → c ≡ true) → only b x ≤ only c x
  only_fewer b c x h = only_more false b c x h

  pub blocking_more : (j : ℕ) → blocking o before j ≤ blocking o after j
  unfolding blocking lower
  blocking_more j =
      let f : ℕ → ℕ = λ k. only (after k && outranks o j k) (cost_of o k) in
      let le = largest_le (λ k. only (before k && outranks o j k) (cost_of o k)) o.tasks (largest f o.tasks)
      (λ k l. let a = only_fewer (before k && outranks o j k) (after k && outranks o j k) (cost_of o k) (and_more (before k) (after k) (outranks o j k) (more k l)) in omega (arith, largest_in f o.tasks k l)) in
      omega arith

  pub window_more : (j t : ℕ) → window_demand o before j t ≤ window_demand o after j t
  unfolding window_demand higher
  window_more j t =
      omega (
        arith,
        blocking_more j,
        sum_le (λ k. only (eqb k j || (before k && outranks o k j)) (work_in (task_of o k) t)) (λ k. only (eqb k j || (after k && outranks o k j)) (work_in (task_of o k) t)) o.tasks
            (λ k l. only_more (eqb k j) (before k && outranks o k j) (after k && outranks o k j) (work_in (task_of o k) t) (and_more (before k) (after k) (outranks o k j) (more k l))),
      )

-- the members before and after task i joined; the others are members where they were
module _ (o : Order) (before after : Members) (i j : ℕ) (others : (k : ℕ) → k < o.tasks → (k ≡ i → ⊥) → after k ≡ before k) (out : before i ≡ false) (above : outranks o j i ≡ true) where
  below_it : (member : Members) → higher o member j i ≡ false
  below_it member = not_higher o member j i (never-above o j i above)

  higher_kept : (k : ℕ) → k < o.tasks → higher o after j k ≡ higher o before j k
  unfolding higher
  higher_kept k l = elim (ℕ_discrete k i) [
    | yes e ↦ rw e (below_it after ∙ sym (below_it before))
    | no away ↦ rw (others k l away)
  ]

  -- what a lower member adds to the blocking
  abbrev adds : Members → ℕ → ℕ
  adds member k = only (lower o member j k) (cost_of o k)

  adds_kept : (k : ℕ) → k < o.tasks → (k ≡ i → ⊥) → adds after k ≡ adds before k
  unfolding lower
  adds_kept k l away = rw (others k l away)

  adds_out : adds before i ≡ 0
  unfolding lower
  adds_out = rw out

  no_less : largest (adds before) o.tasks ≤ largest (adds after) o.tasks
  no_less = largest_le (adds before) o.tasks (largest (adds after) o.tasks) (λ k l.
      elim (ℕ_discrete k i) [
        | yes e ↦ omega (arith, ap (adds before) e, adds_out)
        | no away ↦ omega (arith, adds_kept k l away, largest_in (adds after) o.tasks k l)
      ])

  module _ (short : cost_of o i ≤ blocking o before j + 1) where
    no_more : largest (adds after) o.tasks ≤ largest (adds before) o.tasks - 1 + 1
    unfolding blocking
    no_more = largest_le (adds after) o.tasks (largest (adds before) o.tasks - 1 + 1) (λ k l.
        elim (ℕ_discrete k i) [
          | yes e ↦ omega (arith, ap (adds after) e, only_le (lower o after j i) (cost_of o i), short)
          | no away ↦ omega (arith, adds_kept k l away, largest_in (adds before) o.tasks k l)
        ])

    blocking_kept : blocking o after j ≡ blocking o before j
    unfolding blocking
    blocking_kept = omega (arith, no_less, no_more)

    pub newcomer_below : verdict o after j ≡ verdict o before j
    newcomer_below = verdict_alike o after before j higher_kept blocking_kept
