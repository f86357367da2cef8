-- Laws of the counts of releases, of their work, and of the jobs of a window.
use mathlib.Core.Path.{◌≡◌, ap, ◌∙◌}
use mathlib.Core.Logic.{◌↔◌}
use Prim.Native.Nat.{ℕ, suc, ◌+◌, ◌-◌, ◌*◌, ◌/◌, ◌≤◌, ◌<◌}
use native.Mathlib.Nat.{le-div_iff_mul-le, div-lt_iff_lt-mul, add-div_right, div-le_self, suc-mul, mul-le-mul, mul-le-mul_right}
use native.Mathlib.Omega.{arith}
use Rattle.laws.proofs.Division.{div_mono}
use Rattle.model.specs.declared.order.Task.{Task}
use Rattle.model.specs.Limits.{cost}
use Rattle.demand.specs.Releases.{ceil_div, releases_in, releases_by, work_in, work_by, jobs}

-- ceil(t/T) is floor((t-1)/T) + 1
ceil_floor : (t T : ℕ) → 1 ≤ t → 1 ≤ T → ceil_div t T ≡ (t - 1) / T + 1
unfolding ceil_div
ceil_floor t T a b = ap (λ (x : ℕ). x / T) e ∙ add-div_right (t - 1) b
  where
    e : t + (T - 1) ≡ t - 1 + T
    e = omega arith

-- at most one a tick
by_le : (task : Task) (w : ℕ) → releases_by task w ≤ w + 1
unfolding releases_by
by_le task w = omega (arith, div-le_self w task.period)

-- the work of a task's releases by w, where w and the cost are small
pub work_most : (task : Task) (w : ℕ) → w ≤ 2_000_000 → cost task ≤ 1_000_000 → work_by task w ≤ 2_000_001_000_000
unfolding work_by
work_most task w h k = (let a : releases_by task w ≤ 2_000_001 = omega (arith, by_le task w) in mul-le-mul a k)

module _ (task : Task) (pos : 1 ≤ task.period) where
  -- what is released within t ticks is released by the last of them
  in_by : (t : ℕ) → 1 ≤ t → releases_in task t ≡ releases_by task (t - 1)
  unfolding releases_in releases_by
  in_by t a = ceil_floor t task.period a pos

  pub work_in_by : (t : ℕ) → 1 ≤ t → work_in task t ≡ work_by task (t - 1)
  unfolding work_in work_by
  work_in_by t a = ap (λ (x : ℕ). x * cost task) (in_by t a)

  -- "releases_in (w + 1) = releases_by w"
  pub in_next : (w : ℕ) → releases_in task (w + 1) ≡ releases_by task w
  in_next w = in_by (w + 1) (omega arith) ∙ ap (releases_by task) (omega arith)

  by_mono : {a b : ℕ} → a ≤ b → releases_by task a ≤ releases_by task b
  unfolding releases_by
  by_mono h = omega (arith, div_mono task.period pos h)

  pub work_mono : {a b : ℕ} → a ≤ b → work_by task a ≤ work_by task b
  unfolding work_by
  work_mono h = mul-le-mul_right (cost task) (by_mono h)

  -- q + 1 releases that are T apart end no earlier than q·T
  pub by_spaced : (w q : ℕ) → q * task.period ≤ w → q + 1 ≤ releases_by task w
  unfolding releases_by
  by_spaced w q h = omega (arith, (le-div_iff_mul-le {k = task.period} {x = q} {y = w} pos).1 h)

  pub work_spaced : (w q : ℕ) → q * task.period ≤ w → (q + 1) * cost task ≤ work_by task w
  unfolding work_by
  work_spaced w q h = mul-le-mul_right (cost task) (by_spaced w q h)

  -- release q comes at q·T at the earliest
  by_few : (w q : ℕ) → w < q * task.period → releases_by task w ≤ q
  unfolding releases_by
  by_few w q h = omega (arith, (div-lt_iff_lt-mul {k = task.period} {x = w} {y = q} pos).1 h)

  pub work_few : (w q : ℕ) → w < q * task.period → work_by task w ≤ q * cost task
  unfolding work_by
  work_few w q h = mul-le-mul_right (cost task) (by_few w q h)

  -- "q = 0, 1, .. with q·T < L" are just the q below `jobs`
  pub jobs_are : (q L : ℕ) → (q * task.period < L) ↔ (q < jobs task L)
  unfolding jobs ceil_div
  jobs_are q L = (to, from)
    where
      to : q * task.period < L → q < (L + (task.period - 1)) / task.period
      to h = (le-div_iff_mul-le {k = task.period} {x = suc q} {y = L + (task.period - 1)} pos).1 (omega (arith, suc-mul q task.period))

      from : q < (L + (task.period - 1)) / task.period → q * task.period < L
      from h = let m = (le-div_iff_mul-le {k = task.period} {x = suc q} {y = L + (task.period - 1)} pos).0 h in omega (arith, suc-mul q task.period)
