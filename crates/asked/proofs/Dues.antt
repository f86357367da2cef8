-- When members are released next, and what they ask until then.
use mathlib.Core.Path.{◌≡◌, refl, sym, ap, ◌∙◌}
use mathlib.Core.List.{List}
use Prim.Native.Nat.{ℕ, ◌+◌, ◌*◌, ◌/◌, ◌≤◌, ◌<◌}
use native.Mathlib.Nat.{add-mul, one-mul, lt-div-mul-add, div-mul-le_self, div-eq_of_lt-le}
use native.Mathlib.Decide.{dec_lt}
use native.Mathlib.Omega.{arith}
use lib.Dec.{leb}
use lib.ListN.{get_or}
use borrow.Author.Tests.{le-leb, lt-leb}
use Rattle.laws.specs.Sums.{only, sum, least}
use Rattle.laws.proofs.Sums.{sum_same, sum_add, least_in}
use Rattle.model.specs.Limits.{cost}
use Rattle.demand.specs.Releases.{releases_by, work_by}
use Rattle.asked.specs.Rows.{cost_at, row_task, RowsFit, asked_by, period_at}
use Rattle.asked.specs.Steps.{far, due_after, onward}
use Rattle.asked.proofs.RowLaws.{asked_more}
use Rattle.asked.specs.declared.rows.Rows.{Rows}

-- between two releases their count stays
same_count : (T w s : ℕ) → 1 ≤ T → w ≤ s → s < (w / T + 1) * T → s / T ≡ w / T
same_count T w s pos le l =
    div-eq_of_lt-le {k = w / T} T {m = s} (omega (arith, div-mul-le_self w T)) l

next_count : (T w s : ℕ) → 1 ≤ T → (w / T + 1) * T ≤ s → s < (w / T + 1) * T + T → s / T ≡ w / T + 1
next_count T w s pos le l = div-eq_of_lt-le {k = w / T + 1} T {m = s} le (omega (arith, add-mul (w / T + 1) 1 T, one-mul T))

-- what is asked, with the releases of a row more by its cost
pub asked_with : (rows : Rows) (r w all releases k price : ℕ) → all ≡ asked_by rows r w → releases ≡ w / period_at rows r + 1 → k ≡ releases → price ≡ cost_at rows r → all + k * price ≡ asked_by rows (r + 1) w
unfolding work_by releases_by cost
asked_with rows r w all releases k price before some same its = rw (before, same, some, its) (sym (asked_more rows r w))

module _ (rows : Rows) (count : ℕ) (fit : RowsFit rows count) where
  period_least : (r : ℕ) → r < count → 1 ≤ period_at rows r
  period_least r l = (fit.each r l).period_least

  -- a next release comes later, but not far later
  pub due_later : (w r : ℕ) → r < count → w < due_after rows w r
  due_later w r l = (let h = lt-div-mul-add {a = w} {b = period_at rows r} (period_least r l) in omega (arith, add-mul (w / period_at rows r) 1 (period_at rows r), one-mul (period_at rows r)))

  pub due_near : (w r : ℕ) → r < count → due_after rows w r ≤ w + 1_000_000
  due_near w r l = omega (arith, div-mul-le_self w (period_at rows r), add-mul (w / period_at rows r) 1 (period_at rows r), one-mul (period_at rows r), (fit.each r l).period_most)

  -- nothing more is asked before the next release
  pub asked_still : (w s : ℕ) → w ≤ s → s < least far (due_after rows w) count → asked_by rows count s ≡ asked_by rows count w
  unfolding asked_by work_by releases_by
  asked_still w s le l =
      sum_same _ _ count
      (λ r k. ap (λ (x : ℕ). (x + 1) * cost (row_task rows r)) (same_count (period_at rows r) w s (period_least r k) le (omega (arith, least_in far (due_after rows w) count r k))))

  -- from an earlier tick on, where one release of each is enough
  module _ (due : List ℕ) (earlier w : ℕ) (before : earlier ≤ w) (dues : (r : ℕ) → r < count → get_or due r 0 ≡ due_after rows earlier r)
      (enough : w < least far (onward rows due w) count) where
    -- whether the release has come by w or not, the count is right
    step_right : (r : ℕ) → r < count → (w / period_at rows r ≡ earlier / period_at rows r + only (leb (get_or due r 0) w) 1)
    step_right r l =
        let T = period_at rows r in
        let d = get_or due r 0 in
        let past : w < onward rows due w r = omega (arith, enough, least_in far (onward rows due w) count r l) in
        elim (dec_lt w d) [
          | yes not_yet ↦ (let e : only (leb d w) 1 ≡ 0 = rw (lt-leb d w not_yet) refl in
              omega (arith, e, same_count T earlier w (period_least r l) before (omega (arith, dues r l))))
          | no come ↦ (let e : only (leb d w) 1 ≡ 1 = rw (le-leb d w (omega arith)) refl in
              let one : only (leb d w) 1 * T ≡ T = rw e (one-mul T) in
              omega (arith, e, next_count T earlier w (period_least r l) (omega (arith, dues r l)) (omega (arith, dues r l, past, one))))
        ]

    pub onward_right : (r : ℕ) → r < count → onward rows due w r ≡ due_after rows w r
    onward_right r l =
        let T = period_at rows r in
        let x = only (leb (get_or due r 0) w) 1 in
        let e : (w / T + 1) * T ≡ (earlier / T + x + 1) * T = ap (λ (k : ℕ). (k + 1) * T) (step_right r l) in
        omega (arith, dues r l, e, add-mul (earlier / T + x) 1 T, add-mul (earlier / T) x T, add-mul (earlier / T) 1 T)

    pub asked_onward : asked_by rows count w ≡ asked_by rows count earlier + sum (λ r. only (leb (get_or due r 0) w) 1 * cost_at rows r) count
    unfolding asked_by work_by releases_by cost
    asked_onward =
        sum_same _ (λ r. (earlier / period_at rows r + 1) * cost_at rows r + only (leb (get_or due r 0) w) 1 * cost_at rows r) count
        (λ r l. (let T = period_at rows r in
        let x = only (leb (get_or due r 0) w) 1 in
        let e : (w / T + 1) * cost_at rows r ≡ (earlier / T + x + 1) * cost_at rows r = ap (λ (k : ℕ). (k + 1) * cost_at rows r) (step_right r l) in
        omega (arith, e, add-mul (earlier / T + x) 1 (cost_at rows r), add-mul (earlier / T) x (cost_at rows r), add-mul (earlier / T) 1 (cost_at rows r))))
        ∙ sum_add (λ r. (earlier / period_at rows r + 1) * cost_at rows r) (λ r. only (leb (get_or due r 0) w) 1 * cost_at rows r) count
