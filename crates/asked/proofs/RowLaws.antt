-- Laws of what rows ask: row by row, its growth, and its bounds.
use mathlib.Core.Path.{◌≡◌}
use Prim.Native.Nat.{ℕ, ◌+◌, ◌*◌, ◌≤◌, ◌<◌}
use native.Mathlib.Omega.{arith}
use Rattle.laws.proofs.Sums.{sum_none, sum_more, sum_le}
use Rattle.laws.proofs.Picked.{sum_most}
use Rattle.model.specs.Limits.{cost}
use Rattle.demand.specs.Releases.{work_by}
use Rattle.demand.proofs.Releases.{work_mono, work_most}
use Rattle.demand.proofs.Over.{Grows}
use Rattle.asked.specs.Rows.{row_task, RowsFit, asked_by}
use Rattle.asked.specs.declared.rows.Rows.{Rows}

-- fewer of the rows fit too
pub fit_fewer : (rows : Rows) (count fewer : ℕ) → fewer ≤ count → RowsFit rows count → RowsFit rows fewer
fit_fewer rows count fewer le f =
    record { few = omega (arith, f.few); each = λ r l. f.each r (omega arith); shares = λ r l. f.shares r (omega arith) }

module _ (rows : Rows) where
  pub asked_none : (w : ℕ) → asked_by rows 0 w ≡ 0
  unfolding asked_by
  asked_none w = sum_none _

  pub asked_more : (count w : ℕ) → asked_by rows (count + 1) w ≡ asked_by rows count w + work_by (row_task rows count) w
  unfolding asked_by
  asked_more count w = sum_more _ count

  module _ (count : ℕ) (fit : RowsFit rows count) where
    pub asked_grows : Grows (asked_by rows count)
    unfolding asked_by
    asked_grows a b h = sum_le _ _ count (λ r l. work_mono (row_task rows r) (fit.each r l).period_least h)

    pub cost_most : (r : ℕ) → r < count → cost (row_task rows r) ≤ 1_000_000
    cost_most r l = let s = fit.each r l in omega (arith, s.cost_most, s.deadline_most, s.period_most)

    pub asked_most : (w : ℕ) → w ≤ 2_000_000 → asked_by rows count w ≤ count * 2_000_001_000_000
    unfolding asked_by
    asked_most w h = sum_most (λ r. work_by (row_task rows r) w) 2_000_001_000_000 count (λ r l. work_most (row_task rows r) w h (cost_most r l))
