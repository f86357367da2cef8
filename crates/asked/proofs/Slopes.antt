-- The line below the work that is asked: nothing is met before it.
use mathlib.Core.Path.{◌≡◌, refl, sym, ap, ◌∙◌}
use mathlib.Core.Bool.{Bool, true, false}
use Prim.Native.Nat.{ℕ, zero, suc, ◌+◌, ◌-◌, ◌*◌, ◌/◌, ◌≤◌, ◌<◌}
use native.Mathlib.Nat.{le-div_iff_mul-le, mul-le-mul_left, mul-le-mul_right, mul_comm, mul_assoc, mul-add, mul-zero, lt-div-mul-add, div-mul-le_self, add-mul, one-mul}
use native.Mathlib.Decide.{dec_le}
use native.Mathlib.Omega.{arith}
use lib.Dec.{leb, ltb}
use borrow.Author.Tests.{leb-false}
use Rattle.laws.specs.Choice.{pick}
use Rattle.laws.specs.Sums.{sum}
use Rattle.laws.proofs.Sums.{sum_none, sum_more, sum_le}
use Rattle.laws.proofs.Picked.{sum_most}
use Rattle.model.specs.declared.order.Task.{Task}
use Rattle.model.specs.Limits.{cost}
use Rattle.model.specs.Rules.{Sized}
use Rattle.demand.specs.Releases.{releases_by, work_by}
use Rattle.demand.proofs.Releases.{work_mono}
use Rattle.asked.specs.Rows.{row_task, share_at, whole, share_of, RowsFit, asked_by, period_at, cost_at}
use Rattle.asked.specs.declared.lines.Line.{Line}
use Rattle.asked.specs.Lines.{line_at, line_in, line_end}
use Rattle.asked.proofs.RowLaws.{asked_most}
use Rattle.asked.specs.declared.rows.Rows.{Rows}

-- the releases by s, times the period, come after s
covers : (task : Task) (s : ℕ) → 1 ≤ task.period → s + 1 ≤ releases_by task s * task.period
unfolding releases_by
covers task s pos = (let h = lt-div-mul-add {a = s} {b = task.period} pos in omega (arith, add-mul (s / task.period) 1 task.period, one-mul task.period))

-- a task asks its share of each tick
share_asks : (task : Task) (s : ℕ) → 1 ≤ task.period → (s + 1) * share_of task ≤ whole * work_by task s
unfolding share_of work_by
share_asks task s pos =
    let m = releases_by task s in
    let T = task.period in
    let C = cost task in
    let p = C * whole / T in
    let one : (s + 1) * p ≤ m * T * p = mul-le-mul_right p (covers task s pos) in
    let two : m * (p * T) ≤ m * (C * whole) = mul-le-mul_left m (div-mul-le_self (C * whole) T) in
    let e : m * T * p ≡ m * (p * T) = mul_assoc m T p ∙ ap (λ (x : ℕ). m * x) (mul_comm T p) in
    let f : m * (C * whole) ≡ whole * (m * C) = sym (mul_assoc m C whole) ∙ mul_comm (m * C) whole in
    omega arith

-- a share is no more than the whole
pub share_most : (task : Task) → Sized task → share_of task ≤ whole
unfolding share_of
share_most task s =
    let T = task.period in
    let le : cost task * whole ≤ T * whole = mul-le-mul_right whole (omega (arith, s.cost_most, s.deadline_most)) in
    let p = cost task * whole / T in
    elim (dec_le p whole) [
      | yes h ↦ h
      | no gt ↦ absurd (let a : suc whole * T ≤ p * T = mul-le-mul_right T (omega arith) in omega (arith, div-mul-le_self (cost task * whole) T, a, mul_comm T whole, add-mul whole 1 T, one-mul T, s.period_least))
    ]

module _ (rows : Rows) (rank w reach : ℕ) where
  row_rest : (line_at rows rank w reach).rest ≤ work_by (row_task rows rank) w
  unfolding work_by releases_by cost
  row_rest = go (leb (period_at rows rank) reach)
    where
      go : (b : Bool) → pick b 0 ((w / period_at rows rank + 1) * cost_at rows rank) ≤ (w / period_at rows rank + 1) * cost_at rows rank
      go true = omega arith
      go false = omega arith

  row_slope : (line_at rows rank w reach).slope ≤ share_at rows rank
  row_slope = go (leb (period_at rows rank) reach)
    where
      go : (b : Bool) → pick b (share_at rows rank) 0 ≤ share_at rows rank
      go true = omega arith
      go false = omega arith

  -- from then on it asks at least what rests, and of each tick its slope
  row_later : Sized (row_task rows rank) → share_at rows rank ≡ share_of (row_task rows rank) → (s : ℕ) → w ≤ s →
      (s + 1) * (line_at rows rank w reach).slope + whole * (line_at rows rank w reach).rest ≤ whole * work_by (row_task rows rank) s
  unfolding work_by releases_by cost
  row_later sized share s le = go (leb (period_at rows rank) reach)
    where
      go : (b : Bool) → (s + 1) * pick b (share_at rows rank) 0 + whole * pick b 0 ((w / period_at rows rank + 1) * cost_at rows rank) ≤ whole * work_by (row_task rows rank) s
      go true = omega (arith, share_asks (row_task rows rank) s sized.period_least, ap (λ (x : ℕ). (s + 1) * x) share)
      go false = omega (arith, mul-zero (s + 1), work_mono (row_task rows rank) sized.period_least le)

-- lines add up
lines_add : (t m : ℕ) (slope rest work : ℕ → ℕ) (n : ℕ) → ((r : ℕ) → r < n → t * slope r + m * rest r ≤ m * work r) → t * sum slope n + m * sum rest n ≤ m * sum work n
unfolding sum
lines_add t m slope rest work zero each = omega (arith, mul-zero t, mul-zero m)
lines_add t m slope rest work (suc n) each =
    omega (arith, lines_add t m slope rest work n (λ r l. each r (omega arith)), each n (omega arith), mul-add t (sum slope n) (slope n), mul-add m (sum rest n) (rest n), mul-add m (sum work n) (work n))

module _ (rows : Rows) (w reach : ℕ) where
  pub line_none : line_in rows 0 w reach ≡ record { rest = 0; slope = 0 }
  unfolding line_in
  line_none = rw (sum_none (λ r. (line_at rows r w reach).rest), sum_none (λ r. (line_at rows r w reach).slope))

  pub line_more : (count : ℕ) → line_in rows (count + 1) w reach ≡ record {
    rest = (line_in rows count w reach).rest + (line_at rows count w reach).rest;
    slope = (line_in rows count w reach).slope + (line_at rows count w reach).slope;
  }
  unfolding line_in
  line_more count = rw (sum_more (λ r. (line_at rows r w reach).rest) count, sum_more (λ r. (line_at rows r w reach).slope) count)

  pub line_rest : (count : ℕ) → (line_in rows count w reach).rest ≤ asked_by rows count w
  unfolding line_in asked_by
  line_rest count = sum_le _ _ count (λ r l. row_rest rows r w reach)

  pub line_slope : (count : ℕ) → RowsFit rows count → (line_in rows count w reach).slope ≤ count * whole
  unfolding line_in
  line_slope count fit =
      sum_most (λ r. (line_at rows r w reach).slope) whole count
      (λ r l. omega (arith, row_slope rows r w reach, share_most _ (fit.each r l), fit.shares r l))

  -- both are small numbers
  pub line_small : (count : ℕ) → RowsFit rows count → w ≤ 2_000_000 → ((line_in rows count w reach).rest ≤ 90_000_000_000_000) × ((line_in rows count w reach).slope ≤ 1_000_000_000_000)
  line_small count fit near =
      (omega (arith, asked_most rows count fit w near, fit.few, line_rest count), omega (arith, fit.few, line_slope count fit))

  -- with the numbers of one row more
  pub line_grown : (r rest slope : ℕ) (its : Line) → line_in rows r w reach ≡ record { rest = rest; slope = slope } → its ≡ line_at rows r w reach →
      line_in rows (r + 1) w reach ≡ record { rest = rest + its.rest; slope = slope + its.slope }
  line_grown r rest slope its before here = rw (line_more r, before, here) refl

  -- the line lies below what is asked later
  pub line_later : (count : ℕ) → RowsFit rows count → (s : ℕ) → w ≤ s →
      (s + 1) * (line_in rows count w reach).slope + whole * (line_in rows count w reach).rest ≤ whole * asked_by rows count s
  unfolding line_in asked_by
  line_later count fit s le =
      lines_add (s + 1) whole _ _ _ count (λ r l. row_later rows r w reach (fit.each r l) (fit.shares r l) s le)

-- nothing is met before the line
unmet_line : (rest slope t : ℕ) → t < line_end rest slope → t * whole < whole * rest + t * slope
unfolding line_end
unmet_line rest slope t l = go (leb whole slope) refl (ltb 2_000_000_000 rest) l
  where
    go : (b : Bool) → leb whole slope ≡ b → (c : Bool) → t < pick b rest (pick c rest (rest * whole / (whole - slope))) → t * whole < whole * rest + t * slope
    go true e c l = omega (arith, mul_comm t whole)
    go false e true l = omega (arith, mul_comm t whole)
    go false e false l =
        let d = whole - slope in
        let some : 1 ≤ d = omega (arith, leb-false whole slope e) in
        let m : (t + 1) * d ≤ rest * whole = (le-div_iff_mul-le {k = d} {x = t + 1} {y = rest * whole} some).0 (omega arith) in
        let same : d + slope ≡ whole = omega (arith, leb-false whole slope e) in
        omega (arith, add-mul t 1 d, one-mul d, mul-add t d slope, ap (λ (x : ℕ). t * x) same)

-- nothing from w on is met before the line
pub unmet_to_line : (rows : Rows) (count : ℕ) → RowsFit rows count → (base w reach s : ℕ) → w ≤ s →
    s + 1 < line_end (base + (line_in rows count w reach).rest) (line_in rows count w reach).slope → s + 1 < base + asked_by rows count s
unmet_to_line rows count fit base w reach s le l =
    omega (arith, unmet_line (base + (line_in rows count w reach).rest) (line_in rows count w reach).slope (s + 1) l, line_later rows w reach count fit s le)
