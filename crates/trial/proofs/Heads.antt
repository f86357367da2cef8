-- Where a member's search may begin: what a higher member's window leaves open.
use mathlib.Core.Path.{◌≡◌, ap, ◌∙◌}
use Prim.Native.Nat.{ℕ, suc, ◌+◌, ◌-◌, ◌*◌, ◌/◌, ◌≤◌, ◌<◌}
use native.Mathlib.Decide.{dec_lt, ℕ_discrete}
use native.Mathlib.Nat.{add-zero, add-mul, one-mul}
use native.Mathlib.Omega.{arith}
use Rattle.laws.specs.Sums.{sum, largest}
use Rattle.laws.proofs.Picked.{sum_most}
use Rattle.laws.proofs.Sums.{sum_none, sum_same, sum_in, sum_le, largest_in, largest_le}
use Rattle.laws.proofs.Inserted.{sum_split, sum_first}
use Rattle.model.specs.Limits.{cost}
use Rattle.demand.specs.Releases.{releases_by, work_by}
use Rattle.asked.specs.Rows.{cost_at, row_task, RowsFit, asked_by, blocking_in}
use Rattle.asked.specs.Met.{UnmetBelow}
use Rattle.asked.proofs.RowLaws.{cost_most, asked_more}
use Rattle.asked.specs.declared.rows.Rows.{Rows}

-- the costs of the members from a rank to before another
abbrev pub between : Rows → (g rank : ℕ) → ℕ
between rows g rank = sum (λ s. cost_at rows (g + s)) (rank - g)

module _ (rows : Rows) (count : ℕ) (fit : RowsFit rows count) where
  -- each asks its cost at once
  once : (r w : ℕ) → cost_at rows r ≤ work_by (row_task rows r) w
  unfolding work_by releases_by cost
  once r w = omega (arith, add-mul (w / (row_task rows r).period) 1 (cost_at rows r), one-mul (cost_at rows r))

  asks_between : (g rank w : ℕ) → g ≤ rank → asked_by rows g w + between rows g rank ≤ asked_by rows rank w
  unfolding asked_by
  asks_between g rank w le =
      let e : rank ≡ g + (rank - g) = omega arith in
      let split : sum (λ r. work_by (row_task rows r) w) rank ≡ sum (λ r. work_by (row_task rows r) w) g + sum (λ s. work_by (row_task rows (g + s)) w) (rank - g) =
      ap (sum (λ r. work_by (row_task rows r) w)) e ∙ sum_split (λ r. work_by (row_task rows r) w) g (rank - g) in
      omega (arith, split, sum_le (λ s. cost_at rows (g + s)) (λ s. work_by (row_task rows (g + s)) w) (rank - g) (λ s l. once (g + s) w))

  -- a longer blocking that the members between make up for
  made_up : (g rank : ℕ) → 0 < g → g ≤ rank → rank < count → cost_at rows rank ≤ blocking_in rows count rank + 2 + between rows g rank →
      blocking_in rows count (g - 1) ≤ blocking_in rows count rank + 1 + between rows g rank
  unfolding blocking_in
  made_up g rank some le inside own =
      let bound = largest (λ s. cost_at rows (rank + 1 + s)) (count - (rank + 1)) - 1 + 2 + between rows g rank in
      let each : (s : ℕ) → s < count - (g - 1 + 1) → cost_at rows (g - 1 + 1 + s) ≤ bound = λ s l. at (g - 1 + 1 + s) (omega arith) (omega arith) in
      omega (arith, largest_le (λ s. cost_at rows (g - 1 + 1 + s)) (count - (g - 1 + 1)) bound each)
    where
      at : (x : ℕ) → g ≤ x → x < count → cost_at rows x ≤ largest (λ s. cost_at rows (rank + 1 + s)) (count - (rank + 1)) - 1 + 2 + between rows g rank
      at x from upto = elim (dec_lt x rank) [
        | yes before ↦ (let e : g + (x - g) ≡ x = omega arith in
            omega (arith, ap (cost_at rows) e, sum_in (λ s. cost_at rows (g + s)) (rank - g) (x - g) (omega arith)))
        | no later ↦ elim (ℕ_discrete x rank) [
          | yes same ↦ omega (arith, ap (cost_at rows) same, own)
          | no other ↦ (let e : rank + 1 + (x - (rank + 1)) ≡ x = omega (arith, other) in
              omega (arith, ap (cost_at rows) e, largest_in (λ s. cost_at rows (rank + 1 + s)) (count - (rank + 1)) (x - (rank + 1)) (omega (arith, other))))
        ]
      ]

  -- what a window leaves open is open to a start
  pub head : (g rank last : ℕ) → 0 < g → g ≤ rank → rank < count → cost_at rows rank ≤ blocking_in rows count rank + 2 + between rows g rank →
      UnmetBelow (asked_by rows g) (blocking_in rows count (g - 1)) last → UnmetBelow (asked_by rows rank) (blocking_in rows count rank + 1) last
  head g rank last some le inside own unmet s l = omega (arith, unmet s l, made_up g rank some le inside own, asks_between g rank s le)

  -- a member's window closes no earlier than that of the one above it: it asks at least what it blocks that one with
  blocks_more : (rank : ℕ) → 0 < rank → rank < count → blocking_in rows count (rank - 1) ≤ blocking_in rows count rank + cost_at rows rank
  unfolding blocking_in
  blocks_more rank some inside =
      let later = largest (λ s. cost_at rows (rank + 1 + s)) (count - (rank + 1)) in
      let each : (s : ℕ) → s < count - (rank - 1 + 1) → cost_at rows (rank - 1 + 1 + s) ≤ later - 1 + 1 + cost_at rows rank = λ s l. elim (ℕ_discrete s 0) [
        | yes own ↦ (let e : rank - 1 + 1 + s ≡ rank = omega (arith, own, some) in omega (arith, ap (cost_at rows) e))
        | no other ↦ (let e : rank + 1 + (s - 1) ≡ rank - 1 + 1 + s = omega (arith, other, some) in
            omega (arith, ap (cost_at rows) e, largest_in (λ x. cost_at rows (rank + 1 + x)) (count - (rank + 1)) (s - 1) (omega (arith, other, some, l))))
      ] in
      omega (arith, largest_le (λ s. cost_at rows (rank - 1 + 1 + s)) (count - (rank - 1 + 1)) (later - 1 + 1 + cost_at rows rank) each)

  pub taken_over : (rank last : ℕ) → 0 < rank → rank < count → UnmetBelow (asked_by rows rank) (blocking_in rows count (rank - 1)) last → UnmetBelow (asked_by rows (rank + 1)) (blocking_in rows count rank) last
  taken_over rank last some inside unmet s l = omega (arith, unmet s l, blocks_more rank some inside, asked_more rows rank s, once rank s)

-- one member more between
pub between_none : (rows : Rows) (rank : ℕ) → between rows rank rank ≡ 0
between_none rows rank = ap (sum (λ s. cost_at rows (rank + s))) (omega arith) ∙ sum_none (λ s. cost_at rows (rank + s))

pub between_more : (rows : Rows) (g rank : ℕ) → 0 < g → g ≤ rank → between rows (g - 1) rank ≡ cost_at rows (g - 1) + between rows g rank
between_more rows g rank some le =
    let e : rank - (g - 1) ≡ suc (rank - g) = omega arith in
    ap (sum (λ s. cost_at rows (g - 1 + s))) e ∙ sum_first (λ s. cost_at rows (g - 1 + s)) (rank - g)
    ∙ omega (arith, ap (cost_at rows) (add-zero (g - 1)), sum_same (λ s. cost_at rows (g - 1 + suc s)) (λ s. cost_at rows (g + s)) (rank - g) (λ s l. ap (cost_at rows) (omega arith)))

pub each_cost : (rows : Rows) (count : ℕ) → RowsFit rows count → (r : ℕ) → r < count → cost_at rows r ≤ 1_000_000
unfolding cost
each_cost rows count fit r l = cost_most rows count fit r l

pub some_cost : (rows : Rows) (count : ℕ) → RowsFit rows count → (r : ℕ) → r < count → 0 < cost_at rows r
unfolding cost
some_cost rows count fit r l = omega (arith, (fit.each r l).cost-least)

pub between_most : (rows : Rows) (count : ℕ) → RowsFit rows count → (g rank : ℕ) → rank ≤ count → between rows g rank ≤ (rank - g) * 1_000_000
unfolding cost
between_most rows count fit g rank le = sum_most (λ s. cost_at rows (g + s)) 1_000_000 (rank - g) (λ s l. cost_most rows count fit (g + s) (omega arith))

pub blocking_in_most : (rows : Rows) (count : ℕ) → RowsFit rows count → (rank : ℕ) → blocking_in rows count rank ≤ 1_000_000
unfolding blocking_in cost
blocking_in_most rows count fit rank =
    omega (arith, largest_le (λ s. cost_at rows (rank + 1 + s)) (count - (rank + 1)) 1_000_000 (λ s l. cost_most rows count fit (rank + 1 + s) (omega arith)))
