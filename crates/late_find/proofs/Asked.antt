-- The rows of the higher members ask what the test asks of them.
use mathlib.Core.Path.{◌≡◌, sym, ap, ◌∙◌}
use mathlib.Core.Bool.{Bool}
use mathlib.Core.List.{List}
use Prim.Native.Nat.{ℕ, ◌<◌}
use native.Mathlib.Omega.{arith}
use lib.ListN.{get_or}
use Rattle.laws.specs.Sums.{only}
use Rattle.laws.proofs.Sums.{sum_same}
use Rattle.model.specs.declared.order.Order.{Order}
use Rattle.model.specs.declared.build.Build.{Build}
use Rattle.model.specs.Limits.{task_of}
use Rattle.model.specs.Rules.{WithinLimits}
use Rattle.demand.specs.Releases.{work_by}
use Rattle.demand.specs.Test.{higher_work}
use Rattle.demand.proofs.Demands.{sized_of}
use Rattle.asked.specs.Rows.{row_at, row_task, RowsFit, asked_by}
use Rattle.roster.specs.Keys.{number_at}
use Rattle.roster.specs.Rows.{RowOf, RowsByNumber, RowsInLine}
use Rattle.roster.proofs.Rowing.{row_alike}
use Rattle.roster.proofs.Tied.{row_work, row_share, row_sized}
use Rattle.late_find.specs.Found.{KeysByNumber, HigherNumbers, besides}
use Rattle.late_find.proofs.Above.{above-higher}
use Rattle.asked.specs.declared.rows.Rows.{Rows}

module _ (o : Order) (b : Build) (limits : WithinLimits o) (i : ℕ) (mine : i < o.tasks) (keys : List ℕ) (table : Rows) (numbers : List ℕ) (rows : Rows) (count : ℕ)
    (keyed : KeysByNumber o b o.tasks keys) (by_number : RowsByNumber o o.tasks table) (are : HigherNumbers keys o.tasks i numbers count) (filled : RowsInLine table numbers count rows) where
  -- a number below 32 is its own
  own_number : (r : ℕ) → r < count → number_at numbers r ≡ get_or numbers r 0
  own_number r l = omega (arith, are.within r l, limits.tasks.1)

  row_of : (r : ℕ) → r < count → RowOf rows r (task_of o (get_or numbers r 0))
  row_of r l =
      row_alike table rows (get_or numbers r 0) r (task_of o (get_or numbers r 0))
      (filled.each r l ∙ ap (row_at table) (own_number r l))
      (by_number.each (get_or numbers r 0) (are.within r l))

  pub higher_fit : RowsFit rows count
  higher_fit =
      record {
        few = omega (arith, are.few, limits.tasks.1);
        each = λ r l. row_sized rows r (task_of o (get_or numbers r 0)) (row_of r l) (sized_of o limits (get_or numbers r 0) (are.within r l));
        shares = λ r l. (row_of r l).share ∙ sym (row_share rows r (task_of o (get_or numbers r 0)) (row_of r l));
      }

  pub higher_asked : (w : ℕ) → asked_by rows count w ≡ higher_work o (besides b i) i w
  unfolding asked_by higher_work
  higher_asked w =
      sum_same (λ r. work_by (row_task rows r) w) (λ r. work_by (task_of o (get_or numbers r 0)) w) count (λ r l. row_work rows r (task_of o (get_or numbers r 0)) (row_of r l) w)
      ∙ are.sums (λ j. work_by (task_of o j) w)
      ∙ sum_same _ _ o.tasks (λ j l. ap (λ (test : Bool). only test (work_by (task_of o j) w)) (above-higher o b limits keys keyed j i l mine))
