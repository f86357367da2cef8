-- One row written over: its own numbers, and all others as they were; and rows with the same numbers.
use Rattle.std.proofs.Common.{◌≡◌, ◌≢◌, ℕ, ◌<◌, refl, ap, ◌∙◌, arith}
use Rattle.std.proofs.Math.ListN.{length-set}
use Rattle.std.proofs.Math.Seq.{get_or-set_same, get_or-set_other}
use Rattle.model.specs.declared.order.Task.{Task}
use Rattle.model.specs.Limits.{most_tasks, cost}
use Rattle.asked.specs.declared.rows.Row.{Row}
use Rattle.asked.specs.declared.rows.Rows.{Rows}
use Rattle.asked.specs.Rows.{row_at, row_put, no_rows, share_of}
use Rattle.roster.specs.Rows.{RowPlaces, RowOf}

module _ (rows : Rows) (r : ℕ) (row : Row) (places : RowPlaces rows) where
  pub put_places : RowPlaces (row_put rows r row)
  put_places =
      record {
        periods = length-set rows.periods r row.period ∙ places.periods;
        costs = length-set rows.costs r row.cost ∙ places.costs;
        shares = length-set rows.shares r row.share ∙ places.shares;
        deadlines = length-set rows.deadlines r row.deadline ∙ places.deadlines;
      }

  -- its own
  pub put_own : r < most_tasks → row_at (row_put rows r row) r ≡ row
  put_own few =
      rw (
        get_or-set_same rows.periods r row.period 0 (omega (arith, places.periods)),
        get_or-set_same rows.costs r row.cost 0 (omega (arith, places.costs)),
        get_or-set_same rows.shares r row.share 0 (omega (arith, places.shares)),
        get_or-set_same rows.deadlines r row.deadline 0 (omega (arith, places.deadlines)),
      ) refl

  -- all others
  pub put_other : (i : ℕ) → i ≢ r → row_at (row_put rows r row) i ≡ row_at rows i
  put_other i other =
      rw (
        get_or-set_other rows.periods r i row.period 0 other,
        get_or-set_other rows.costs r i row.cost 0 other,
        get_or-set_other rows.shares r i row.share 0 other,
        get_or-set_other rows.deadlines r i row.deadline 0 other,
      ) refl

-- a row of other rows with the same numbers
pub row_alike : (rows others : Rows) (i j : ℕ) (task : Task) → row_at others j ≡ row_at rows i → RowOf rows i task → RowOf others j task
row_alike rows others i j task same is =
    record {
      period = ap (λ (x : Row). x.period) same ∙ is.period;
      cost_is = ap (λ (x : Row). x.cost) same ∙ is.cost_is;
      share = ap (λ (x : Row). x.share) same ∙ is.share;
      deadline = ap (λ (x : Row). x.deadline) same ∙ is.deadline;
    }

-- a row with a task's numbers
pub row_is : (rows : Rows) (i : ℕ) (row : Row) (task : Task) → row_at rows i ≡ row → row.period ≡ task.period → row.cost ≡ cost task → row.share ≡ share_of task → row.deadline ≡ task.deadline → RowOf rows i task
row_is rows i row task its period price share deadline =
    record {
      period = ap (λ (x : Row). x.period) its ∙ period;
      cost_is = ap (λ (x : Row). x.cost) its ∙ price;
      share = ap (λ (x : Row). x.share) its ∙ share;
      deadline = ap (λ (x : Row). x.deadline) its ∙ deadline;
    }

-- all rows zero
pub zero_places : RowPlaces no_rows
zero_places = record { periods = refl; costs = refl; shares = refl; deadlines = refl }
