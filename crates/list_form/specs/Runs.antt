-- "rising, touching numbers joined": the runs of a set, as items.
use Rattle.std.specs.Prelude.{ℕ, zero, suc, ◌+◌, ◌≤◌, ◌≡◌, Bool, true, false, List, [], ◌∷◌, ◌⊎◌}
use Rattle.laws.specs.Choice.{pick}
use Rattle.model.specs.Limits.{most_processors}
use Rattle.sets.specs.Sets.{has}
use Rattle.list_form.specs.Items.{Item, most_listed}

-- a run begins at k: it is in the set, and the one below it is not
unfoldable pub begins_run : (set k : ℕ) → Bool
begins_run set zero = has set 0
begins_run set (suc k) = pick (has set (suc k)) (pick (has set k) false true) false

-- the last processor of the run that k is in, where it is among the next so many
unfoldable pub run_end : (set k more : ℕ) → ℕ
run_end set k zero = k
run_end set k (suc more) = pick (has set (suc k)) (run_end set (suc k) more) k

-- the runs that begin from k on, among the next so many processors
unfoldable pub runs_from : (set k more : ℕ) → List Item
runs_from set k zero = []
runs_from set k (suc more) = pick (begins_run set k) (record { first = k; last = run_end set k most_listed } ∷ runs_from set (suc k) more) (runs_from set (suc k) more)

-- the runs of a set
unfoldable pub runs_of : ℕ → List Item
runs_of set = runs_from set 0 most_processors

-- a run that is as long as it can be: all of it is in the set, and neither the one below it nor the one above it
pub record IsRun (set : ℕ) (item : Item) : Type 0 where
  pub rises : item.first ≤ item.last
  pub processors : (k : ℕ) → item.first ≤ k → k ≤ item.last → has set k ≡ true
  pub none_below : (k : ℕ) → item.first ≡ suc k → has set k ≡ false
  pub none_above : has set (suc item.last) ≡ false

unfoldable pub AllRuns : (set : ℕ) → List Item → Type 0
AllRuns set [] = Unit
AllRuns set (item ∷ items) = IsRun set item × AllRuns set items

-- "rising": each begins above the one before it ends, with a gap between them
unfoldable pub Rising : (least : ℕ) → List Item → Type 0
Rising least [] = Unit
Rising least (item ∷ items) = (least ≤ item.first) × Rising (item.last + 2) items

-- some item has the processor
unfoldable pub Listed : List Item → ℕ → Type 0
Listed [] k = ⊥
Listed (item ∷ items) k = ((item.first ≤ k) × (k ≤ item.last)) ⊎ Listed items k
