-- How a placing stands after so many turns. Inner definitions; Steps.antt has the document's.
use Rattle.std.specs.Prelude.{◌≡◌, true, false, List, ℕ, ◌+◌, ◌≤◌, ◌<◌, length, get_or}
use Rattle.laws.specs.Sums.{only, sum}
use Rattle.model.specs.Limits.{most_tasks, most_partitions, zero_partition}
use Rattle.demand.specs.Test.{verdict, does_pass}
use Rattle.turns.specs.Turns.{Homes, width_of, home_at, is_unplaced}
use Rattle.fitting.specs.Kinds.{Order, Partition, Placing}
use Rattle.fitting.specs.Steps.{living_in}
use Rattle.fitting.specs.Claims.{opened as opened_at, volume_at}

-- how many of n tasks wait
unfoldable pub waiting : Homes → ℕ → ℕ
waiting homes n = sum (λ j. only (is_unplaced homes j) 1) n

-- the partition numbers of n tasks, of which so many wait
pub record Numbered (o : Order) (homes : Homes) (opened placed : ℕ) : Type 0 where
  pub places : length homes ≡ most_tasks
  pub count : waiting homes o.tasks + placed ≡ o.tasks
  pub few : opened ≤ placed
  pub in_one : (j : ℕ) → j < o.tasks → is_unplaced homes j ≡ false → home_at homes j < opened
  pub passes : (j : ℕ) → j < o.tasks → is_unplaced homes j ≡ false → does_pass (verdict o (living_in homes (home_at homes j)) j) ≡ true

-- the opened partitions, on the lowest processors
pub record Laid (M : ℕ) (places : List Partition) (opened used : ℕ) : Type 0 where
  pub long : length places ≡ most_partitions
  pub volume_least : (k : ℕ) → k < opened → 1 ≤ volume_at places k
  pub lowest : (k : ℕ) → k < opened → (opened_at places k).first ≡ sum (volume_at places) k
  pub used_by : used ≡ sum (volume_at places) opened
  pub inside : used ≤ M
  pub zero_past : (k : ℕ) → opened ≤ k → get_or places k zero_partition ≡ zero_partition

-- each partition is wide enough for those in it, and for those that wait
pub record Wide (o : Order) (homes : Homes) (places : List Partition) (opened : ℕ) : Type 0 where
  pub for_members : (j : ℕ) → j < o.tasks → is_unplaced homes j ≡ false → width_of o j ≤ volume_at places (home_at homes j)
  pub for_others : (j : ℕ) → j < o.tasks → is_unplaced homes j ≡ true → (k : ℕ) → k < opened → width_of o j ≤ volume_at places k

pub record Stands (o : Order) (placed : ℕ) (s : Placing) : Type 0 where
  pub numbered : Numbered o s.homes s.opened placed
  pub laid : Laid o.processors s.places s.opened s.used
  pub wide : Wide o s.homes s.places s.opened
