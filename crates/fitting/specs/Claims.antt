-- What first fit's placing and refusal say, in the document's words: claims, proved in proofs/Claims.antt.
use Rattle.std.specs.Prelude.{Some, ◌≡◌, true, false, List, ◌↔◌, ◌⊎◌, ℕ, ◌+◌, ◌≤◌, ◌<◌, get_or, set, Ok}
use Rattle.laws.specs.Sums.{sum}
use Rattle.model.specs.Limits.{zero_partition}
use Rattle.model.specs.Processors.{volume_of}
use Rattle.model.specs.Rules.{WithinLimits}
use Rattle.demand.specs.Test.{verdict}
use Rattle.turns.specs.Turns.{Homes, width_of, home_at}
use Rattle.turns.specs.Claims.{IsNext}
use Rattle.fitting.specs.Kinds.{Order, Partition, Placing}
use Rattle.fitting.specs.Steps.{nothing_placed, going_on, refusing, living_in, accepts, turns_taken, first_fit}

-- "it and all members there pass"
abbrev pub AcceptsMeans : Type 0
AcceptsMeans =
    (o : Order) (homes : Homes) (i k : ℕ) →
    (accepts o homes i k ≡ true)
    ↔ ((j : ℕ) → j < o.tasks → living_in (set homes i (Some k)) k j ≡ true → (worst : ℕ) × (verdict o (living_in (set homes i (Some k)) k) j ≡ Ok worst))

-- opened partition k, its volume and its first processor
abbrev pub opened : List Partition → ℕ → Partition
opened places k = get_or places k zero_partition

abbrev pub volume_at : List Partition → ℕ → ℕ
volume_at places k = volume_of (opened places k)

-- the order's tasks in so many partitions: each in one that is wide enough, all pass, and no processor is shared
pub record Placed (o : Order) (homes : Homes) (places : List Partition) (count : ℕ) : Type 0 where
  pub some : 1 ≤ count
  pub few : count ≤ o.tasks
  pub in_one : (i : ℕ) → i < o.tasks → home_at homes i < count
  pub passes : (i : ℕ) → i < o.tasks → (worst : ℕ) × (verdict o (living_in homes (home_at homes i)) i ≡ Ok worst)
  pub wide : (i : ℕ) → i < o.tasks → width_of o i ≤ volume_at places (home_at homes i)
  pub volume_least : (k : ℕ) → k < count → 1 ≤ volume_at places k
  pub lowest : (k : ℕ) → k < count → (opened places k).first ≡ sum (volume_at places) k
  pub apart : (j k : ℕ) → j < k → k < count → (opened places j).first + volume_at places j ≤ (opened places k).first
  pub inside : (k : ℕ) → k < count → (opened places k).first + volume_at places k ≤ o.processors
  pub zero_past : (k : ℕ) → count ≤ k → opened places k ≡ zero_partition

-- what a fit says: every task is placed
abbrev pub FirstFitPlaces : Type 0
FirstFitPlaces = (o : Order) (s : Placing) → WithinLimits o → first_fit o ≡ going_on s → Placed o s.homes s.places s.opened

-- task i's turn comes in placing s, no open partition takes it, and fewer than its m processors are left
pub record RefusedIn (o : Order) (s : Placing) (i : ℕ) : Type 0 where
  pub reached : (k : ℕ) × (k < o.tasks) × (turns_taken o k nothing_placed ≡ going_on s)
  pub next : IsNext o s.homes o.tasks i
  pub not_taken : (k : ℕ) → k < s.opened → accepts o s.homes i k ≡ false
  pub used_by : s.used ≡ sum (volume_at s.places) s.opened
  pub too_few : o.processors < s.used + width_of o i

-- "Else refuse, naming that task.": just then
abbrev pub FirstFitRefuses : Type 0
FirstFitRefuses = (o : Order) (s : Placing) (i : ℕ) → WithinLimits o → (first_fit o ≡ refusing s i) ↔ RefusedIn o s i

-- it fits or a task is refused: there is no third answer
abbrev pub FirstFitEnds : Type 0
FirstFitEnds =
    (o : Order) → WithinLimits o →
    ((s : Placing) × (first_fit o ≡ going_on s))
    ⊎ ((s : Placing) × ((i : ℕ) × (first_fit o ≡ refusing s i)))
