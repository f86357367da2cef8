-- What the tests of all tasks give, by number, while they go on and at their end. Inner definitions; Rules.antt has the document's.
use Rattle.std.specs.Prelude.{ℕ, ◌+◌, ◌-◌, ◌≤◌, ◌<◌, min, ◌≡◌, ◌≢◌, Bool, List, ◌⊎◌, ltb, length, get_or, Some, None, Option}
use Rattle.laws.specs.Choice.{pick}
use Rattle.model.specs.declared.order.Order.{Order}
use Rattle.model.specs.declared.build.Member.{Member}
use Rattle.model.specs.declared.build.Build.{Build}
use Rattle.model.specs.Limits.{most_tasks, zero_member, task_of, member_of, home_of}
use Rattle.demand.specs.Verdict.{Verdict}
use Rattle.demand.specs.Priority.{members_of, rank}
use Rattle.demand.specs.Releases.{work_by}
use Rattle.demand.specs.Test.{blocking, higher_work, verdict}
use Rattle.asked.specs.declared.rows.Rows.{Rows}
use Rattle.asked.specs.Rows.{asked_by, blocking_in}
use Rattle.asked.specs.Met.{UnmetBelow}
use Rattle.verdict.specs.declared.Tested.{Tested}
use Rattle.verdict.specs.Tested.{worst_of}
use Rattle.roster.specs.Keys.{home_in, key_at, number_at}
use Rattle.roster.specs.Rows.{RowsByNumber}
use Rattle.trial.specs.Known.{of_rank, verdict_at, Bounds, OnlyRanks}
use Rattle.inspect_members.specs.Line.{LineFor}
use Rattle.trial.specs.declared.Results.{Results}
use Rattle.inspect_tests.specs.Rules.{window_there}

-- the rows by number and the line of keys of an order and a build
pub record Lineup (table : Rows) (keys : List ℕ) (tasks : ℕ) (o : Order) (b : Build) : Type 0 where
  pub in_line : LineFor keys tasks o b
  pub rows : RowsByNumber o tasks table

-- they are those of some order and build
abbrev pub SomeLineup : (table : Rows) → (keys : List ℕ) → (tasks : ℕ) → Type 0
SomeLineup table keys tasks = (o : Order) × (b : Build) × Lineup table keys tasks o b

-- the verdict on a task in its partition
abbrev pub verdict_here : Order → Build → ℕ → Verdict
verdict_here o b i = verdict o (members_of b (home_of b i)) i

-- a tick before which its window does not close
pub record OpenBelow (o : Order) (b : Build) (i last : ℕ) : Type 0 where
  pub near : last ≤ 2_000_000
  pub unmet : UnmetBelow (λ w. higher_work o (members_of b (home_of b i)) i w + work_by (task_of o i) w) (blocking o (members_of b (home_of b i)) i) last

-- a number for the member above one of a rank, 0 for the highest
abbrev pub last_above : (keys lasts : List ℕ) → (rank : ℕ) → ℕ
last_above keys lasts rank = pick (ltb 0 rank) (of_rank keys lasts (rank - 1)) 0

-- a member tested if its number is below the lowest that fails; if not, no more than a tick before which its window does not close
pub record TestedBelow (rows : Rows) (keys : List ℕ) (count rank lowest : ℕ) (r : Tested) : Type 0 where
  pub near : r.last ≤ 2_000_000
  pub unmet : UnmetBelow (asked_by rows (rank + 1)) (blocking_in rows count rank) r.last
  pub worst : number_at keys rank < lowest → r.worst ≡ worst_of (verdict_at rows count rank)
  pub left_out : lowest ≤ number_at keys rank → r.worst ≡ None

-- the lowest number without a response, with one task more
abbrev pub lowest_failing : (lowest number : ℕ) → (worst : Option ℕ) → ℕ
lowest_failing lowest number (Some worst) = lowest
lowest_failing lowest number None = min lowest number

-- a worst response by number, if there is one
abbrev pub worst_at : List (Option ℕ) → (number : ℕ) → Option ℕ
worst_at worsts number = get_or worsts number None

-- only worst responses of ranks from one to before another have changed
abbrev pub OnlyWorsts : (keys : List ℕ) → (from to : ℕ) → (before after : List (Option ℕ)) → Type 0
OnlyWorsts keys from to before after = (j : ℕ) → ((r : ℕ) → from ≤ r → r < to → number_at keys r ≢ j) → worst_at after j ≡ worst_at before j

-- a member of this number does not pass
abbrev pub FailsAmong : (rows : Rows) → (keys : List ℕ) → (count number : ℕ) → Type 0
FailsAmong rows keys count number = (r : ℕ) × (r < count) × (number_at keys r ≡ number) × (worst_of (verdict_at rows count r) ≡ None)

-- the ranks before this one tested: the lowest number that fails; by number the worst responses of those below it; and of all ticks before which windows do not close
pub record TestedRanks (rows : Rows) (keys : List ℕ) (count to lowest : ℕ) (results : Results (Option ℕ)) (lowest' : ℕ) (results' : Results (Option ℕ)) : Type 0 where
  pub bounds : Bounds rows keys count results'.lasts
  pub places : length results'.worsts ≡ most_tasks
  pub lower : lowest' ≤ lowest
  pub fails : (lowest' ≡ lowest) ⊎ FailsAmong rows keys count lowest'
  pub none : worst_at results'.worsts lowest' ≡ None
  pub responses : (r : ℕ) → r < to → number_at keys r < lowest' → worst_at results'.worsts (number_at keys r) ≡ worst_of (verdict_at rows count r)
  pub other_lasts : OnlyRanks keys 0 to results.lasts results'.lasts
  pub other_worsts : OnlyWorsts keys 0 to results.worsts results'.worsts

-- the tasks before this place of the line tested up to the lowest number that fails, of whatever order and build the line is; a partition ends there
pub record TestedBefore (table : Rows) (keys : List ℕ) (tasks first lowest : ℕ) (results : Results (Option ℕ)) : Type 0 where
  pub upto : first ≤ tasks
  pub ends : (r s : ℕ) → r < first → first ≤ s → s < tasks → home_in (key_at keys r) < home_in (key_at keys s)
  pub lasts_places : length results.lasts ≡ most_tasks
  pub worsts_places : length results.worsts ≡ most_tasks
  pub still : (o : Order) (b : Build) → Lineup table keys tasks o b → (i : ℕ) → i < tasks → OpenBelow o b i (get_or results.lasts i 0)
  pub fails : (o : Order) (b : Build) → Lineup table keys tasks o b → lowest < tasks → worst_of (verdict_here o b lowest) ≡ None
  pub none : worst_at results.worsts lowest ≡ None
  pub responses : (o : Order) (b : Build) → Lineup table keys tasks o b → (r : ℕ) → r < first → number_at keys r < lowest → worst_at results.worsts (number_at keys r) ≡ worst_of (verdict_here o b (number_at keys r))

-- all tested, up to the lowest number that fails
pub record ResultsOf (o : Order) (b : Build) (r : Results (Option ℕ)) : Type 0 where
  pub lowest : ℕ
  pub none : worst_at r.worsts lowest ≡ None
  pub responses : (i : ℕ) → i < o.tasks → i ≤ lowest → worst_at r.worsts i ≡ worst_of (verdict_here o b i)
  pub still : (i : ℕ) → i < o.tasks → OpenBelow o b i (get_or r.lasts i 0)

-- of whatever order and build the rows and the line are
abbrev pub ResultsFor : (table : Rows) → (keys : List ℕ) → (tasks : ℕ) → Results (Option ℕ) → Type 0
ResultsFor table keys tasks r = (o : Order) (b : Build) → Lineup table keys tasks o b → ResultsOf o b r

-- a task passes, with the response that is recorded
abbrev pub Right : List Member → (worsts : List (Option ℕ)) → ℕ → Type 0
Right members worsts i = worst_at worsts i ≡ Some (get_or members i zero_member).response

-- the first that is not right, if there is one
abbrev pub FirstWrong : List Member → (worsts : List (Option ℕ)) → (tasks : ℕ) → Option ℕ → Type 0
FirstWrong members worsts tasks None = (i : ℕ) → i < tasks → Right members worsts i
FirstWrong members worsts tasks (Some i) = (i < tasks) × (Right members worsts i → ⊥) × ((j : ℕ) → j < i → Right members worsts j)

-- a task of a partition and a rank there, and a tick before which its window does not close
pub record TaskThere (table : Rows) (keys : List ℕ) (tasks : ℕ) (member : Member) (last : ℕ) (o : Order) (b : Build) (i : ℕ) : Type 0 where
  pub lineup : Lineup table keys tasks o b
  pub known : i < tasks
  pub home : home_of b i ≡ member.partition
  pub ranks : rank o (members_of b (home_of b i)) i ≡ member.rank
  pub still : OpenBelow o b i last

abbrev pub SomeTaskThere : (table : Rows) → (keys : List ℕ) → (tasks : ℕ) → Member → (last : ℕ) → Type 0
SomeTaskThere table keys tasks member last = (o : Order) × (b : Build) × (i : ℕ) × TaskThere table keys tasks member last o b i

-- its window is there
abbrev pub TellsWindow : (table : Rows) → (keys : List ℕ) → (tasks : ℕ) → Member → (last : ℕ) → Bool → Type 0
TellsWindow table keys tasks member last there = (o : Order) (b : Build) (i : ℕ) → TaskThere table keys tasks member last o b i → there ≡ window_there (verdict_here o b i)

-- a build records each task's rank
abbrev pub RanksRecorded : Order → Build → Type 0
RanksRecorded o b = (i : ℕ) → i < o.tasks → (member_of b i).rank ≡ rank o (members_of b (home_of b i)) i
