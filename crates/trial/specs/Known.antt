-- What is known of the members of a partition while they are tested, by rank over their rows, and by number.
use Rattle.std.specs.Prelude.{ℕ, ◌+◌, ◌-◌, ◌≤◌, ◌<◌, ◌≡◌, Bool, true, false, List, ◌≢◌, length, get_or, set, replicate, Ok}
use Rattle.laws.specs.Every.{every}
use Rattle.model.specs.Limits.{most_tasks}
use Rattle.demand.specs.Verdict.{Verdict}
use Rattle.demand.specs.Test.{does_pass, response_of}
use Rattle.asked.specs.Rows.{cost_at, asked_by, blocking_in}
use Rattle.asked.specs.Met.{UnmetBelow}
use Rattle.verdict.specs.Tested.{verdict_in}
use Rattle.roster.specs.Keys.{number_at}
use Rattle.asked.specs.declared.rows.Rows.{Rows}
use Rattle.trial.specs.declared.Results.{Results}

-- nothing tested, and one worst response for all
abbrev pub no_results : {Worst : Type 0} → (worst : Worst) → Results Worst
no_results worst = record { lasts = replicate most_tasks 0; worsts = replicate most_tasks worst }

-- what the test of a task gave, by its number
abbrev pub with_result : {Worst : Type 0} → Results Worst → (number last : ℕ) → (worst : Worst) → Results Worst
with_result results number last worst = record { lasts = set results.lasts number last; worsts = set results.worsts number worst }

-- a number for the member of a rank, from a list by number
abbrev pub of_rank : (keys : List ℕ) → List ℕ → (rank : ℕ) → ℕ
of_rank keys xs rank = get_or xs (number_at keys rank) 0

-- no two ranks have one number
abbrev pub Apart : (keys : List ℕ) → (count : ℕ) → Type 0
Apart keys count = (r s : ℕ) → r < count → s < count → number_at keys r ≡ number_at keys s → r ≡ s

-- ticks before which windows do not close
pub record Bounds (rows : Rows) (keys : List ℕ) (count : ℕ) (lasts : List ℕ) : Type 0 where
  pub places : length lasts ≡ most_tasks
  pub near : (r : ℕ) → r < count → of_rank keys lasts r ≤ 2_000_000
  pub unmet : (r : ℕ) → r < count → UnmetBelow (asked_by rows (r + 1)) (blocking_in rows count r) (of_rank keys lasts r)

-- the verdict on the member of a rank, blocked by those after it
abbrev pub verdict_at : Rows → (count rank : ℕ) → Verdict
verdict_at rows count rank = verdict_in rows rank (blocking_in rows count rank)

abbrev pub passes_at : Rows → (count rank : ℕ) → Bool
passes_at rows count rank = does_pass (verdict_at rows count rank)

-- only what belongs to ranks from one to before another has changed
abbrev pub OnlyRanks : (keys : List ℕ) → (from to : ℕ) → (before after : List ℕ) → Type 0
OnlyRanks keys from to before after = (j : ℕ) → ((r : ℕ) → from ≤ r → r < to → number_at keys r ≢ j) → get_or after j 0 ≡ get_or before j 0

-- ranks from one to before another tested
pub record TestedFrom (rows : Rows) (keys : List ℕ) (count from to : ℕ) (results : Results ℕ) (passes : Bool) (results' : Results ℕ) : Type 0 where
  pub all_pass : passes ≡ every (λ x. passes_at rows count (from + x)) (to - from)
  pub bounds : Bounds rows keys count results'.lasts
  pub places : length results'.worsts ≡ most_tasks
  pub responses : passes ≡ true → (r : ℕ) → from ≤ r → r < to → of_rank keys results'.worsts r ≡ response_of (verdict_at rows count r)
  pub other_lasts : OnlyRanks keys from to results.lasts results'.lasts
  pub other_worsts : OnlyRanks keys from to results.worsts results'.worsts

-- another member after rank h has no smaller cost than the newcomer of a rank, which so blocks no longer
pub record Shielded (rows : Rows) (count newcomer h : ℕ) : Type 0 where
  pub by : ℕ
  pub after : h < by
  pub inside : by < count
  pub another : by ≢ newcomer
  pub long : cost_at rows newcomer ≤ cost_at rows by

-- the others tested with a newcomer: from the first that nothing shields to before it, then those below it
pub record OthersTested (rows : Rows) (keys : List ℕ) (count newcomer : ℕ) (results : Results ℕ) (passes : Bool) (results' : Results ℕ) : Type 0 where
  pub first : ℕ
  pub upto : first ≤ newcomer
  pub shields : (h : ℕ) → h < first → Shielded rows count newcomer h
  pub fails : passes ≡ false → every (passes_at rows count) count ≡ false
  pub between : Results ℕ
  pub higher : passes ≡ true → TestedFrom rows keys count first newcomer results true between
  pub lower : passes ≡ true → TestedFrom rows keys count (newcomer + 1) count between true results'

-- what is known before a newcomer is tried
pub record KnownBefore (rows : Rows) (keys : List ℕ) (count newcomer : ℕ) (results : Results ℕ) : Type 0 where
  pub apart : Apart keys count
  pub bounds : Bounds rows keys count results.lasts
  pub places : length results.worsts ≡ most_tasks
  pub stands : (h : ℕ) → h < newcomer → Shielded rows count newcomer h → verdict_at rows count h ≡ Ok (of_rank keys results.worsts h)

-- what is known after it was: of all members where all pass, else as before
pub record KnownAfter (rows : Rows) (keys : List ℕ) (count : ℕ) (results results' : Results ℕ) : Type 0 where
  pub bounds : Bounds rows keys count results'.lasts
  pub places : length results'.worsts ≡ most_tasks
  pub stand : (h : ℕ) → h < count → verdict_at rows count h ≡ Ok (of_rank keys results'.worsts h)
  pub other_lasts : OnlyRanks keys 0 count results.lasts results'.lasts
  pub other_worsts : OnlyRanks keys 0 count results.worsts results'.worsts

pub record TriedAs (rows : Rows) (keys : List ℕ) (count : ℕ) (results : Results ℕ) (passes : Bool) (results' : Results ℕ) : Type 0 where
  pub all_pass : passes ≡ every (passes_at rows count) count
  pub taken : passes ≡ true → KnownAfter rows keys count results results'
  pub refused : passes ≡ false → results' ≡ results
