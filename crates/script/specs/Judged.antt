-- What the reader takes of a record, what its judge is told beside it, and what judging a script gives.
use Rattle.std.specs.Prelude.{ℕ, zero, suc, ◌+◌, ◌*◌, ◌<◌, ◌≡◌, List, length, get_or, Ok, Result}
use Rattle.laws.specs.Joined.{joined}
use Rattle.model.specs.declared.order.Order.{Order}
use Rattle.model.specs.declared.build.Release.{Release}
use Rattle.model.specs.Kinds.{Answer}
use Rattle.model.specs.declared.answer.Refusal.{Refusal}
use Rattle.model.specs.Limits.{most_records}
use Rattle.model.specs.Rules.{first_broken, given}
use Rattle.machine.specs.Pattern.{run_of}
use Rattle.script.specs.declared.ReleaseTaken.{ReleaseTaken}
use Rattle.script.specs.Script.{release_at, spare_at, records_in, script_of, earliest, release_rules, script_rules}
use Rattle.script.specs.Held.{Held}

-- tick and task as one number: it rises exactly as records do "by tick, then task"
abbrev pub release_key : Release → ℕ
release_key r = r.tick * 32 + r.task

pub record TakesRelease (s : List ℕ) (i : ℕ) (taken : ReleaseTaken) : Type 0 where
  pub key_is : taken.key ≡ release_key (release_at s i)
  pub duration_is : taken.duration ≡ (release_at s i).duration
  pub spare_is : taken.spare ≡ spare_at s i

-- the least key that record i may have: past that of the record before it
unfoldable pub least_key : (ℕ → Release) → ℕ → ℕ
least_key f zero = 0
least_key f (suc i) = release_key (f i) + 1

-- what the judge of record i is told: what was taken, n, its task's C, its least key, and the first tick at which its task may be released again
pub record ToldOf (o : Order) (s : List ℕ) (i : ℕ) (taken : ReleaseTaken) (tasks most least from : ℕ) : Type 0 where
  pub takes : TakesRelease s i taken
  pub tasks_are : tasks ≡ o.tasks
  pub most_is : most ≡ run_of o (release_at s i).task
  pub least_is : least ≡ least_key (release_at s) i
  pub from_is : from ≡ earliest o (release_at s) (release_at s i).task i

-- 41 to 45 of record i, of every order and script of which it was told so
abbrev pub JudgesRelease : ReleaseTaken → (tasks most least from i : ℕ) → Result Unit Refusal → Type 0
JudgesRelease taken tasks most least from i answer = (o : Order) (s : List ℕ) → ToldOf o s i taken tasks most least from → answer ≡ given tt (first_broken 0 (release_rules o s i))

-- the numbers of the records below so many stand in the arrays
pub record HeldBelow (s : List ℕ) (records : ℕ) (keys durations : List ℕ) : Type 0 where
  pub sizes : (length keys ≡ most_records) × (length durations ≡ most_records)
  pub keys_are : (x : ℕ) → x < records → get_or keys x 0 ≡ release_key (release_at s x)
  pub durations_are : (x : ℕ) → x < records → get_or durations x 0 ≡ (release_at s x).duration

-- record by record 41 to 45; where all hold, the numbers of these records stand in the arrays
pub record JudgesRecords (o : Order) (s : List ℕ) (records : ℕ) (keys durations : List ℕ) (answer : Result Unit Refusal) : Type 0 where
  pub answers : answer ≡ given tt (first_broken records (joined (release_rules o s) records))
  pub holds : answer ≡ Ok tt → HeldBelow s records keys durations

-- 40, 46, then 41 to 45; where all hold, the script's numbers stand in the arrays
pub record JudgesScript (o : Order) (s : List ℕ) (places : ℕ) (keys durations : List ℕ) (answer : Answer) : Type 0 where
  pub answer_is : answer ≡ first_broken (records_in s) (script_rules o s places)
  pub numbers_held : (count : ℕ) → answer ≡ Ok count → Held (script_of s) keys durations
