-- What holds of finish ticks; proved in proofs/.
use Rattle.std.specs.Prelude.{ℕ, ◌<◌, ◌≤◌, ◌^◌, ◌≡◌, List, length}
use Rattle.model.specs.declared.order.Order.{Order}
use Rattle.model.specs.declared.build.Build.{Build}
use Rattle.model.specs.declared.build.Release.{Release}
use Rattle.model.specs.Limits.{most_records, home_of}
use Rattle.machine.specs.Pattern.{record_of, pattern_of, LegalScript}
use Rattle.machine.specs.Box.{records_of, Finishes}
use Rattle.finish.specs.Finish.{finish_of, most_tick}

-- a script as its bytes can hold it: "tick 20, .. length 20", "script records .. 1,024"
pub record Short (script : List Release) : Type 0 where
  pub few : length script ≤ most_records
  pub early : (i : ℕ) → i < length script → (record_of script i).tick < 2 ^ 20
  pub brief : (i : ℕ) → i < length script → (record_of script i).duration < 2 ^ 20

-- record i's job finishes at a tick
abbrev pub FinishesAt : Order → Build → List Release → (i finish : ℕ) → Type 0
FinishesAt o b script i finish = Finishes o b (pattern_of script) (record_of script i).task (record_of script i).tick finish

-- the last tick at which a job can finish: the first tick past every release, and 1,024 jobs of the greatest length after it
abbrev pub latest : ℕ
latest = 1_074_790_400

-- "until every job has finished": each has a finish tick, and it is the one that `finish_of` gives
pub record JobFinishes (o : Order) (b : Build) (script : List Release) (i : ℕ) : Type 0 where
  pub finishes : FinishesAt o b script i (finish_of o b script i)
  pub in_time_lem : finish_of o b script i ≤ latest

abbrev pub EveryJobFinishes : Type 0
EveryJobFinishes = (o : Order) (b : Build) (script : List Release) → LegalScript o script → Short script
    → (i : ℕ) → i < length script → JobFinishes o b script i

-- no other 32-bit tick is its finish tick
abbrev pub FinishTickIsOne : Type 0
FinishTickIsOne = (o : Order) (b : Build) (script : List Release) (i finish : ℕ)
    → finish ≤ most_tick → FinishesAt o b script i finish → finish_of o b script i ≡ finish

-- "Two accepted runs of one order and build whose records for one partition's tasks agree give those records equal finish ticks, whatever else is released."
abbrev pub RunsApart : Type 0
RunsApart = (o : Order) (b : Build) (p : ℕ) (one other : List Release) → records_of b p one ≡ records_of b p other
    → (i j : ℕ) → record_of one i ≡ record_of other j → home_of b (record_of one i).task ≡ p
    → finish_of o b one i ≡ finish_of o b other j
