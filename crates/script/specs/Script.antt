-- "Bits on the wire", the script: its records, and the rules 40 to 46 in document order, each with what it says.
use Rattle.std.specs.Prelude.{ℕ, zero, suc, ◌+◌, ◌*◌, ◌/◌, ◌%◌, ◌≤◌, ◌<◌, ◌≡◌, Bool, true, ◌&&◌, ◌||◌, List, [], ◌∷◌, length, get_or, leb, ltb, eqb}
use Rattle.laws.specs.Choice.{pick}
use Rattle.laws.specs.Joined.{joined, listed}
use Rattle.bits.specs.Layout.{bytes_in, record_bytes, numbers_at}
use Rattle.model.specs.declared.order.Order.{Order}
use Rattle.model.specs.declared.build.Release.{Release}
use Rattle.model.specs.declared.answer.Refusal.TheVariants.{OfScript}
use Rattle.model.specs.declared.answer.ScriptCause.TheVariants.{ScriptLength, RecordSpare, RecordTask, RecordOrder, JobLength, ReleaseGap, FinishPlaces}
use Rattle.model.specs.Limits.{most_records}
use Rattle.model.specs.Layouts.{release_record, script_length}
use Rattle.model.specs.Rules.{Fact, Rule, rule, equal, at_most, in_range}
use Rattle.demand.specs.Releases.{period_of}
use Rattle.machine.specs.Pattern.{run_of, record_of, Before}

-- a release as the numbers in its record's fields, with its spare bits; and the release that such numbers make
abbrev pub release_numbers : Release → (spare : ℕ) → List ℕ
release_numbers r spare = r.tick ∷ r.task ∷ r.duration ∷ spare ∷ []

abbrev pub release_from : List ℕ → Release
release_from numbers = record { tick = get_or numbers 0 0; task = get_or numbers 1 0; duration = get_or numbers 2 0 }

-- "Script: per record tick 20, task 5, length 20, spare 3.": a record's bytes, and those of all records of a script in turn
abbrev pub release_bytes : Release → List ℕ
release_bytes r = record_bytes (release_record 1) (release_numbers r 0)

unfoldable pub script_bytes : List Release → List ℕ
script_bytes script = joined (λ i. release_bytes (record_of script i)) (length script)

-- the numbers in record i
unfoldable pub release_fields : List ℕ → ℕ → List ℕ
release_fields s i = numbers_at s (8 * script_length 1 i) (release_record 1)

abbrev pub release_at : List ℕ → ℕ → Release
release_at s i = release_from (release_fields s i)

abbrev pub spare_at : List ℕ → ℕ → ℕ
spare_at s i = get_or (release_fields s i) 3 0

-- how many records the bytes hold
unfoldable pub records_in : List ℕ → ℕ
records_in s = length s / bytes_in (release_record 1)

-- the script that stands in the bytes
unfoldable pub script_of : List ℕ → List Release
script_of s = listed (release_at s) (records_in s)

-- 40: "script not a multiple of 6 bytes, or over 6,144"
pub record WholeRecords (s : List ℕ) : Type 0 where
  pub whole : length s ≡ script_length 1 (records_in s)
  pub few : records_in s ≤ most_records

abbrev pub whole_records : List ℕ → Fact
whole_records s = record { says = WholeRecords s; test = eqb (length s % bytes_in (release_record 1)) 0 && leb (length s) (script_length 1 most_records) }

-- "rise strictly by tick, then task"
unfoldable pub comes_before : Release → Release → Bool
comes_before r s = ltb r.tick s.tick || (eqb r.tick s.tick && ltb r.task s.task)

-- 43: "records out of order": record i comes after the one before it; the first stands after none
unfoldable pub after_previous : (ℕ → Release) → ℕ → Bool
after_previous f zero = true
after_previous f (suc i) = comes_before (f i) (f (suc i))

abbrev pub in_order : (ℕ → Release) → ℕ → Fact
in_order f i = record { says = (j : ℕ) → suc j ≡ i → Before (f j) (f i); test = after_previous f i }

-- record j is the last of record i's task before it
pub record LastEarlier (f : ℕ → Release) (j i : ℕ) : Type 0 where
  pub earlier : j < i
  pub same_task : (f j).task ≡ (f i).task
  pub none_between : (x : ℕ) → j < x → x < i → (f x).task ≡ (f i).task → ⊥

-- the first tick at which a task may be released again after the records below i: T past its last one; 0 if it has none
unfoldable pub earliest : Order → (ℕ → Release) → (task i : ℕ) → ℕ
earliest o f task zero = 0
earliest o f task (suc i) = pick (eqb (f i).task task) ((f i).tick + period_of o task) (earliest o f task i)

-- 45: "releases closer than T": record i is at least T past the last earlier one of its task
abbrev pub far_enough : Order → (ℕ → Release) → ℕ → Fact
far_enough o f i =
    record {
      says = (j : ℕ) → LastEarlier f j i → (f j).tick + period_of o (f i).task ≤ (f i).tick;
      test = leb (earliest o f (f i).task i) (f i).tick;
    }

-- "record by record 41 to 45 with the record as place"
unfoldable pub release_rules : Order → List ℕ → (i : ℕ) → List Rule
release_rules o s i =
    let r = release_at s i in
    rule (equal (spare_at s i) 0) (OfScript (RecordSpare i))
    ∷ rule (record { says = r.task < o.tasks; test = ltb r.task o.tasks }) (OfScript (RecordTask i))
    ∷ rule (in_order (release_at s) i) (OfScript (RecordOrder i))
    ∷ rule (in_range 1 (run_of o r.task) r.duration) (OfScript (JobLength i))
    ∷ rule (far_enough o (release_at s) i) (OfScript (ReleaseGap i))
    ∷ []

-- "40, 46, then record by record 41 to 45", with so many places for finish ticks
unfoldable pub script_rules : Order → List ℕ → (places : ℕ) → List Rule
script_rules o s places =
    rule (whole_records s) (OfScript ScriptLength)
    ∷ rule (at_most (records_in s) places) (OfScript FinishPlaces)
    ∷ joined (release_rules o s) (records_in s)
