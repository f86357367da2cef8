-- Laws of 40 to 46 as the judge meets them: its branches, and the scan of the records.
use Rattle.std.specs.Prelude.{Ok, Err}
use mathlib.Core.Path.{◌≡◌, sym, ap, ◌∙◌}
use mathlib.Core.Bool.{true, false}
use mathlib.Core.List.{List}
use Prim.Native.Nat.{ℕ, ◌/◌, ◌%◌, ◌≤◌, ◌<◌}
use lib.Dec.{leb, ltb, eqb}
use lib.ListN.{length}
use borrow.Author.Tests.{eq-eqb, ne_eqb, le-leb, leb-true, lt-leb, lt-ltb, le-ltb}
use Rattle.laws.specs.Choice.{within}
use Rattle.laws.specs.Joined.{joined}
use Rattle.laws.proofs.Every.{and_both}
use Rattle.model.specs.declared.order.Order.{Order}
use Rattle.model.specs.declared.answer.Refusal.TheVariants.{OfScript}
use Rattle.model.specs.declared.answer.ScriptCause.TheVariants.{ScriptLength, RecordSpare, RecordTask, RecordOrder, JobLength, ReleaseGap, FinishPlaces}
use Rattle.model.specs.Rules.{first_broken}
use Rattle.machine.specs.Pattern.{run_of}
use Rattle.script.specs.declared.ReleaseTaken.{ReleaseTaken}
use Rattle.script.specs.Script.{release_at, spare_at, records_in, whole_records, after_previous, earliest, release_rules, script_rules}
use Rattle.script.specs.Judged.{ToldOf}
use Rattle.script.proofs.Keys.{ordered_by_key, task_in_key, tick_in_key}

-- 40 and 46
module _ (count : ℕ) (o : Order) (s : List ℕ) (places : ℕ) where
  pub not_whole : (whole_records s).test ≡ false → first_broken count (script_rules o s places) ≡ Err (OfScript ScriptLength)
  unfolding script_rules first_broken
  not_whole broken = rw broken

  pub too_few_places : (whole_records s).test ≡ true → leb (records_in s) places ≡ false → first_broken count (script_rules o s places) ≡ Err (OfScript FinishPlaces)
  unfolding script_rules first_broken
  too_few_places whole broken = rw (whole, broken)

  pub on_to_records : (whole_records s).test ≡ true → leb (records_in s) places ≡ true
      → first_broken count (script_rules o s places) ≡ first_broken count (joined (release_rules o s) (records_in s))
  unfolding script_rules first_broken
  on_to_records whole room = rw (whole, room)

-- whole records are few
pub whole_few : (s : List ℕ) → (whole_records s).test ≡ true → length s ≤ 6144
whole_few s whole = leb-true (length s) 6144 (and_both (eqb (length s % 6) 0) _ whole).1

-- 41 to 45 of a record, as its judge was told of it
module _ (o : Order) (s : List ℕ) (i : ℕ) (taken : ReleaseTaken) (tasks most least from : ℕ) (told : ToldOf o s i taken tasks most least from) where
  spare_test : eqb (spare_at s i) 0 ≡ eqb taken.spare 0
  spare_test = ap (λ (x : ℕ). eqb x 0) (sym told.takes.spare_is)

  task_is : taken.key % 32 ≡ (release_at s i).task
  task_is = ap (◌% 32) told.takes.key_is ∙ task_in_key s i

  task_test : ltb (release_at s i).task o.tasks ≡ ltb (taken.key % 32) tasks
  task_test = rw (task_is, told.tasks_are)

  order_test : after_previous (release_at s) i ≡ leb least taken.key
  order_test = ordered_by_key s i ∙ rw (told.least_is, told.takes.key_is)

  gap_test : leb (earliest o (release_at s) (release_at s i).task i) (release_at s i).tick ≡ leb from (taken.key / 32)
  gap_test = rw (told.from_is, told.takes.key_is, tick_in_key s i)

  pub spare_set : (taken.spare ≡ 0 → ⊥) → first_broken 0 (release_rules o s i) ≡ Err (OfScript (RecordSpare i))
  unfolding release_rules first_broken
  spare_set ne = rw (spare_test, ne_eqb taken.spare 0 ne)

  pub no_such_task : taken.spare ≡ 0 → tasks ≤ taken.key % 32 → first_broken 0 (release_rules o s i) ≡ Err (OfScript (RecordTask i))
  unfolding release_rules first_broken
  no_such_task e l = rw (spare_test, eq-eqb taken.spare 0 e, task_test, le-ltb (taken.key % 32) tasks l)

  pub out_of_order : taken.spare ≡ 0 → taken.key % 32 < tasks → taken.key < least → first_broken 0 (release_rules o s i) ≡ Err (OfScript (RecordOrder i))
  unfolding release_rules first_broken
  out_of_order e k l = rw (spare_test, eq-eqb taken.spare 0 e, task_test, lt-ltb (taken.key % 32) tasks k, order_test, lt-leb least taken.key l)

  pub duration_test : within 1 most taken.duration ≡ within 1 (run_of o (release_at s i).task) (release_at s i).duration
  duration_test = rw (told.most_is, told.takes.duration_is)

  pub wrong_duration : taken.spare ≡ 0 → taken.key % 32 < tasks → least ≤ taken.key → within 1 most taken.duration ≡ false
      → first_broken 0 (release_rules o s i) ≡ Err (OfScript (JobLength i))
  unfolding release_rules first_broken
  wrong_duration e k l d = rw (spare_test, eq-eqb taken.spare 0 e, task_test, lt-ltb (taken.key % 32) tasks k, order_test, le-leb least taken.key l, ← duration_test, d)

  pub too_close : taken.spare ≡ 0 → taken.key % 32 < tasks → least ≤ taken.key → within 1 most taken.duration ≡ true → leb from (taken.key / 32) ≡ false
      → first_broken 0 (release_rules o s i) ≡ Err (OfScript (ReleaseGap i))
  unfolding release_rules first_broken
  too_close e k l d g =
      rw (spare_test, eq-eqb taken.spare 0 e, task_test, lt-ltb (taken.key % 32) tasks k, order_test, le-leb least taken.key l, ← duration_test, d, gap_test, g)

  pub record_right : taken.spare ≡ 0 → taken.key % 32 < tasks → least ≤ taken.key → within 1 most taken.duration ≡ true → leb from (taken.key / 32) ≡ true
      → first_broken 0 (release_rules o s i) ≡ Ok 0
  unfolding release_rules first_broken
  record_right e k l d g =
      rw (spare_test, eq-eqb taken.spare 0 e, task_test, lt-ltb (taken.key % 32) tasks k, order_test, le-leb least taken.key l, ← duration_test, d, gap_test, g)
