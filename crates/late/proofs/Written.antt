-- The script of the times that are found is the one that shows the task late.
use Rattle.std.specs.Prelude.{Ok, Err, Option}
use mathlib.Core.Path.{◌≡◌, sym, ap, ◌∙◌}
use mathlib.Core.List.{List, ◌++◌}
use Prim.Native.Nat.{ℕ, suc, ◌+◌, ◌-◌, ◌≤◌, ◌<◌}
use native.Mathlib.Omega.{arith}
use lib.ListN.{length, drop}
use Rattle.model.specs.declared.order.Order.{Order}
use Rattle.model.specs.declared.build.Build.{Build}
use Rattle.model.specs.declared.build.Release.{Release}
use Rattle.model.specs.declared.answer.Refusal.TheVariants.{OfCall, OfLate}
use Rattle.model.specs.declared.answer.CallCause.TheVariants.{Output}
use Rattle.model.specs.declared.answer.LateCause.TheVariants.{ManyRecords}
use Rattle.model.specs.Layouts.{script_length}
use Rattle.model.specs.Limits.{home_of, most_records}
use Rattle.model.specs.Rules.{WithinLimits}
use Rattle.model.proofs.Output.{after_done, after_refused}
use Rattle.demand.specs.Priority.{Members, members_of}
use Rattle.script.specs.Script.{script_bytes}
use Rattle.comings.specs.Comings.{coming_count}
use Rattle.comings.specs.Listed.{script_before, ComeBefore}
use Rattle.comings.proofs.Script.{script_same, ends_with_the_last}
use Rattle.comings.proofs.Comings.{comings_make_scripts}
use Rattle.comings_out.specs.declared.Coming.{Coming}
use Rattle.comings_out.specs.Times.{most_ticks, comings_in, TimesFit, coming_script}
use Rattle.comings_out.proofs.Fits.{fit_some, fit_small}
use Rattle.critical.specs.Pattern.{begin, critical_pattern}
use Rattle.critical.specs.Late.{late_job, late_start}
use Rattle.critical.proofs.Legal.{critical_is_legal}
use Rattle.critical.proofs.Late.{too_late_has_first}
use Rattle.late_find.specs.Found.{NamedLate, LateTimes}
use Rattle.late.specs.Shown.{script_showing, ShowsScript}
use Rattle.late.proofs.Answers.{too_many, no_room, shown}
use Rattle.late.proofs.Box.{in_its_own, begin_small}

-- the tables' script has as many records as the tasks come
pub script_counted : (o : Order) (times : List (Option Coming)) → WithinLimits o → TimesFit o times → length (coming_script o times) ≡ coming_count o (comings_in times)
script_counted o times limits fit = (comings_make_scripts o (comings_in times) most_ticks limits before).counted
  where
    before : ComeBefore o (comings_in times) most_ticks
    before = record { some = λ task known comes. fit_some o times fit task known comes; early = λ task known comes. fit_small o times fit task known }

module _ (o : Order) (b : Build) (i : ℕ) (named : NamedLate o b i) (times : List (Option Coming)) (are : LateTimes o b i times) where
  abbrev member : Members
  member = members_of b (home_of b i)

  pub script_is : coming_script o times ≡ script_showing o b i
  script_is =
      let found = too_late_has_first o member i (in_its_own o b i named) named.late in
      let ends = (critical_is_legal o member i (late_job o member i) (late_start o member i) (in_its_own o b i named) found.in_window).ends in
      let end = suc (begin o member i + late_start o member i) in
      let more : end + (most_ticks - end) ≡ most_ticks = omega (arith, found.first.starts.upto, begin_small o member i) in
      script_same _ (critical_pattern o member i (late_job o member i) (late_start o member i)) are.are most_ticks
      ∙ ap (script_before (critical_pattern o member i (late_job o member i) (late_start o member i))) (sym more)
      ∙ ends_with_the_last _ end (most_ticks - end) ends

  -- what is answered and left, by the count of its records
  module _ (records : ℕ) (counts : records ≡ coming_count o (comings_in times)) where
    pub records_listed : records ≡ length (coming_script o times)
    records_listed = counts ∙ sym (script_counted o times named.limits are.fit)

    records_are : records ≡ length (script_showing o b i)
    records_are = records_listed ∙ ap length script_is

    pub shows_many : (output : List ℕ) → most_records < records → ShowsScript o b i output (Err (OfLate ManyRecords)) output
    shows_many output more =
        record {
          answers = sym (too_many _ (script_showing o b i) (length output) (omega (arith, more, records_are)));
          leaves = sym (after_refused (OfLate ManyRecords) (script_bytes (script_showing o b i)) output);
        }

    module _ (output : List ℕ) (few : records ≤ most_records) where
      pub shows_no_room : length output < script_length 1 records → ShowsScript o b i output (Err (OfCall Output)) output
      shows_no_room short =
          record {
            answers = sym (no_room _ (script_showing o b i) (length output) (omega (arith, few, records_are)) (omega (arith, short, records_are)));
            leaves = sym (after_refused (OfCall Output) (script_bytes (script_showing o b i)) output);
          }

      pub shows_bytes : (after : List ℕ) → script_length 1 records ≤ length output → after ≡ script_bytes (coming_script o times) ++ drop (script_length 1 records) output
          → ShowsScript o b i output (Ok (script_length 1 records)) after
      shows_bytes after room e =
          record {
            answers = ap (λ (n : ℕ). Ok (script_length 1 n)) records_are
                ∙ sym (shown _ (script_showing o b i) (length output) (omega (arith, few, records_are)) (omega (arith, room, records_are)));
            leaves = e ∙ ap (λ (script : List Release). script_bytes script ++ drop (script_length 1 records) output) script_is
                ∙ sym (after_done (script_length 1 records) (script_bytes (script_showing o b i)) output);
          }
