-- The times that were found are those of the pattern.
use Rattle.std.specs.Prelude.{Option, Some, None}
use Rattle.std.specs.Option.{is_some}
use mathlib.Core.Path.{◌≡◌, refl, sym, ap, ◌∙◌, subst}
use mathlib.Core.Bool.{Bool, true, false, ◌||◌}
use mathlib.Core.List.{List}
use Prim.Native.Nat.{ℕ, ◌+◌, ◌*◌, ◌≤◌, ◌<◌, min}
use native.Mathlib.Omega.{arith}
use lib.Dec.{eqb}
use borrow.Author.Tests.{eqb-true}
use Rattle.laws.specs.Choice.{pick}
use Rattle.laws.proofs.Choice.{refuted}
use Rattle.laws.proofs.Every.{clash, and_both}
use Rattle.model.specs.declared.order.Order.{Order}
use Rattle.model.specs.declared.build.Build.{Build}
use Rattle.model.specs.Limits.{task_of}
use Rattle.demand.specs.Priority.{Members, outranks, higher, lower}
use Rattle.demand.specs.Releases.{period_of}
use Rattle.demand.specs.Test.{blocking, higher_work}
use Rattle.demand.proofs.Priority.{never-above, outranks_self, not_higher}
use Rattle.comings.proofs.Alike.{Alike, same_coming}
use Rattle.comings_out.specs.declared.Coming.{Coming}
use Rattle.comings_out.specs.Times.{most_ticks, coming_of, first_tick, last_tick, comings_in}
use Rattle.critical.specs.Pattern.{blocks, begin, comes_from, comes_up_to, critical_comings, critical_pattern}
use Rattle.critical.specs.Late.{late_start}
use Rattle.roster.specs.Rows.{RowsByNumber}
use Rattle.late_find.specs.declared.Longest.{Longest}
use Rattle.late_find.specs.declared.Late.{Late}
use Rattle.late_find.specs.Found.{KeysByNumber, blocker_of, LongestBelow, FirstLateOver, coming_by, TimedBy, besides, NamedLate, LateTimes}
use Rattle.late_find.proofs.Above.{above-higher}
use Rattle.late_find.proofs.Blocker.{begin_is, blocks_is, blocks-lower}
use Rattle.late_find.proofs.Named.{late_early, late_job_is, late_start_is}
use Rattle.asked.specs.declared.rows.Rows.{Rows}

fits_as : {x : Coming} (coming : Coming) → x ≡ coming → (x.first ≤ x.last) × (x.last < most_ticks) → (coming.first ≤ coming.last) × (coming.last < most_ticks)
fits_as coming same fits = subst (λ (c : Coming). (c.first ≤ c.last) × (c.last < most_ticks)) same fits

-- when a task comes that is the named one itself, a higher member, or the blocker
module _ (from last start : ℕ) where
  abbrev timed : (itself over it : Bool) → Option Coming
  timed itself over it =
      pick itself (Some (record { first = from; last = last })) (pick over (Some (record { first = from; last = start })) (pick it (Some (record { first = 0; last = 0 })) None))

  -- as the pattern says
  record AsPattern (itself over it : Bool) : Type 0 where
    part : is_some (timed itself over it) ≡ (itself || (over || it))
    ticks : (itself || (over || it)) ≡ true → (first_tick (timed itself over it) ≡ pick it 0 from) × (last_tick (timed itself over it) ≡ pick itself last (pick over start 0))

  as_pattern : (itself over it : Bool) → (it ≡ true → (itself ≡ false) × (over ≡ false)) → AsPattern itself over it
  as_pattern true over true apart = clash (sym (apart refl).0)
  as_pattern true over false apart = record { part = refl; ticks = λ some. (refl, refl) }
  as_pattern false true true apart = clash (sym (apart refl).1)
  as_pattern false true false apart = record { part = refl; ticks = λ some. (refl, refl) }
  as_pattern false false true apart = record { part = refl; ticks = λ some. (refl, refl) }
  as_pattern false false false apart = record { part = refl; ticks = λ some. clash some }

  -- once at least, and in time for a record
  timed_fits : from ≤ last → from ≤ start → last < most_ticks → start < most_ticks → (itself over it : Bool) (coming : Coming) →
      timed itself over it ≡ Some coming → (coming.first ≤ coming.last) × (coming.last < most_ticks)
  timed_fits a b c d true over it coming e = let same : record { first = from; last = last } ≡ coming = cc in fits_as coming same (a, c)
  timed_fits a b c d false true it coming e = let same : record { first = from; last = start } ≡ coming = cc in fits_as coming same (b, d)
  timed_fits a b c d false false true coming e = let same : record { first = 0; last = 0 } ≡ coming = cc in fits_as coming same (omega arith, omega arith)
  timed_fits a b c d false false false coming e = let z : ◌≡◌ {A = ℕ} 0 1 = cc in absurd (omega arith)

module _ (o : Order) (b : Build) (i : ℕ) (named : NamedLate o b i) (keys : List ℕ) (table : Rows) (longest : Option Longest)
    (keyed : KeysByNumber o b o.tasks keys) (by_number : RowsByNumber o o.tasks table) (is : LongestBelow table keys o.tasks i longest)
    (q w : ℕ) (first : FirstLateOver (higher_work o (besides b i) i) (blocking o (besides b i) i) (task_of o i) q w) where
  abbrev member : Members
  member = besides b i

  abbrev from : ℕ
  from = min (blocking o member i) 1

  -- what the times follow from
  abbrev pub late_by : Late
  late_by = record { named = i; begin = from; last = from + q * period_of o i; start = from + w; blocker = blocker_of longest }

  begins : from ≡ begin o member i
  begins = begin_is o b named.limits i named.known keys table longest keyed by_number is

  -- the blocker is another task, and no higher member
  apart : (j : ℕ) → blocks o member i j ≡ true → (eqb j i ≡ false) × (higher o member i j ≡ false)
  unfolding lower
  apart j it =
      let under : outranks o i j ≡ true = (and_both (member j) (outranks o i j) (blocks-lower o b named.limits i named.known keys table longest keyed by_number is j it)).1 in (
        refuted (eqb j i) (λ same. clash (sym (outranks_self o i) ∙ ap (outranks o i) (sym (eqb-true j i same)) ∙ under)),
        not_higher o member i j (never-above o i j under),
      )

  timed_is : (j : ℕ) → j < o.tasks → coming_by keys late_by j ≡ timed from (from + q * period_of o i) (from + w) (eqb j i) (higher o member i j) (blocks o member i j)
  timed_is j l =
      rw (above-higher o b named.limits keys keyed j i l named.known, blocks_is o b named.limits i named.known keys table longest keyed by_number is j) refl

  module _ (times : List (Option Coming)) (timed-by : TimedBy keys o.tasks late_by times) where
    coming_is : (j : ℕ) → j < o.tasks → coming_of times j ≡ timed from (from + q * period_of o i) (from + w) (eqb j i) (higher o member i j) (blocks o member i j)
    coming_is j l = timed-by.each j l ∙ timed_is j l

    alike : (j : ℕ) → j < o.tasks → Alike (comings_in times) (critical_comings o member i q w) j
    unfolding comes_from comes_up_to
    alike j l =
        let told = as_pattern from (from + q * period_of o i) (from + w) (eqb j i) (higher o member i j) (blocks o member i j) (apart j) in
        record {
          part = ap (λ (x : Option Coming). is_some x) (coming_is j l) ∙ told.part;
          ticks = λ some. (
            ap first_tick (coming_is j l) ∙ (told.ticks some).0 ∙ ap (pick (blocks o member i j) 0) begins,
            ap last_tick (coming_is j l) ∙ (told.ticks some).1 ∙ ap (λ (x : ℕ). pick (eqb j i) (x + q * period_of o i) (pick (higher o member i j) (x + w) 0)) begins,
          );
        }

    pub late_times : LateTimes o b i times
    late_times =
        let early = late_early o member i named.limits named.known q w first in
        let fits : (j : ℕ) (coming : Coming) → j < o.tasks → coming_of times j ≡ Some coming → (coming.first ≤ coming.last) × (coming.last < most_ticks) = λ j coming l e.
        (timed_fits from (from + q * period_of o i) (from + w) (omega arith) (omega arith) (omega (arith, early.0)) (omega (arith, early.1)) (eqb j i) (higher o member i j) (blocks o member i j) coming (sym (coming_is j l) ∙ e)) in
        record {
          fit = record { places = timed-by.places; some = λ j coming l e. (fits j coming l e).0; small = λ j coming l e. (fits j coming l e).1 };
          are = λ tick task. same_coming o (comings_in times) (critical_comings o member i q w) tick task (alike task)
              ∙ sym (ap (λ (p : ℕ). critical_pattern o member i p (late_start o member i) tick task) (late_job_is o member i named.limits named.known q w first)
              ∙ ap (λ (v : ℕ). critical_pattern o member i q v tick task) (late_start_is o member i named.limits named.known q w first));
        }
