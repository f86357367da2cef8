-- 29 in the box: the script is legal and misses, as records and as bytes.
use Rattle.std.specs.Prelude.{Ok}
use mathlib.Core.Path.{◌≡◌, refl, sym, ap, ◌∙◌, subst, subst₂}
use mathlib.Core.Bool.{Bool, true, false}
use mathlib.Core.List.{List}
use mathlib.Core.Logic.{◌≢◌}
use Prim.Native.Nat.{ℕ, ◌≤◌, ◌<◌}
use native.Mathlib.Omega.{arith}
use lib.ListN.{length, take}
use lib.Seq.{take_at}
use lib.Dec.{ltb}
use Rattle.laws.specs.Choice.{pick}
use Rattle.bits.specs.Layout.{FitIn}
use Rattle.model.specs.declared.order.Order.{Order}
use Rattle.model.specs.declared.build.Build.{Build}
use Rattle.model.specs.declared.build.Release.{Release}
use Rattle.model.specs.Layouts.{release_record, script_length}
use Rattle.model.specs.Limits.{home_of, most_records, cost}
use Rattle.model.specs.Rules.{WithinLimits}
use Rattle.order.specs.Order.{order_at}
use Rattle.build.specs.Build.{build_at}
use Rattle.demand.specs.Priority.{Members, members_of}
use Rattle.demand.specs.Test.{blocking}
use Rattle.demand.proofs.Demands.{sized_of, cost_of_most}
use Rattle.machine.specs.Pattern.{LegalScript, run_of, record_of, pattern_of}
use Rattle.machine.specs.Box.{Finishes}
use Rattle.machine.proofs.Script.{joins_at_lem, legal_script_is_legal, record_released}
use Rattle.machine.proofs.Isolation.{home_member}
use Rattle.machine.proofs.Box.{finishes_once}
use Rattle.finish.specs.Finish.{finish_of}
use Rattle.finish.proofs.Finish.{every_job_finishes}
use Rattle.script.specs.Script.{release_numbers, records_in, script_of, script_bytes}
use Rattle.script.specs.Claims.{ScriptAccepted}
use Rattle.script.proofs.Back.{bytes_length, records_back, script_back, spares_back}
use Rattle.critical.specs.Pattern.{begin}
use Rattle.critical.specs.Late.{late_job, late_start}
use Rattle.critical.specs.Claims.{IsMember, Misses, LateScriptMisses}
use Rattle.critical.proofs.Legal.{critical_is_legal}
use Rattle.critical.proofs.Late.{too_late_has_first, too_late_misses}
use Rattle.late_find.specs.Found.{NamedLate}
use Rattle.late.specs.Shown.{script_showing, shown_script}
use Rattle.late.specs.Claims.{RefusedLateIsLate, LateInBytes, WrittenIsLate}
use Rattle.late.proofs.Named.{named_late}
use Rattle.late.proofs.Answers.{shows_the_named}
use Rattle.late.proofs.Claims.{shown_exactly}

-- a task in the members of its own partition
pub in_its_own : (o : Order) (b : Build) (i : ℕ) → NamedLate o b i → IsMember o (members_of b (home_of b i)) i
in_its_own o b i named = record { limits = named.limits; known = named.known; its_own = home_member b (home_of b i) i refl }

-- it begins at tick 0 or 1
pub begin_small : (o : Order) (member : Members) (i : ℕ) → begin o member i ≤ 1
unfolding begin
begin_small o member i = go (ltb 0 (blocking o member i))
  where
    go : (blocked : Bool) → pick blocked 1 0 ≤ 1
    go true = omega arith
    go false = omega arith

-- a run time of an order within the limits
run_small : (o : Order) → WithinLimits o → (task : ℕ) → task < o.tasks → run_of o task ≤ 1_000_000
unfolding cost
run_small o limits task known = cost_of_most o limits task known

misses_here : (o : Order) (b : Build) (i : ℕ) → NamedLate o b i → LateScriptMisses o (members_of b (home_of b i)) i
misses_here o b i named = too_late_misses o (members_of b (home_of b i)) i (in_its_own o b i named) named.late

pub refused_late_is_late : RefusedLateIsLate
unfolding Finishes
refused_late_is_late order build i refused =
    let here = misses_here (order_at order) (build_at build) i (named_late order build i refused) in
    let m = here.misses in
    record { legal = here.legal; release = m.release; finish = m.finish; comes = m.comes; finishes = m.finishes; late = m.late; earlier = here.earlier }

-- the script that shows a task late, as bytes
module _ (o : Order) (b : Build) (i : ℕ) (named : NamedLate o b i) where
  abbrev script : List Release
  script = script_showing o b i

  abbrev member : Members
  member = members_of b (home_of b i)

  legal : LegalScript o script
  legal = (misses_here o b i named).legal

  early : (j : ℕ) → j < length script → (record_of script j).tick < 1_048_576
  early j below =
      let found = too_late_has_first o member i (in_its_own o b i named) named.late in
      let to_start = critical_is_legal o member i (late_job o member i) (late_start o member i) (in_its_own o b i named) found.in_window in
      let r = record_of script j in
      omega (
        arith,
        to_start.ends.early r.tick r.task (subst (0 <◌) (to_start.same r.tick r.task) (record_released o script legal j below)),
        found.first.starts.upto,
        begin_small o member i,
      )

  short : (j : ℕ) → j < length script → (record_of script j).duration < 1_048_576
  short j below = omega (arith, (legal.durations j below).1, run_small o named.limits (record_of script j).task (legal.known j below))

  fits : (j : ℕ) → j < length script → FitIn (release_record 1) (release_numbers (record_of script j) 0)
  fits j below = (early j below, (omega (arith, legal.known j below, named.limits.tasks.1), (short j below, (omega arith, tt))))

  back : script_of (script_bytes script) ≡ script
  back = script_back script fits

  accepted : length script ≤ most_records → ScriptAccepted o (script_bytes script) (records_in (script_bytes script))
  accepted few =
      let same = records_back script in
      record {
        whole = bytes_length script ∙ ap (script_length 1) (sym same);
        few = omega (arith, same, few);
        room = omega arith;
        spares = λ j below. spares_back script fits j (omega (arith, same, below));
        legal = subst (LegalScript o) (sym back) legal;
      }

  abbrev missed : Misses o member i script
  missed = (misses_here o b i named).misses

  -- the record of the job that misses
  last_record : (j : ℕ) × (j < length script) × ((record_of script j).tick ≡ missed.release) × ((record_of script j).task ≡ i)
  last_record =
      let r = (legal_script_is_legal o script legal).no_others missed.release i missed.comes in
      (r.0, r.1, sym (joins_at_lem (record_of script r.0)) ∙ r.2, r.3)

  none_later : (j : ℕ) → last_record.0 < j → j < length script → (record_of script j).task ≢ i
  none_later j later below same =
      let k = last_record.0 in
      let gap = legal.apart k j later below (last_record.3 ∙ sym same) in
      let some : 0 < pattern_of script (record_of script j).tick i = subst (λ (t : ℕ). 0 < pattern_of script (record_of script j).tick t) same (record_released o script legal j below) in
      let some-time = (sized_of o named.limits (record_of script k).task (legal.known k last_record.1)).period_least in
      omega (arith, some, missed.its_last (record_of script j).tick (omega (arith, gap, some-time, last_record.2)))

  finish_is : length script ≤ most_records → finish_of o b script last_record.0 ≡ missed.finish
  unfolding Finishes
  finish_is few =
      let k = last_record.0 in
      let r = record_of script k in
      let finishes = (every_job_finishes o b script legal (record { few = few; early = early; brief = short }) k last_record.1).finishes in
      finishes_once o b (pattern_of script) i missed.release (finish_of o b script k) missed.finish
      (subst₂ (λ (task tick : ℕ). Finishes o b (pattern_of script) task tick (finish_of o b script k)) last_record.3 last_record.2 finishes) missed.finishes

  pub late_in_bytes : length script ≤ most_records → LateInBytes o b i (script_bytes script)
  late_in_bytes few =
      let same = records_back script in
      record {
        accepted = accepted few;
        is_shown = back;
        last = last_record.0;
        inside = omega (arith, same, last_record.1);
        of_task = rw back last_record.3;
        none_later = λ j later below. rw back (none_later j later (omega (arith, same, below)));
        late = rw back (omega (arith, finish_is few, last_record.2, missed.late));
      }

pub written_is_late : WrittenIsLate
written_is_late order build output count after w =
    let is = (shown_exactly order build output (Ok count) after count w).0 refl in
    let i = is.0.0 in
    let o = order_at order in
    let b = build_at build in
    let same = shows_the_named order build i is.0.1 in
    let sized : length (script_bytes (shown_script order build)) ≡ count = bytes_length (shown_script order build) ∙ sym is.2 in
    let front : take count after ≡ script_bytes (script_showing o b i) = ap (take count) is.4 ∙ take_at (script_bytes (shown_script order build)) _ count sized ∙ ap script_bytes same in
    (i, is.0.1, subst (LateInBytes o b i) (sym front) (late_in_bytes o b i (named_late order build i is.0.1) (subst (λ (script : List Release). length script ≤ most_records) same is.1)))
