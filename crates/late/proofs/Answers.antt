-- The answer part by part: the order's refusals, 63, then 64 and 12 of the script.
use Rattle.std.specs.Prelude.{Ok, Err, Some, None}
use mathlib.Core.Path.{◌≡◌, refl, sym, ap, ◌∙◌}
use mathlib.Core.Bool.{true}
use mathlib.Core.List.{List}
use Prim.Native.Nat.{ℕ, ◌≤◌, ◌<◌}
use lib.ListN.{length}
use borrow.Author.Tests.{le-leb, lt-leb}
use Rattle.laws.proofs.Every.{clash}
use Rattle.model.specs.declared.build.Release.{Release}
use Rattle.model.specs.Kinds.{Answer}
use Rattle.model.specs.declared.answer.Refusal.{Refusal}
use Rattle.model.specs.declared.answer.Refusal.TheVariants.{OfOrder, OfCall, OfBuild, OfScript, OfText, OfList, OfLate}
use Rattle.model.specs.declared.answer.BuildCause.{BuildCause}
use Rattle.model.specs.declared.answer.BuildCause.TheVariants.{BuildShort, BuildMismatch, BuildLength, BuildSpare, PartitionPlace, TaskPartition, Rank, Window, Start, Late, Response}
use Rattle.model.specs.declared.answer.CallCause.TheVariants.{Output}
use Rattle.model.specs.declared.answer.LateCause.TheVariants.{NotLate, ManyRecords}
use Rattle.model.specs.Layouts.{script_length}
use Rattle.model.specs.Limits.{most_records}
use Rattle.model.specs.Rules.{TestsTell, Tells, first_broken, room_rules}
use Rattle.model.proofs.Rules.{pass_on, stop, done_pass, any_count, room_stop, room_on, room_tells, at_most_tells, tell_append}
use Rattle.order.specs.Order.{order_at, order_rules}
use Rattle.order.proofs.Rules.{order_tells}
use Rattle.build.specs.Build.{build_at}
use Rattle.search.specs.Smallest.{number_found}
use Rattle.demand.proofs.Largest.{at_one}
use Rattle.verdict.specs.Tested.{is_there}
use Rattle.inspect.specs.Rules.{check_answer}
use Rattle.late.specs.Shown.{late_in_build, late_in_refusal, late_task, RefusedLate, script_showing, shown_script, show_rules, late_rules, late_answer}

-- an answer that names a late task is 29 for it
named_in_build : (cause : BuildCause) → is_there (late_in_build cause) ≡ true → (task : ℕ) × (cause ≡ Late task)
named_in_build BuildShort e = clash e
named_in_build BuildMismatch e = clash e
named_in_build BuildLength e = clash e
named_in_build BuildSpare e = clash e
named_in_build (PartitionPlace p) e = clash e
named_in_build (TaskPartition i) e = clash e
named_in_build (Rank i) e = clash e
named_in_build (Window i) e = clash e
named_in_build (Start i) e = clash e
named_in_build (Late i) e = (i, refl)
named_in_build (Response i) e = clash e

named_in_refusal : (cause : Refusal) → is_there (late_in_refusal cause) ≡ true → (task : ℕ) × (cause ≡ OfBuild (Late task))
named_in_refusal (OfOrder cause) e = clash e
named_in_refusal (OfCall cause) e = clash e
named_in_refusal (OfBuild cause) e = let r = named_in_build cause e in (r.0, ap OfBuild r.1)
named_in_refusal (OfScript cause) e = clash e
named_in_refusal (OfText cause) e = clash e
named_in_refusal (OfList cause) e = clash e
named_in_refusal (OfLate cause) e = clash e

pub named_in : (answer : Answer) → is_there (late_task answer) ≡ true → (task : ℕ) × (answer ≡ Err (OfBuild (Late task)))
named_in (Ok count) e = clash e
named_in (Err cause) e = let r = named_in_refusal cause e in (r.0, ap Err r.1)

-- and the task is that one
pub named_at : (answer : Answer) (task : ℕ) → late_task answer ≡ Some task → answer ≡ Err (OfBuild (Late task))
named_at answer task e =
    let is = named_in answer (ap is_there e) in
    let same : is.0 ≡ task = at_one is.0 task (sym (ap late_task is.1) ∙ e) in
    is.1 ∙ ap (λ (t : ℕ). Err (OfBuild (Late t))) same

named_is : (order build : List ℕ) (task : ℕ) → RefusedLate order build task → late_task (check_answer order build) ≡ Some task
named_is order build task refused = ap late_task refused

-- the script of the task which the check names
pub shows_the_named : (order build : List ℕ) (task : ℕ) → RefusedLate order build task → shown_script order build ≡ script_showing (order_at order) (build_at build) task
unfolding shown_script
shows_the_named order build task refused = ap (λ (t : ℕ). script_showing (order_at order) (build_at build) t) (ap number_found (named_is order build task refused))

-- 64, then 12
module _ (count : ℕ) (script : List Release) (room : ℕ) where
  pub too_many : most_records < length script → first_broken count (show_rules script room) ≡ Err (OfLate ManyRecords)
  unfolding show_rules first_broken
  too_many more = rw (lt-leb (length script) most_records more)

  few_on : length script ≤ most_records → first_broken count (show_rules script room) ≡ first_broken count (room_rules (script_length 1 (length script)) room)
  unfolding show_rules first_broken
  few_on few = rw (le-leb (length script) most_records few)

  pub no_room : length script ≤ most_records → room < script_length 1 (length script) → first_broken count (show_rules script room) ≡ Err (OfCall Output)
  no_room few short = few_on few ∙ room_stop count _ room short

  pub shown : length script ≤ most_records → script_length 1 (length script) ≤ room → first_broken count (show_rules script room) ≡ Ok count
  shown few fits = few_on few ∙ room_on count _ room fits

  pub show_tells : TestsTell (show_rules script room)
  unfolding show_rules TestsTell
  show_tells = (at_most_tells (length script) most_records, λ _. room_tells (script_length 1 (length script)) room)

module _ (order build : List ℕ) (room : ℕ) where
  abbrev size : ℕ
  size = script_length 1 (length (shown_script order build))

  pub order_stops : (cause : Refusal) → first_broken 0 (order_rules order) ≡ Err cause → late_answer order build room ≡ Err cause
  unfolding late_answer late_rules
  order_stops cause e = stop size (order_rules order) _ cause (any_count 0 size (order_rules order) cause e)

  -- 63
  pub not_late : {count : ℕ} → first_broken 0 (order_rules order) ≡ Ok count → late_task (check_answer order build) ≡ None → late_answer order build room ≡ Err (OfLate NotLate)
  unfolding late_answer late_rules first_broken
  not_late read e = pass_on size (order_rules order) _ (done_pass 0 (order_rules order) read) ∙ rw e

  pub late_on : {count : ℕ} (task : ℕ) → first_broken 0 (order_rules order) ≡ Ok count → late_task (check_answer order build) ≡ Some task
      → late_answer order build room ≡ first_broken size (show_rules (shown_script order build) room)
  unfolding late_answer late_rules first_broken
  late_on task read e = pass_on size (order_rules order) _ (done_pass 0 (order_rules order) read) ∙ rw e

  named_tells : Tells (record { says = (task : ℕ) × RefusedLate order build task; test = is_there (late_task (check_answer order build)) })
  named_tells = (named_in (check_answer order build), λ is. ap is_there (named_is order build is.0 is.1))

  pub late_tells : TestsTell (late_rules order build room)
  unfolding late_rules TestsTell
  late_tells = tell_append (order_rules order) _ (order_tells order) (λ _. (named_tells, λ _. show_tells size (shown_script order build) room))
