-- The parts of `late`, one after the other: what each hands on, and what is answered and left.
use Rattle.std.specs.Prelude.{Ok, Err, Some, None, Result}
use mathlib.Core.Path.{◌≡◌, sym, ap, ◌∙◌, subst₂}
use mathlib.Core.List.{List}
use Prim.Native.Nat.{ℕ, ◌≤◌}
use native.Mathlib.Omega.{arith}
use lib.ListN.{length}
use Rattle.model.specs.declared.order.Order.{Order}
use Rattle.model.specs.declared.build.Build.{Build}
use Rattle.model.specs.declared.build.Release.{Release}
use Rattle.model.specs.Kinds.{Answer}
use Rattle.model.specs.declared.answer.Refusal.{Refusal}
use Rattle.model.specs.declared.answer.Refusal.TheVariants.{OfLate}
use Rattle.model.specs.declared.answer.LateCause.TheVariants.{NotLate}
use Rattle.model.specs.Answer.{output_after}
use Rattle.model.specs.Layouts.{script_length}
use Rattle.model.specs.Limits.{most_partitions, most_tasks}
use Rattle.model.specs.Rules.{first_broken, given}
use Rattle.model.proofs.Output.{after_refused}
use Rattle.model.proofs.Rules.{refused_given, done_given}
use Rattle.order.specs.Order.{order_at, order_rules}
use Rattle.build.specs.declared.BuildHeader.{BuildHeader}
use Rattle.build.specs.declared.BuildTaken.{BuildTaken}
use Rattle.build.specs.Build.{build_header_of}
use Rattle.build.specs.Taken.{TakesBuild}
use Rattle.inspect.specs.Rules.{check_answer, Checks}
use Rattle.inspect.proofs.Turn.{header_passed}
use Rattle.script.specs.Script.{script_bytes}
use Rattle.late_find.specs.Found.{NamedLate}
use Rattle.late.specs.Shown.{late_task, RefusedLate, script_showing, shown_script, show_rules, ShowsScript, ShowsLate}
use Rattle.late.proofs.Named.{layout_passes, named_late}
use Rattle.late.proofs.Answers.{named_at, shows_the_named, order_stops, not_late, late_on}

module _ (order build : List ℕ) {reading : Result Order Refusal} (is : reading ≡ given (order_at order) (first_broken 0 (order_rules order))) where
  pub shows_order : (output : List ℕ) {cause : Refusal} → reading ≡ Err cause → ShowsLate order build output (Err cause) output
  shows_order output {cause} e =
      record {
        answered = sym (order_stops order build (length output) cause (refused_given _ _ (sym is ∙ e)));
        written = sym (after_refused cause (script_bytes (shown_script order build)) output);
      }

  module _ {read : Order} (done : reading ≡ Ok read) {checked : Answer} (checks : Checks order build checked) where
    accepted : (count : ℕ) × (first_broken 0 (order_rules order) ≡ Ok count) × (read ≡ order_at order)
    accepted = done_given _ _ (sym is ∙ done)

    pub shows_not_late : (output : List ℕ) → late_task checked ≡ None → ShowsLate order build output (Err (OfLate NotLate)) output
    shows_not_late output none =
        record {
          answered = sym (not_late order build (length output) accepted.1 (ap late_task (sym checks) ∙ none));
          written = sym (after_refused (OfLate NotLate) (script_bytes (shown_script order build)) output);
        }

    module _ {task : ℕ} (at : late_task checked ≡ Some task) where
      refused : RefusedLate order build task
      refused = named_at (check_answer order build) task (ap late_task (sym checks) ∙ at)

      -- the build's header was right, so the build can be taken
      pub takes : {header : BuildHeader} → header ≡ build_header_of build → (header ≡ build_header_of build) × (header.partitions ≤ most_partitions) × (header.tasks ≤ most_tasks)
      takes e =
          let right = header_passed (order_at order) build (layout_passes order build task refused) in
          let limits = (named_late order build task refused).limits in
          (e, rw e right.partitions.1, rw e (omega (arith, right.tasks, limits.tasks.1)))

      module _ {taken : BuildTaken} (so : TakesBuild build taken) where
        pub names : NamedLate read taken.build task
        names = subst₂ (λ (o : Order) (b : Build). NamedLate o b task) (sym accepted.2) (sym so.1) (named_late order build task refused)

        -- the script that is shown
        script_is : script_showing read taken.build task ≡ shown_script order build
        script_is =
            ap (λ (o : Order). script_showing o taken.build task) accepted.2 ∙ ap (λ (b : Build). script_showing (order_at order) b task) so.1
            ∙ sym (shows_the_named order build task refused)

        pub shows_late : (output : List ℕ) {answer : Answer} {after : List ℕ} → ShowsScript read taken.build task output answer after → ShowsLate order build output answer after
        shows_late output {answer} {after} shows =
            let next = late_on order build (length output) task accepted.1 (ap late_task (sym checks) ∙ at) in
            record {
              answered = shows.answers ∙ ap (λ (script : List Release). first_broken (script_length 1 (length script)) (show_rules script (length output))) script_is ∙ sym next;
              written = shows.leaves ∙ ap (λ (script : List Release). output_after answer (script_bytes script) output) script_is;
            }
