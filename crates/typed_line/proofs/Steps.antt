-- Four fields taken one after the other from a text: the line that it begins with is taken, or it is none.
use mathlib.Core.Path.{◌≡◌, sym, ap, ◌∙◌, subst}
use mathlib.Core.Bool.{Bool, true, false}
use mathlib.Core.List.{List}
use Prim.Native.Nat.{ℕ, suc, ◌+◌}
use native.Mathlib.Omega.{arith}
use lib.ListN.{length, drop}
use lib.Seq.{drop-drop}
use Rattle.laws.specs.Choice.{pick}
use Rattle.laws.proofs.Choice.{both, refuted}
use Rattle.laws.proofs.Every.{clash}
use Rattle.model.specs.declared.order.Task.{Task}
use Rattle.form.specs.Numbers.{value_of, is_number}
use Rattle.form.specs.Times.{is_time, ticks_of}
use Rattle.form.specs.Lines.{is_line, line_task}
use Rattle.std.specs.Prelude.{Option, Some, None, is_some}
use Rattle.typed.specs.declared.FieldEnd.{FieldEnd}
use Rattle.typed.specs.declared.FieldEnd.TheVariants.{Semicolon, LineFeed}
use Rattle.typed.specs.Taken.{field_of, TakesFormField}
use Rattle.typed.proofs.Found.{of_some, of_none}
use Rattle.typed_line.specs.Taken.{first_line, is_finished, capped_task, TakesLine}
use Rattle.typed_line.proofs.Pieces.{is_taken, behind_field}
use Rattle.typed_line.proofs.Four.{after_width, after_period, after_deadline, finished, shaped_line, task_is, line_length, width_taken, period_taken, deadline_taken, run_taken}

-- behind a field that is taken, the next one begins
pub next_behind : (passes : List ℕ → Bool) (value : List ℕ → ℕ) (end : FieldEnd) (text : List ℕ) (at : ℕ) (found : Option ℕ) (next : ℕ)
    → TakesFormField passes value end (drop at text) at found next → (field : ℕ) → found ≡ Some field → drop next text ≡ behind_field end passes (drop at text)
next_behind passes value end text at found next taken field is-found =
    ap (λ (n : ℕ). drop n text) (taken.next_at field is-found) ∙ sym (drop-drop (suc (length (field_of (drop at text)))) at text)

-- where nothing is found, a test that tells whether something is does not pass
none_found : {A : Type 0} (found : Option A) (test : Bool) → found ≡ None → is_some found ≡ test → test ≡ true → ⊥
none_found found test none told h = clash (sym (ap is_some none) ∙ told ∙ h)

module _ (text : List ℕ) (at : ℕ) where
  abbrev typed : List ℕ
  typed = drop at text

  abbrev is_shaped : Bool
  is_shaped = pick (is_finished typed) (is_line (first_line typed)) false

  -- no line is taken
  none_taken : (next : ℕ) → (is_shaped ≡ true → ⊥) → TakesLine typed at None next
  none_taken next no_line = record { told = sym (refuted is_shaped no_line); typed = of_none _; next_at = of_none _ }

  module _ (width-found : Option ℕ) (width-next : ℕ) (takes-width : TakesFormField is_number value_of Semicolon typed at width-found width-next) where
    pub no_width : width-found ≡ None → TakesLine typed at None width-next
    no_width none = none_taken width-next (λ h. let l = both (is_finished typed) (is_line (first_line typed)) h in none_found _ _ none takes-width.told (width_taken typed l.0 l.1))

    module _ (width : ℕ) (width-good : width-found ≡ Some width) (period-found : Option ℕ) (period-next : ℕ)
        (takes-period : TakesFormField is_time ticks_of Semicolon (drop width-next text) width-next period-found period-next) where
      abbrev period_taken_at : TakesFormField is_time ticks_of Semicolon (after_width typed) width-next period-found period-next
      period_taken_at = subst (λ (s : List ℕ). TakesFormField is_time ticks_of Semicolon s width-next period-found period-next) (next_behind is_number value_of Semicolon text at width-found width-next takes-width width width-good) takes-period

      pub no_period : period-found ≡ None → TakesLine typed at None period-next
      no_period none = none_taken period-next (λ h. let l = both (is_finished typed) (is_line (first_line typed)) h in none_found _ _ none period_taken_at.told (period_taken typed l.0 l.1))

      module _ (period : ℕ) (period-good : period-found ≡ Some period) (deadline-found : Option ℕ) (deadline-next : ℕ)
          (takes-deadline : TakesFormField is_time ticks_of Semicolon (drop period-next text) period-next deadline-found deadline-next) where
        abbrev deadline_taken_at : TakesFormField is_time ticks_of Semicolon (after_period typed) period-next deadline-found deadline-next
        deadline_taken_at =
            subst (λ (s : List ℕ). TakesFormField is_time ticks_of Semicolon s period-next deadline-found deadline-next)
            (next_behind is_time ticks_of Semicolon text width-next period-found period-next takes-period period period-good ∙ ap (behind_field Semicolon is_time) (next_behind is_number value_of Semicolon text at width-found width-next takes-width width width-good))
            takes-deadline

        pub no_deadline : deadline-found ≡ None → TakesLine typed at None deadline-next
        no_deadline none = none_taken deadline-next (λ h. let l = both (is_finished typed) (is_line (first_line typed)) h in none_found _ _ none deadline_taken_at.told (deadline_taken typed l.0 l.1))

        module _ (deadline : ℕ) (deadline-good : deadline-found ≡ Some deadline) (run-found : Option ℕ) (run-next : ℕ)
            (takes-run : TakesFormField is_time ticks_of LineFeed (drop deadline-next text) deadline-next run-found run-next) where
          behind_deadline : drop deadline-next text ≡ after_deadline typed
          behind_deadline =
              next_behind is_time ticks_of Semicolon text period-next deadline-found deadline-next takes-deadline deadline deadline-good
              ∙ ap (behind_field Semicolon is_time) (next_behind is_time ticks_of Semicolon text width-next period-found period-next takes-period period period-good
              ∙ ap (behind_field Semicolon is_time) (next_behind is_number value_of Semicolon text at width-found width-next takes-width width width-good))

          abbrev run_taken_at : TakesFormField is_time ticks_of LineFeed (after_deadline typed) deadline-next run-found run-next
          run_taken_at = subst (λ (s : List ℕ). TakesFormField is_time ticks_of LineFeed s deadline-next run-found run-next) behind_deadline takes-run

          pub no_run : run-found ≡ None → TakesLine typed at None run-next
          no_run none = none_taken run-next (λ h. let l = both (is_finished typed) (is_line (first_line typed)) h in none_found _ _ none run_taken_at.told (run_taken typed l.0 l.1))

          module _ (run : ℕ) (run-good : run-found ≡ Some run) where
            w : is_taken Semicolon is_number typed ≡ true
            w = sym takes-width.told ∙ ap is_some width-good

            p : is_taken Semicolon is_time (after_width typed) ≡ true
            p = sym period_taken_at.told ∙ ap is_some period-good

            d : is_taken Semicolon is_time (after_period typed) ≡ true
            d = sym deadline_taken_at.told ∙ ap is_some deadline-good

            r : is_taken LineFeed is_time (after_deadline typed) ≡ true
            r = sym run_taken_at.told ∙ ap is_some run-good

            abbrev taken_task : Task
            taken_task = record { width = width; period = period; deadline = deadline; run = run }

            values : taken_task ≡ capped_task (record { width = value_of (field_of typed); period = ticks_of (field_of (after_width typed)); deadline = ticks_of (field_of (after_period typed)); run = ticks_of (field_of (after_deadline typed)) })
            values = rw (takes-width.valued width width-good, period_taken_at.valued period period-good, deadline_taken_at.valued deadline deadline-good, run_taken_at.valued run run-good)

            pub line_taken : TakesLine typed at (Some taken_task) run-next
            line_taken =
                record {
                  told = sym (rw (finished typed w p d r) (shaped_line typed w p d r));
                  typed = of_some (λ (task : Task). task ≡ capped_task (line_task (first_line typed))) _ (values ∙ ap capped_task (task_is typed w p d r));
                  next_at = of_some (λ (task : Task). run-next ≡ at + suc (length (first_line typed))) _ (omega (
                    arith,
                    takes-width.next_at width width-good,
                    period_taken_at.next_at period period-good,
                    deadline_taken_at.next_at deadline deadline-good,
                    run_taken_at.next_at run run-good,
                    line_length typed w p d r,
                  ));
                }
