-- A line is taken exactly where its four fields are, one after the other.
use mathlib.Core.Path.{◌≡◌, refl, sym, ap, ◌∙◌}
use mathlib.Core.Bool.{true}
use mathlib.Core.List.{List, ◌∷◌, ◌++◌, append_assoc}
use Prim.Native.Nat.{ℕ, suc, ◌+◌}
use native.Mathlib.Omega.{arith}
use lib.ListN.{length, length-append}
use borrow.Author.Tests.{lt-ltb, ltb-true}
use Rattle.model.specs.declared.order.Task.{Task}
use Rattle.form.specs.Bytes.{semicolon, line_feed, is_line_feed, is_end}
use Rattle.form.specs.Parts.{count, up_to, behind_all}
use Rattle.form.specs.Numbers.{value_of, is_number}
use Rattle.form.specs.Times.{IsTime, is_time, ticks_of}
use Rattle.form.specs.Lines.{IsLine, is_line, line_task}
use Rattle.form.proofs.Parts.{up_to_at, count_at, cut_byte}
use Rattle.form.proofs.Numbers.{number_true, true_number}
use Rattle.form.proofs.Times.{time_true, true_time, time_none}
use Rattle.form.proofs.Lines.{line_true, true_line, line_task_lem, line_no_line_feed}
use Rattle.typed.specs.declared.FieldEnd.TheVariants.{Semicolon, LineFeed}
use Rattle.typed.specs.Taken.{field_of}
use Rattle.typed.proofs.Told.{digit_no_end, mark_no_end, no_ends}
use Rattle.typed_line.specs.Taken.{first_line, is_finished}
use Rattle.typed_line.proofs.Pieces.{is_taken, behind_field, FieldIs, field_taken, front_behind, front_taken}

time_no_ends : (s : List ℕ) (ticks : ℕ) → IsTime s ticks → count is_end s ≡ 0
time_no_ends s ticks t = time_none is_end digit_no_end mark_no_end s ticks t

-- four fields joined by semicolons, and before what ends them
abbrev four_fields : (width period deadline run : List ℕ) → List ℕ
four_fields width period deadline run = width ++ (semicolon ∷ (period ++ (semicolon ∷ (deadline ++ (semicolon ∷ run)))))

abbrev four_and : (width period deadline run rest : List ℕ) → List ℕ
four_and width period deadline run rest = width ++ (semicolon ∷ (period ++ (semicolon ∷ (deadline ++ (semicolon ∷ (run ++ (line_feed ∷ rest)))))))

four_and_lem : (width period deadline run rest : List ℕ) → four_and width period deadline run rest ≡ four_fields width period deadline run ++ (line_feed ∷ rest)
four_and_lem width period deadline run rest = rw (append_assoc width, append_assoc period, append_assoc deadline)

module _ (s : List ℕ) where
  abbrev pub after_width : List ℕ
  after_width = behind_field Semicolon is_number s

  abbrev pub after_period : List ℕ
  after_period = behind_field Semicolon is_time after_width

  abbrev pub after_deadline : List ℕ
  after_deadline = behind_field Semicolon is_time after_period

  abbrev four_line : List ℕ
  four_line = four_fields (field_of s) (field_of after_width) (field_of after_period) (field_of after_deadline)

  abbrev four_task : Task
  four_task = record { width = value_of (field_of s); period = ticks_of (field_of after_width); deadline = ticks_of (field_of after_period); run = ticks_of (field_of after_deadline) }

  -- all four are taken: they are the line, and its task
  module _ (w : is_taken Semicolon is_number s ≡ true) (p : is_taken Semicolon is_time after_width ≡ true) (d : is_taken Semicolon is_time after_period ≡ true) (r : is_taken LineFeed is_time after_deadline ≡ true) where
    abbrev width_is : FieldIs Semicolon is_number s
    width_is = field_taken Semicolon is_number s w

    abbrev period_is : FieldIs Semicolon is_time after_width
    period_is = field_taken Semicolon is_time after_width p

    abbrev deadline_is : FieldIs Semicolon is_time after_period
    deadline_is = field_taken Semicolon is_time after_period d

    abbrev run_is : FieldIs LineFeed is_time after_deadline
    run_is = field_taken LineFeed is_time after_deadline r

    whole : s ≡ four_line ++ (line_feed ∷ behind_field LineFeed is_time after_deadline)
    whole =
        width_is.cut ∙ ap (λ (rest : List ℕ). field_of s ++ (semicolon ∷ rest)) (period_is.cut ∙ ap (λ (rest : List ℕ). field_of after_width ++ (semicolon ∷ rest)) (deadline_is.cut
        ∙ ap (λ (rest : List ℕ). field_of after_period ++ (semicolon ∷ rest)) run_is.cut))
        ∙ four_and_lem (field_of s) (field_of after_width) (field_of after_period) (field_of after_deadline) (behind_field LineFeed is_time after_deadline)

    typed_line_lem : IsLine four_line four_task
    typed_line_lem =
        record {
          width_typed = field_of s;
          period_typed = field_of after_width;
          deadline_typed = field_of after_period;
          run_typed = field_of after_deadline;
          bytes = refl;
          width = number_true _ width_is.passed;
          period = time_true _ period_is.passed;
          deadline = time_true _ deadline_is.passed;
          run = time_true _ run_is.passed;
        }

    pub line_is : first_line s ≡ four_line
    unfolding first_line
    line_is = ap (up_to is_line_feed) whole ∙ up_to_at is_line_feed four_line line_feed (behind_field LineFeed is_time after_deadline) (line_no_line_feed typed_line_lem) refl

    pub finished : is_finished s ≡ true
    unfolding is_finished
    finished =
        let feeds : count is_line_feed s ≡ suc (count is_line_feed (behind_field LineFeed is_time after_deadline)) =
        ap (count is_line_feed) whole ∙ count_at is_line_feed four_line line_feed (behind_field LineFeed is_time after_deadline) (line_no_line_feed typed_line_lem) refl in
        lt-ltb 0 (count is_line_feed s) (omega (arith, feeds))

    pub shaped_line : is_line (first_line s) ≡ true
    shaped_line = ap is_line line_is ∙ true_line typed_line_lem

    pub task_is : four_task ≡ line_task (first_line s)
    task_is = line_task_lem typed_line_lem ∙ ap line_task (sym line_is)

    pub line_length : length (first_line s) ≡ length (field_of s) + suc (length (field_of after_width) + suc (length (field_of after_period) + suc (length (field_of after_deadline))))
    line_length = ap length line_is ∙ length-append (field_of s) _ ∙ ap (λ (n : ℕ). length (field_of s) + suc n) (length-append (field_of after_width) _ ∙ ap (λ (n : ℕ). length (field_of after_width) + suc n) (length-append (field_of after_period) _))

  -- a line, ended by a line feed: all four are taken
  module _ (ended : is_finished s ≡ true) (line : is_line (first_line s) ≡ true) where
    abbrev l : IsLine (first_line s) (line_task (first_line s))
    l = line_true (first_line s) line

    rest : List ℕ
    rest = behind_all is_line_feed 1 s

    pieces : s ≡ four_and l.width_typed l.period_typed l.deadline_typed l.run_typed rest
    unfolding first_line is_finished rest behind_all
    pieces =
        cut_byte line_feed 0 s (ltb-true 0 (count is_line_feed s) ended) ∙ ap (λ (line : List ℕ). line ++ (line_feed ∷ rest)) l.bytes
        ∙ sym (four_and_lem l.width_typed l.period_typed l.deadline_typed l.run_typed rest)

    width_no_ends : count is_end l.width_typed ≡ 0
    width_no_ends = no_ends l.width_typed l.width.digits

    -- field by field
    abbrev from_run : List ℕ
    from_run = l.run_typed ++ (line_feed ∷ rest)

    abbrev from_deadline : List ℕ
    from_deadline = l.deadline_typed ++ (semicolon ∷ from_run)

    abbrev from_period : List ℕ
    from_period = l.period_typed ++ (semicolon ∷ from_deadline)

    behind_width : after_width ≡ from_period
    behind_width = ap (behind_field Semicolon is_number) pieces ∙ front_behind Semicolon is_number l.width_typed from_period width_no_ends

    behind_period : after_period ≡ from_deadline
    behind_period = ap (behind_field Semicolon is_time) behind_width ∙ front_behind Semicolon is_time l.period_typed from_deadline (time_no_ends _ _ l.period)

    behind_deadline : after_deadline ≡ from_run
    behind_deadline = ap (behind_field Semicolon is_time) behind_period ∙ front_behind Semicolon is_time l.deadline_typed from_run (time_no_ends _ _ l.deadline)

    pub width_taken : is_taken Semicolon is_number s ≡ true
    width_taken = ap (is_taken Semicolon is_number) pieces ∙ front_taken Semicolon is_number l.width_typed from_period width_no_ends (true_number _ _ l.width)

    pub period_taken : is_taken Semicolon is_time after_width ≡ true
    period_taken = ap (is_taken Semicolon is_time) behind_width ∙ front_taken Semicolon is_time l.period_typed from_deadline (time_no_ends _ _ l.period) (true_time _ _ l.period).0

    pub deadline_taken : is_taken Semicolon is_time after_period ≡ true
    deadline_taken = ap (is_taken Semicolon is_time) behind_period ∙ front_taken Semicolon is_time l.deadline_typed from_run (time_no_ends _ _ l.deadline) (true_time _ _ l.deadline).0

    pub run_taken : is_taken LineFeed is_time after_deadline ≡ true
    run_taken = ap (is_taken LineFeed is_time) behind_deadline ∙ front_taken LineFeed is_time l.run_typed rest (time_no_ends _ _ l.run) (true_time _ _ l.run).0
