-- A line: its four fields, the test tells, the task is the one typed, and no line feed is in it.
use mathlib.Core.Path.{◌≡◌, refl, sym, ap, ◌∙◌}
use mathlib.Core.Bool.{true}
use mathlib.Core.List.{List, ◌∷◌, ◌++◌}
use Prim.Native.Nat.{ℕ, suc}
use native.Mathlib.Omega.{arith}
use lib.Dec.{eqb, leb}
use borrow.Author.Tests.{eqb-true, le-leb, leb-true}
use Rattle.laws.proofs.Choice.{both}
use Rattle.model.specs.declared.order.Task.{Task}
use Rattle.form.specs.Bytes.{semicolon, is_semicolon, is_line_feed}
use Rattle.form.specs.Parts.{count}
use Rattle.form.specs.Numbers.{value_of, is_number, most_typed}
use Rattle.form.specs.Times.{is_time, ticks_of}
use Rattle.form.specs.Lines.{IsLine, line_field, is_line, line_task, NumbersFit, numbers_fit}
use Rattle.form.proofs.Parts.{count-append, count_cons, count_at, cut_byte, part_first, part_next, part-only, part_last, behind_all_none}
use Rattle.form.proofs.Bytes.{digit_no_semicolon, digit_no_line_feed}
use Rattle.form.proofs.Numbers.{digits_none, number_true, true_number}
use Rattle.form.proofs.Times.{time_true, true_time, time_no_semicolon, time_no_line_feed}

-- a line as its four fields, joined by semicolons
abbrev four_fields : (width period deadline run : List ℕ) → List ℕ
four_fields width period deadline run = width ++ (semicolon ∷ (period ++ (semicolon ∷ (deadline ++ (semicolon ∷ run)))))

-- what the test of a line says of its fields
record Passed (line : List ℕ) : Type 0 where
  pub four : count is_semicolon line ≡ 3
  pub number : is_number (line_field 0 line) ≡ true
  pub period_time : is_time (line_field 1 line) ≡ true
  pub deadline_time : is_time (line_field 2 line) ≡ true
  pub run_time : is_time (line_field 3 line) ≡ true

passed_true : (line : List ℕ) → is_line line ≡ true → Passed line
unfolding is_line
passed_true line e =
    let a = both (eqb (count is_semicolon line) 3) _ e in
    let b = both (is_number (line_field 0 line)) _ a.1 in
    let c = both (is_time (line_field 1 line)) _ b.1 in
    let d = both (is_time (line_field 2 line)) _ c.1 in
    record { four = eqb-true (count is_semicolon line) 3 a.0; number = b.0; period_time = c.0; deadline_time = d.0; run_time = d.1 }

true_passed : (line : List ℕ) → Passed line → is_line line ≡ true
unfolding is_line
true_passed line p = rw (p.four, p.number, p.period_time, p.deadline_time, p.run_time)

-- four fields cut out are the line
fields_are : (line : List ℕ) → count is_semicolon line ≡ 3 → line ≡ four_fields (line_field 0 line) (line_field 1 line) (line_field 2 line) (line_field 3 line)
fields_are line four =
    let first = sym (behind_all_none is_semicolon line) ∙ cut_byte semicolon 0 line (omega arith) in
    let second = cut_byte semicolon 1 line (omega arith) in
    let third = cut_byte semicolon 2 line (omega arith) in
    let fourth = part_last is_semicolon 3 line four in
    let ended : List ℕ → List ℕ → List ℕ = λ field rest. field ++ (semicolon ∷ rest) in
    first ∙ ap (ended (line_field 0 line)) (second ∙ ap (ended (line_field 1 line)) (third ∙ ap (ended (line_field 2 line)) (sym fourth)))

pub line_true : (line : List ℕ) → is_line line ≡ true → IsLine line (line_task line)
unfolding line_task
line_true line e =
    let p = passed_true line e in
    record {
      width_typed = line_field 0 line;
      period_typed = line_field 1 line;
      deadline_typed = line_field 2 line;
      run_typed = line_field 3 line;
      bytes = fields_are line p.four;
      width = number_true _ p.number;
      period = time_true _ p.period_time;
      deadline = time_true _ p.deadline_time;
      run = time_true _ p.run_time;
    }

-- tasks of the same four numbers
same_task : (one other : Task) → one.width ≡ other.width → one.period ≡ other.period → one.deadline ≡ other.deadline → one.run ≡ other.run → one ≡ other
same_task one other width period deadline run =
    let made : ℕ → ℕ → ℕ → ℕ → Task = λ w p d r. record { width = w; period = p; deadline = d; run = r } in
    let e : made one.width one.period one.deadline one.run ≡ made other.width other.period other.deadline other.run = rw (width, period, deadline, run) in
    e

-- a line that is typed has these four fields
module _ {line : List ℕ} {t : Task} (l : IsLine line t) where
  width_none : count is_semicolon l.width_typed ≡ 0
  width_none = digits_none is_semicolon digit_no_semicolon l.width_typed l.width.digits

  period_none : count is_semicolon l.period_typed ≡ 0
  period_none = time_no_semicolon l.period_typed t.period l.period

  deadline_none : count is_semicolon l.deadline_typed ≡ 0
  deadline_none = time_no_semicolon l.deadline_typed t.deadline l.deadline

  run_none : count is_semicolon l.run_typed ≡ 0
  run_none = time_no_semicolon l.run_typed t.run l.run

  -- the line from each field on
  abbrev from_deadline : List ℕ
  from_deadline = l.deadline_typed ++ (semicolon ∷ l.run_typed)

  abbrev from_period : List ℕ
  from_period = l.period_typed ++ (semicolon ∷ from_deadline)

  -- a field past the first is one of what follows it
  next_of : (n : ℕ) → line_field (suc n) line ≡ line_field n from_period
  next_of n = ap (line_field (suc n)) l.bytes ∙ part_next is_semicolon l.width_typed semicolon from_period n width_none refl

  next_next_of : (n : ℕ) → line_field (suc (suc n)) line ≡ line_field n from_deadline
  next_next_of n = next_of (suc n) ∙ part_next is_semicolon l.period_typed semicolon from_deadline n period_none refl

  pub width_field : line_field 0 line ≡ l.width_typed
  width_field = ap (line_field 0) l.bytes ∙ part_first is_semicolon l.width_typed semicolon from_period width_none refl

  pub period_field : line_field 1 line ≡ l.period_typed
  period_field = next_of 0 ∙ part_first is_semicolon l.period_typed semicolon from_deadline period_none refl

  pub deadline_field : line_field 2 line ≡ l.deadline_typed
  deadline_field = next_next_of 0 ∙ part_first is_semicolon l.deadline_typed semicolon l.run_typed deadline_none refl

  pub run_field : line_field 3 line ≡ l.run_typed
  run_field = next_next_of 1 ∙ part_next is_semicolon l.deadline_typed semicolon l.run_typed 0 deadline_none refl ∙ part-only is_semicolon l.run_typed run_none

  pub true_line : is_line line ≡ true
  true_line =
      true_passed line (record {
        four = ap (count is_semicolon) l.bytes ∙ omega (
          arith,
          width_none,
          period_none,
          deadline_none,
          run_none,
          count_at is_semicolon l.width_typed semicolon from_period width_none refl,
          count_at is_semicolon l.period_typed semicolon from_deadline period_none refl,
          count_at is_semicolon l.deadline_typed semicolon l.run_typed deadline_none refl,
        );
        number = ap is_number width_field ∙ true_number _ _ l.width;
        period_time = ap is_time period_field ∙ (true_time _ _ l.period).0;
        deadline_time = ap is_time deadline_field ∙ (true_time _ _ l.deadline).0;
        run_time = ap is_time run_field ∙ (true_time _ _ l.run).0;
      })

  pub line_task_lem : t ≡ line_task line
  unfolding line_task
  line_task_lem =
      let width_same : t.width ≡ value_of (line_field 0 line) = l.width.valued ∙ sym (ap value_of width_field) in
      let period-same : t.period ≡ ticks_of (line_field 1 line) = (true_time _ _ l.period).1 ∙ sym (ap ticks_of period_field) in
      let deadline-same : t.deadline ≡ ticks_of (line_field 2 line) = (true_time _ _ l.deadline).1 ∙ sym (ap ticks_of deadline_field) in
      let run-same : t.run ≡ ticks_of (line_field 3 line) = (true_time _ _ l.run).1 ∙ sym (ap ticks_of run_field) in
      same_task t (line_task line) width_same period-same deadline-same run-same

  -- no line feed is in it
  pub line_no_line_feed : count is_line_feed line ≡ 0
  line_no_line_feed =
      ap (count is_line_feed) l.bytes
      ∙ omega (
        arith,
        digits_none is_line_feed digit_no_line_feed l.width_typed l.width.digits,
        time_no_line_feed l.period_typed t.period l.period,
        time_no_line_feed l.deadline_typed t.deadline l.deadline,
        time_no_line_feed l.run_typed t.run l.run,
        count-append is_line_feed l.width_typed (semicolon ∷ from_period),
        count_cons is_line_feed semicolon from_period,
        count-append is_line_feed l.period_typed (semicolon ∷ from_deadline),
        count_cons is_line_feed semicolon from_deadline,
        count-append is_line_feed l.deadline_typed (semicolon ∷ l.run_typed),
        count_cons is_line_feed semicolon l.run_typed,
      )

pub line_once : (line : List ℕ) (one other : Task) → IsLine line one → IsLine line other → one ≡ other
line_once line one other l m = line_task_lem l ∙ sym (line_task_lem m)

-- 51: the test tells
pub fit_true : (t : Task) → numbers_fit t ≡ true → NumbersFit t
unfolding numbers_fit
fit_true t e =
    let a = both (leb t.width most_typed) _ e in
    let b = both (leb t.period most_typed) _ a.1 in
    let c = both (leb t.deadline most_typed) _ b.1 in
    record { width = leb-true _ _ a.0; period = leb-true _ _ b.0; deadline = leb-true _ _ c.0; run = leb-true _ _ c.1 }

pub true_fit : (t : Task) → NumbersFit t → numbers_fit t ≡ true
unfolding numbers_fit
true_fit t n = rw (le-leb _ _ n.width, le-leb _ _ n.period, le-leb _ _ n.deadline, le-leb _ _ n.run)
