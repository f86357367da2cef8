-- "one line per task, `m;T;D;C`": a line without its line feed, and its four numbers.
use Rattle.std.specs.Prelude.{ℕ, ◌≤◌, ◌≡◌, Bool, false, List, ◌∷◌, ◌++◌, eqb, leb}
use Rattle.laws.specs.Choice.{pick}
use Rattle.model.specs.declared.order.Task.{Task}
use Rattle.form.specs.Bytes.{semicolon, is_semicolon}
use Rattle.form.specs.Parts.{count, part}
use Rattle.form.specs.Numbers.{value_of, IsNumber, is_number, most_typed}
use Rattle.form.specs.Times.{IsTime, is_time, ticks_of}

-- a number, then three times, joined by semicolons: the task that is typed
pub record IsLine (line : List ℕ) (t : Task) : Type 0 where
  pub width_typed : List ℕ
  pub period_typed : List ℕ
  pub deadline_typed : List ℕ
  pub run_typed : List ℕ
  pub bytes : line ≡ width_typed ++ (semicolon ∷ (period_typed ++ (semicolon ∷ (deadline_typed ++ (semicolon ∷ run_typed)))))
  pub width : IsNumber width_typed t.width
  pub period : IsTime period_typed t.period
  pub deadline : IsTime deadline_typed t.deadline
  pub run : IsTime run_typed t.run

-- field j of a line, cut at its semicolons
abbrev pub line_field : ℕ → List ℕ → List ℕ
line_field j line = part is_semicolon j line

-- the same as a test: four fields, a number and three times
unfoldable pub is_line : List ℕ → Bool
is_line line =
    pick (eqb (count is_semicolon line) 3)
    (pick (is_number (line_field 0 line)) (pick (is_time (line_field 1 line)) (pick (is_time (line_field 2 line)) (is_time (line_field 3 line)) false) false) false)
    false

-- the task that is typed
unfoldable pub line_task : List ℕ → Task
line_task line =
    record {
      width = value_of (line_field 0 line);
      period = ticks_of (line_field 1 line);
      deadline = ticks_of (line_field 2 line);
      run = ticks_of (line_field 3 line);
    }

-- no "number over 1,048,575 (times in ticks)"
pub record NumbersFit (t : Task) : Type 0 where
  pub width : t.width ≤ most_typed
  pub period : t.period ≤ most_typed
  pub deadline : t.deadline ≤ most_typed
  pub run : t.run ≤ most_typed

unfoldable pub numbers_fit : Task → Bool
numbers_fit t = pick (leb t.width most_typed) (pick (leb t.period most_typed) (pick (leb t.deadline most_typed) (leb t.run most_typed) false) false) false
