-- What a line taken from a text holds, and where the next one begins; s is the text from where it is taken.
use Rattle.std.specs.Prelude.{ℕ, suc, ◌+◌, ◌≡◌, Bool, false, List, length, ltb, Option, is_some}
use Rattle.std.specs.Option.{ForSome}
use Rattle.laws.specs.Choice.{pick}
use Rattle.model.specs.declared.order.Task.{Task}
use Rattle.form.specs.Bytes.{is_line_feed}
use Rattle.form.specs.Parts.{count, up_to}
use Rattle.form.specs.Numbers.{capped}
use Rattle.form.specs.Lines.{is_line, line_task}

-- the line that s begins with, and whether a line feed ends it
unfoldable pub first_line : List ℕ → List ℕ
first_line s = up_to is_line_feed s

unfoldable pub is_finished : List ℕ → Bool
is_finished s = ltb 0 (count is_line_feed s)

-- each number as far as it matters
abbrev pub capped_task : Task → Task
capped_task t = record { width = capped t.width; period = capped t.period; deadline = capped t.deadline; run = capped t.run }

pub record TakesLine (s : List ℕ) (at : ℕ) (taken : Option Task) (next : ℕ) : Type 0 where
  pub told : is_some taken ≡ pick (is_finished s) (is_line (first_line s)) false
  pub typed : ForSome taken (λ task. task ≡ capped_task (line_task (first_line s)))
  pub next_at : ForSome taken (λ task. next ≡ at + suc (length (first_line s)))
