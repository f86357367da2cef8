-- What the lines of a text give: 50 and 51 line by line, and the table where they hold.
use Rattle.std.specs.Prelude.{ℕ, List}
use Rattle.laws.specs.Joined.{joined, filled}
use Rattle.model.specs.declared.order.Task.{Task}
use Rattle.model.specs.Kinds.{Answer}
use Rattle.model.specs.Limits.{most_tasks, zero_task}
use Rattle.model.specs.Rules.{first_broken}
use Rattle.form.specs.Text.{typed_task}
use Rattle.text.specs.Read.{line_rules}

-- 50 and 51 of so many lines
abbrev pub lines_answer : List ℕ → ℕ → Answer
lines_answer text lines = first_broken 0 (joined (line_rules text) lines)

-- so many tasks that are typed, zero past them
abbrev pub typed_table : List ℕ → ℕ → List Task
typed_table text lines = filled (typed_task text) zero_task most_tasks lines
