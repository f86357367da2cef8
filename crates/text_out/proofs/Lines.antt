-- The lines of a table's first tasks.
use mathlib.Core.List.{List}
use Prim.Native.Nat.{ℕ}
use lib.ListN.{get_or}
use Rattle.laws.specs.Joined.{joined}
use Rattle.model.specs.declared.order.Task.{Task}
use Rattle.model.specs.Limits.{zero_task}
use Rattle.form.specs.Written.{line_text}

-- the line of task i
abbrev pub line_of : List Task → ℕ → List ℕ
line_of table i = line_text (get_or table i zero_task)

abbrev pub lines_of : List Task → ℕ → List ℕ
lines_of table n = joined (line_of table) n
