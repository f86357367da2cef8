-- "one line per task, `m;T;D;C`, ended by a line feed": a text, its lines and its order.
use Rattle.std.specs.Prelude.{ℕ, ◌+◌, ◌-◌, ◌<◌, ◌≡◌, Bool, true, false, List, [], ◌∷◌, ◌++◌, length, get_or}
use Rattle.laws.specs.Choice.{pick}
use Rattle.laws.specs.Joined.{joined, filled}
use Rattle.laws.specs.Sums.{only}
use Rattle.model.specs.declared.order.Task.{Task}
use Rattle.model.specs.declared.order.Order.{Order}
use Rattle.model.specs.Limits.{most_tasks, zero_task, task_of}
use Rattle.form.specs.Bytes.{line_feed, is_line_feed}
use Rattle.form.specs.Parts.{count, part}
use Rattle.form.specs.Lines.{IsLine, line_task}

-- a text is lines, each ended by a line feed: line i is of task i
pub record IsText (text : List ℕ) (o : Order) : Type 0 where
  pub lines : ℕ → List ℕ
  pub bytes : text ≡ joined (λ i. lines i ++ (line_feed ∷ [])) o.tasks
  pub each : (i : ℕ) → i < o.tasks → IsLine (lines i) (task_of o i)

-- line i of any bytes, cut at their line feeds
unfoldable pub typed_line : List ℕ → ℕ → List ℕ
typed_line text i = part is_line_feed i text

-- how many lines are ended by a line feed
abbrev pub finished_lines : List ℕ → ℕ
finished_lines text = count is_line_feed text

-- the last byte is no line feed
unfoldable pub is_unfinished : List ℕ → Bool
is_unfinished text = pick (is_line_feed (get_or text (length text - 1) line_feed)) false true

-- "lines, an unfinished last one counted"
unfoldable pub line_count : List ℕ → ℕ
line_count text = finished_lines text + only (is_unfinished text) 1

-- the task that is typed in line i
abbrev pub typed_task : List ℕ → ℕ → Task
typed_task text i = line_task (typed_line text i)

-- the order that is typed: "M comes as a number beside the text"
unfoldable pub text_order : ℕ → List ℕ → Order
text_order processors text =
    record {
      processors = processors;
      tasks = line_count text;
      table = filled (typed_task text) zero_task most_tasks (line_count text);
    }
