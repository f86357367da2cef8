-- The writer's two halves: columns make an order (13), and an order is written (3, 4, then task by task 7 to 10, then 12).
use Rattle.std.specs.Prelude.{ℕ, suc, ◌≤◌, ◌<◌, ◌^◌, min, ◌≡◌, Bool, false, List, ◌∷◌, ◌++◌, length, get_or, eqb}
use Rattle.laws.specs.Choice.{pick}
use Rattle.laws.specs.Joined.{filled}
use Rattle.bits.specs.Layout.{FitIn}
use Rattle.model.specs.declared.order.Task.{Task}
use Rattle.model.specs.declared.order.Order.{Order}
use Rattle.model.specs.Kinds.{Answer}
use Rattle.model.specs.declared.answer.Refusal.TheVariants.{OfOrder, OfCall}
use Rattle.model.specs.declared.answer.OrderCause.TheVariants.{Processors, Tasks}
use Rattle.model.specs.declared.answer.CallCause.TheVariants.{Columns}
use Rattle.model.specs.Limits.{most_tasks, most_processors, zero_task, task_of}
use Rattle.model.specs.Layouts.{task_record, order_length}
use Rattle.model.specs.Answer.{output_after}
use Rattle.model.specs.Rules.{Fact, Rule, rule, first_broken, in_range, range_rules, room_rules}
use Rattle.order.specs.Order.{task_numbers, order_bytes}
use Rattle.order_out.specs.declared.Columns.{Columns as Held}

-- an order is written: "3, 4, then task by task 7 to 10, then 12"
unfoldable pub written_rules : Order → (room : ℕ) → List Rule
written_rules o room =
    rule (in_range 1 most_processors o.processors) (OfOrder Processors)
    ∷ rule (in_range 1 most_tasks o.tasks) (OfOrder Tasks)
    ∷ (range_rules o ++ room_rules (order_length 1 o.tasks) room)

-- what writing an order promises: the answer, "count of bytes .. written", and all that the output holds
pub record WritesOrder (o : Order) (output : List ℕ) (answer : Answer) (after : List ℕ) : Type 0 where
  pub answered : answer ≡ first_broken (order_length 1 o.tasks) (written_rules o (length output))
  pub written : after ≡ output_after answer (order_bytes o) output

-- "The writer, given M and four columns of 32-bit numbers"
pub record TaskColumns : Type 0 where
  pub widths : List ℕ
  pub periods : List ℕ
  pub deadlines : List ℕ
  pub runs : List ℕ

abbrev pub columns : (widths periods deadlines runs : List ℕ) → TaskColumns
columns widths periods deadlines runs = record { widths = widths; periods = periods; deadlines = deadlines; runs = runs }

-- the columns that the writer holds
abbrev pub columns_of : Held → TaskColumns
columns_of held = columns held.widths.now held.periods.now held.deadlines.now held.runs.now

-- 13: "the writer's columns differ in length"
pub record SameLengths (c : TaskColumns) : Type 0 where
  pub periods_same : length c.periods ≡ length c.widths
  pub deadlines_same : length c.deadlines ≡ length c.widths
  pub runs_same : length c.runs ≡ length c.widths

abbrev pub same_lengths : (widths periods deadlines runs : ℕ) → Bool
same_lengths widths periods deadlines runs = pick (eqb widths periods) (pick (eqb widths deadlines) (eqb widths runs) false) false

abbrev pub one_length : TaskColumns → Fact
one_length c = record { says = SameLengths c; test = same_lengths (length c.widths) (length c.periods) (length c.deadlines) (length c.runs) }

-- the task that the columns have at i
unfoldable pub column_task : TaskColumns → ℕ → Task
column_task c i = record { width = get_or c.widths i 0; period = get_or c.periods i 0; deadline = get_or c.deadlines i 0; run = get_or c.runs i 0 }

-- n of so many rows; more than 32 are one too many
abbrev pub row_count : ℕ → ℕ
row_count rows = min rows (suc most_tasks)

-- the order that they make on M processors: a row for each task, zero past them
unfoldable pub column_order : ℕ → TaskColumns → Order
column_order processors c =
    record {
      processors = processors;
      tasks = row_count (length c.widths);
      table = filled (column_task c) zero_task most_tasks (min (length c.widths) most_tasks);
    }

-- "13, 3, 4, then task by task 7 to 10, then 12"
unfoldable pub write_rules : ℕ → TaskColumns → (room : ℕ) → List Rule
write_rules processors c room = rule (one_length c) (OfCall Columns) ∷ written_rules (column_order processors c) room

unfoldable pub write_answer : ℕ → TaskColumns → (room : ℕ) → Answer
write_answer processors c room = first_broken (order_length 1 (column_order processors c).tasks) (write_rules processors c room)

-- what writing M and columns promises: the answer, and all that the output holds
pub record Writes (processors : ℕ) (c : TaskColumns) (output : List ℕ) (answer : Answer) (after : List ℕ) : Type 0 where
  pub answered : answer ≡ write_answer processors c (length output)
  pub written : after ≡ output_after answer (order_bytes (column_order processors c)) output

-- each number fits its field
pub record OrderFits (o : Order) : Type 0 where
  pub processors : o.processors < 2 ^ 7
  pub tasks : o.tasks ≤ most_tasks
  pub each : (i : ℕ) → i < o.tasks → FitIn (task_record 1) (task_numbers (task_of o i) 0)

-- an order that fits its fields, written where there is room for it
pub record PutIfRoom (o : Order) (output : List ℕ) (answer : Answer) (after : List ℕ) : Type 0 where
  pub answered : answer ≡ first_broken (order_length 1 o.tasks) (room_rules (order_length 1 o.tasks) (length output))
  pub written : after ≡ output_after answer (order_bytes o) output
