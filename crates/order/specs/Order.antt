-- "Bits on the wire", the order: its records, its bytes, the rules in the order of their numbers, and what a reading gives.
use Rattle.std.specs.Prelude.{ℕ, ◌*◌, ◌≡◌, List, [], ◌∷◌, ◌++◌, length, get_or, Ok, Err, Result}
use Rattle.laws.specs.Joined.{joined, filled}
use Rattle.bits.specs.Layout.{bytes_in, record_bytes, numbers_at}
use Rattle.model.specs.declared.order.Task.{Task}
use Rattle.model.specs.declared.order.Order.{Order}
use Rattle.model.specs.declared.answer.Reading.{Reading}
use Rattle.model.specs.Kinds.{Answer}
use Rattle.model.specs.declared.answer.Refusal.{Refusal}
use Rattle.model.specs.declared.answer.Refusal.TheVariants.{OfOrder}
use Rattle.model.specs.declared.answer.OrderCause.TheVariants.{OrderShort, OrderVersion, Processors, Tasks, OrderLength, HeaderSpare, TaskSpare}
use Rattle.model.specs.Limits.{most_tasks, most_processors, zero_task, task_of, empty_order}
use Rattle.model.specs.Layouts.{order_header, task_record, order_length}
use Rattle.model.specs.Rules.{Rule, rule, first_broken, given, equal, at_most, in_range, range_rules}
use Rattle.order.specs.declared.Header.{Header}

-- a header as the numbers in its fields: "version 4 (=1), M 7, n 6, spare 7"; and the header that such numbers make
abbrev pub header_numbers : Header → List ℕ
header_numbers header = header.version ∷ header.processors ∷ header.tasks ∷ header.spare ∷ []

abbrev pub header_from : List ℕ → Header
header_from numbers = record { version = get_or numbers 0 0; processors = get_or numbers 1 0; tasks = get_or numbers 2 0; spare = get_or numbers 3 0 }

-- a task as the numbers in its record's fields, with its spare bits: "m 7, T 20, D 20, C 20, spare 5"; and the task that such numbers make
abbrev pub task_numbers : Task → (spare : ℕ) → List ℕ
task_numbers t spare = t.width ∷ t.period ∷ t.deadline ∷ t.run ∷ spare ∷ []

abbrev pub task_from : List ℕ → Task
task_from numbers = record { width = get_or numbers 0 0; period = get_or numbers 1 0; deadline = get_or numbers 2 0; run = get_or numbers 3 0 }

-- the header that stands in the bytes
unfoldable pub header_of : List ℕ → Header
header_of s = header_from (numbers_at s 0 order_header)

-- where the record of a task begins, in bits
abbrev pub task_start : ℕ → ℕ
task_start i = 8 * order_length 1 i

-- the numbers in the record of a task
unfoldable pub task_fields : List ℕ → ℕ → List ℕ
task_fields s i = numbers_at s (task_start i) (task_record 1)

abbrev pub task_at : List ℕ → ℕ → Task
task_at s i = task_from (task_fields s i)

abbrev pub task_spare_at : List ℕ → ℕ → ℕ
task_spare_at s i = get_or (task_fields s i) 4 0

-- "Spare bits are zero.": the bytes of an order
abbrev pub header_for : (processors tasks : ℕ) → Header
header_for processors tasks = record { version = 1; processors = processors; tasks = tasks; spare = 0 }

abbrev pub task_bytes : Task → List ℕ
task_bytes t = record_bytes (task_record 1) (task_numbers t 0)

unfoldable pub table_bytes : Order → (tasks : ℕ) → List ℕ
table_bytes o tasks = joined (λ i. task_bytes (task_of o i)) tasks

unfoldable pub order_bytes : Order → List ℕ
order_bytes o = record_bytes order_header (header_numbers (header_for o.processors o.tasks)) ++ table_bytes o o.tasks

-- the order that stands in the bytes: "M, n and the table, zero past its n tasks"
unfoldable pub order_at : List ℕ → Order
order_at s =
    record {
      processors = (header_of s).processors;
      tasks = (header_of s).tasks;
      table = filled (task_at s) zero_task most_tasks (header_of s).tasks;
    }

-- 1 to 5, and 6 of the header
unfoldable pub header_rules : ℕ → Header → List Rule
header_rules size header =
    rule (at_most (bytes_in order_header) size) (OfOrder OrderShort)
    ∷ rule (equal header.version 1) (OfOrder OrderVersion)
    ∷ rule (in_range 1 most_processors header.processors) (OfOrder Processors)
    ∷ rule (in_range 1 most_tasks header.tasks) (OfOrder Tasks)
    ∷ rule (equal size (order_length 1 header.tasks)) (OfOrder OrderLength)
    ∷ rule (equal header.spare 0) (OfOrder HeaderSpare)
    ∷ []

-- 6 of a task
abbrev pub task_spare_rules : List ℕ → ℕ → List Rule
task_spare_rules s i = rule (equal (task_spare_at s i) 0) (OfOrder (TaskSpare i)) ∷ []

-- "6 over the whole order, header first and then the lowest task"
unfoldable pub spare_rules : List ℕ → (tasks : ℕ) → List Rule
spare_rules s tasks = joined (task_spare_rules s) tasks

-- "1 to 6 in turn"
unfoldable pub layout_rules : List ℕ → List Rule
layout_rules s = header_rules (length s) (header_of s) ++ spare_rules s (header_of s).tasks

-- "then task by task 7 to 10"
unfoldable pub order_rules : List ℕ → List Rule
order_rules s = layout_rules s ++ range_rules (order_at s)

-- the task of a record, or 6 where a spare bit of it is set
abbrev pub task_read : List ℕ → ℕ → Result Task Refusal
task_read s i = given (task_at s i) (first_broken 0 (task_spare_rules s i))

-- the table of so many tasks' records, or 6 of the lowest task that breaks it
abbrev pub table_read : List ℕ → (tasks : ℕ) → Result (List Task) Refusal
table_read s tasks = given (filled (task_at s) zero_task most_tasks tasks) (first_broken 0 (spare_rules s tasks))

-- the order that stands in the bytes, or the first refusal
abbrev pub order_read : List ℕ → Result Order Refusal
order_read s = given (order_at s) (first_broken 0 (order_rules s))

-- "An order read gives M, n and the table, zero past its n tasks; when it is refused all three are zero."
abbrev pub refused_reading : Refusal → Reading
refused_reading cause = record { answer = Err cause; order = empty_order }

abbrev pub reading_of : Answer → Order → Reading
reading_of (Ok count) order = record { answer = Ok count; order = order }
reading_of (Err cause) order = refused_reading cause

unfoldable pub read_order : List ℕ → Reading
read_order s = reading_of (first_broken 0 (order_rules s)) (order_at s)

-- what reading an order promises
abbrev pub Reads : List ℕ → Reading → Type 0
Reads s reading = reading ≡ read_order s
