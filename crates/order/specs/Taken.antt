-- "A reader that holds the order's bytes takes its fields front to back": what each field and each record taken holds, and that the next one begins where it ends.
use Rattle.std.specs.Prelude.{ℕ, ◌+◌, ◌≡◌, List}
use Rattle.bits.specs.Field.{field}
use Rattle.bits.specs.Layout.{bits_in}
use Rattle.model.specs.Layouts.{order_header, task_record}
use Rattle.order.specs.Order.{task_start}

-- a field, and then the next one begins
abbrev pub TakesField : List ℕ → (at width value next : ℕ) → Type 0
TakesField s at width value next = (value ≡ field s at width) × (next ≡ at + width)

-- the first task's record begins where the header ends, and each next one where the one before ends
abbrev pub FrontToBack : Type 0
FrontToBack = (i : ℕ) → (task_start 0 ≡ bits_in order_header) × (task_start (i + 1) ≡ task_start i + bits_in (task_record 1))
