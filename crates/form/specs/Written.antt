-- "Also write the text from an order, with a point and two decimals": the text that is written; no leading zeros but the one before the point.
use Rattle.std.specs.Prelude.{ℕ, zero, suc, ◌+◌, ◌/◌, ◌%◌, List, [], ◌∷◌, ◌++◌, ltb}
use Rattle.laws.specs.Choice.{pick}
use Rattle.laws.specs.Joined.{joined}
use Rattle.model.specs.declared.order.Task.{Task}
use Rattle.model.specs.declared.order.Order.{Order}
use Rattle.model.specs.Limits.{task_of}
use Rattle.form.specs.Bytes.{zero_digit, point, semicolon, line_feed}

-- the digit of a number below ten
abbrev pub digit_for : ℕ → ℕ
digit_for x = zero_digit + x

-- the last digits of a number, so many
unfoldable pub last_digits : ℕ → ℕ → List ℕ
last_digits zero x = []
last_digits (suc digits) x = last_digits digits (x / 10) ++ (digit_for (x % 10) ∷ [])

-- how many digits a number has that has at most one more than so many
unfoldable pub digit_count : (more : ℕ) → ℕ → ℕ
digit_count zero x = 1
digit_count (suc more) x = pick (ltb x 10) 1 (suc (digit_count more (x / 10)))

-- a 32-bit number has at most ten
abbrev pub digits_in : ℕ → ℕ
digits_in x = digit_count 9 x

-- a number in digits, none more than it has
unfoldable pub numeral : ℕ → List ℕ
numeral x = last_digits (digits_in x) x

-- a time in milliseconds: "a point and two decimals"
unfoldable pub time_text : ℕ → List ℕ
time_text ticks = numeral (ticks / 100) ++ (point ∷ last_digits 2 ticks)

-- `m;T;D;C` and a line feed
unfoldable pub line_text : Task → List ℕ
line_text t = numeral t.width ++ (semicolon ∷ (time_text t.period ++ (semicolon ∷ (time_text t.deadline ++ (semicolon ∷ (time_text t.run ++ (line_feed ∷ [])))))))

-- a line for each task
unfoldable pub order_text : Order → List ℕ
order_text o = joined (λ i. line_text (task_of o i)) o.tasks

-- the longest line is `64;10000.00;10000.00;10000.00`, and there are 32
abbrev pub most_line_bytes : ℕ
most_line_bytes = 30

abbrev pub most_text_bytes : ℕ
most_text_bytes = 960
