-- What the C surface promises of orders read and written: the word answered, and all that the caller's memory holds afterwards.
use Rattle.std.specs.Prelude.{ℕ, ◌≡◌, List, [], ◌∷◌, length, Ok, Err}
use Rattle.laws.specs.Joined.{joined}
use Rattle.model.specs.declared.order.Task.{Task}
use Rattle.model.specs.declared.order.Order.{Order}
use Rattle.model.specs.Kinds.{Answer}
use Rattle.model.specs.Answer.{output_after}
use Rattle.model.specs.Limits.{most_tasks, task_of}
use Rattle.order.specs.Order.{read_order, order_bytes}
use Rattle.order_out.specs.Write.{TaskColumns, column_order, write_answer}
use Rattle.jefkantu.specs.Word.{answer_word}

-- a task as four numbers: m, T, D, C
abbrev pub four_numbers : Task → List ℕ
four_numbers t = t.width ∷ t.period ∷ t.deadline ∷ t.run ∷ []

-- "An order read gives M, n and the table": 2 + 4 * 32 numbers
unfoldable pub order_numbers : Order → List ℕ
order_numbers o = o.processors ∷ o.tasks ∷ joined (λ i. four_numbers (task_of o i)) most_tasks

-- the caller's numbers after a reading: a refusal leaves them as they were
unfoldable pub numbers_after : Answer → Order → List ℕ → List ℕ
numbers_after (Ok count) order numbers = order_numbers order
numbers_after (Err cause) order numbers = numbers

-- what jefkantu_read_order promises
pub record ReadsOrder (order numbers : List ℕ) (word : ℕ) (after : List ℕ) : Type 0 where
  pub answered : word ≡ answer_word (read_order order).answer
  pub written : after ≡ numbers_after (read_order order).answer (read_order order).order numbers

-- what jefkantu_write_order promises
pub record WritesColumns (processors : ℕ) (c : TaskColumns) (output : List ℕ) (word : ℕ) (after : List ℕ) : Type 0 where
  pub answered : word ≡ answer_word (write_answer processors c (length output))
  pub written : after ≡ output_after (write_answer processors c (length output)) (order_bytes (column_order processors c)) output
