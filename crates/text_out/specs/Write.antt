-- Writing text from an order: "the order's 1 to 10, then 12".
use Rattle.std.specs.Prelude.{ℕ, ◌≡◌, List, ◌++◌, length}
use Rattle.model.specs.Kinds.{Answer}
use Rattle.model.specs.Answer.{output_after}
use Rattle.model.specs.Rules.{Rule, first_broken, room_rules}
use Rattle.order.specs.Order.{order_at, order_rules}
use Rattle.form.specs.Written.{order_text}

-- the text of the order that stands in the bytes
abbrev pub text_of : List ℕ → List ℕ
text_of order = order_text (order_at order)

unfoldable pub write_text_rules : (order : List ℕ) (room : ℕ) → List Rule
write_text_rules order room = order_rules order ++ room_rules (length (text_of order)) room

unfoldable pub write_text_answer : (order : List ℕ) (room : ℕ) → Answer
write_text_answer order room = first_broken (length (text_of order)) (write_text_rules order room)

-- what writing a text promises: the answer, and all that the output holds
pub record WritesText (order output : List ℕ) (answer : Answer) (after : List ℕ) : Type 0 where
  pub answered : answer ≡ write_text_answer order (length output)
  pub written : after ≡ output_after answer (text_of order) output
