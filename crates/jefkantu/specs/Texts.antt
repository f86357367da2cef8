-- What the C surface promises of the form's text read and written: the word answered, and all that the caller's memory holds afterwards.
use Rattle.std.specs.Prelude.{ℕ, ◌≡◌, List, length}
use Rattle.model.specs.Answer.{output_after}
use Rattle.order.specs.Order.{order_bytes}
use Rattle.form.specs.Text.{text_order}
use Rattle.text.specs.Read.{read_text_answer}
use Rattle.text_out.specs.Write.{text_of, write_text_answer}
use Rattle.jefkantu.specs.Word.{answer_word}

-- what jefkantu_read_text promises
pub record ReadsForm (processors : ℕ) (text output : List ℕ) (word : ℕ) (after : List ℕ) : Type 0 where
  pub answered : word ≡ answer_word (read_text_answer processors text (length output))
  pub written : after ≡ output_after (read_text_answer processors text (length output)) (order_bytes (text_order processors text)) output

-- what jefkantu_write_text promises
pub record WritesForm (order output : List ℕ) (word : ℕ) (after : List ℕ) : Type 0 where
  pub answered : word ≡ answer_word (write_text_answer order (length output))
  pub written : after ≡ output_after (write_text_answer order (length output)) (text_of order) output
