-- Reading a text: "52 more than 32 lines ..; then line by line .. 50 .., 51 ..; then the writer's".
use Rattle.std.specs.Prelude.{ℕ, ◌<◌, ◌≡◌, false, List, [], ◌∷◌, ◌++◌, length, ltb}
use Rattle.laws.specs.Choice.{pick}
use Rattle.laws.specs.Joined.{joined}
use Rattle.model.specs.declared.order.Task.{Task}
use Rattle.model.specs.Kinds.{Answer}
use Rattle.model.specs.declared.answer.Refusal.TheVariants.{OfText}
use Rattle.model.specs.declared.answer.TextCause.TheVariants.{LineShape, LineNumber, LineCount}
use Rattle.model.specs.Limits.{most_tasks}
use Rattle.model.specs.Layouts.{order_length}
use Rattle.model.specs.Answer.{output_after}
use Rattle.model.specs.Rules.{Fact, Rule, rule, first_broken, at_most}
use Rattle.order.specs.Order.{order_bytes}
use Rattle.order_out.specs.Write.{written_rules}
use Rattle.form.specs.Lines.{IsLine, is_line, NumbersFit, numbers_fit}
use Rattle.form.specs.Text.{typed_line, finished_lines, line_count, typed_task, text_order}

-- 50: "not of this shape or unfinished"
pub record Shaped (text : List ℕ) (i : ℕ) : Type 0 where
  pub finished : i < finished_lines text
  pub task : Task
  pub line : IsLine (typed_line text i) task

unfoldable pub shaped : List ℕ → ℕ → Fact
shaped text i = record { says = Shaped text i; test = pick (ltb i (finished_lines text)) (is_line (typed_line text i)) false }

-- 51: "a number over 1,048,575 (times in ticks)"
unfoldable pub typed_fits : List ℕ → ℕ → Fact
typed_fits text i = record { says = (t : Task) → IsLine (typed_line text i) t → NumbersFit t; test = numbers_fit (typed_task text i) }

unfoldable pub line_rules : List ℕ → ℕ → List Rule
line_rules text i = rule (shaped text i) (OfText (LineShape i)) ∷ rule (typed_fits text i) (OfText (LineNumber i)) ∷ []

-- "52 more than 32 lines ..; then line by line, .. 50 .., 51 .."
unfoldable pub text_rules : List ℕ → List Rule
text_rules text = rule (at_most (line_count text) most_tasks) (OfText LineCount) ∷ joined (line_rules text) (line_count text)

-- "then the writer's": 3, 4, 7 to 10, 12
unfoldable pub read_text_rules : ℕ → List ℕ → (room : ℕ) → List Rule
read_text_rules processors text room = text_rules text ++ written_rules (text_order processors text) room

unfoldable pub read_text_answer : ℕ → List ℕ → (room : ℕ) → Answer
read_text_answer processors text room = first_broken (order_length 1 (line_count text)) (read_text_rules processors text room)

-- what reading a text promises: the answer, and all that the output holds
pub record ReadsText (processors : ℕ) (text output : List ℕ) (answer : Answer) (after : List ℕ) : Type 0 where
  pub answered : answer ≡ read_text_answer processors text (length output)
  pub written : after ≡ output_after answer (order_bytes (text_order processors text)) output
