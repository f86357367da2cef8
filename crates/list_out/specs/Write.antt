-- Writing a set of processors as a list: "12 output too short, last".
use Rattle.std.specs.Prelude.{ℕ, ◌≡◌, List, length}
use Rattle.model.specs.Kinds.{Answer}
use Rattle.model.specs.Answer.{output_after}
use Rattle.model.specs.Rules.{Rule, first_broken, room_rules}
use Rattle.list_form.specs.ListText.{list_text}

unfoldable pub write_list_rules : (set room : ℕ) → List Rule
write_list_rules set room = room_rules (length (list_text set)) room

unfoldable pub write_list_answer : (set room : ℕ) → Answer
write_list_answer set room = first_broken (length (list_text set)) (write_list_rules set room)

-- what writing a list promises: the answer, and all that the output holds
pub record WritesList (set : ℕ) (output : List ℕ) (answer : Answer) (after : List ℕ) : Type 0 where
  pub answered : answer ≡ write_list_answer set (length output)
  pub written : after ≡ output_after answer (list_text set) output
