-- What the C surface promises of the late script: the word answered, and all that the caller's memory holds afterwards.
use Rattle.std.specs.Prelude.{ℕ, ◌≡◌, List, length}
use Rattle.model.specs.Answer.{output_after}
use Rattle.script.specs.Script.{script_bytes}
use Rattle.late.specs.Shown.{shown_script, late_answer}
use Rattle.jefkantu.specs.Word.{answer_word}

-- what jefkantu_late promises
pub record ShowsLateScript (order build output : List ℕ) (word : ℕ) (after : List ℕ) : Type 0 where
  pub answered : word ≡ answer_word (late_answer order build (length output))
  pub written : after ≡ output_after (late_answer order build (length output)) (script_bytes (shown_script order build)) output
