-- What the C surface promises of runs: the word answered, and all that the caller's memory holds afterwards.
use Rattle.std.specs.Prelude.{ℕ, ◌≡◌, List, length}
use Rattle.run.specs.Run.{run_answer, run_output}
use Rattle.jefkantu.specs.Word.{answer_word}

-- what jefkantu_run promises
pub record RunsScript (order build script output : List ℕ) (word : ℕ) (after : List ℕ) : Type 0 where
  pub answered : word ≡ answer_word (run_answer order build script (length output))
  pub written : after ≡ run_output order build script output
