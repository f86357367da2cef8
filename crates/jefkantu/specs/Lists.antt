-- What the C surface promises of lists of processors and of partitions' sets: the word answered, and all that the caller's memory holds afterwards.
use Rattle.std.specs.Prelude.{ℕ, ◌≡◌, List, length, Ok, Err}
use Rattle.model.specs.Kinds.{Answer}
use Rattle.model.specs.Answer.{output_after}
use Rattle.build.specs.Build.{build_at}
use Rattle.list_form.specs.ListText.{list_text}
use Rattle.list.specs.Read.{read_list}
use Rattle.list_out.specs.Write.{write_list_answer}
use Rattle.partition_sets.specs.Given.{build_sets, sets_answer}
use Rattle.jefkantu.specs.Word.{answer_word}

-- what jefkantu_write_list promises
pub record WritesSet (set : ℕ) (output : List ℕ) (word : ℕ) (after : List ℕ) : Type 0 where
  pub answered : word ≡ answer_word (write_list_answer set (length output))
  pub written : after ≡ output_after (write_list_answer set (length output)) (list_text set) output

-- the caller's set after a reading: "the set is written only on success"
unfoldable pub set_after : Answer → (read before : ℕ) → ℕ
set_after (Ok count) read before = read
set_after (Err cause) read before = before

-- what jefkantu_read_list promises
pub record ReadsSet (text : List ℕ) (set word after : ℕ) : Type 0 where
  pub answered : word ≡ answer_word (read_list text).answer
  pub written : after ≡ set_after (read_list text).answer (read_list text).set set

-- what jefkantu_partition_sets promises
pub record GivesPartitionSets (order build output : List ℕ) (word : ℕ) (after : List ℕ) : Type 0 where
  pub answered : word ≡ answer_word (sets_answer order build (length output))
  pub written : after ≡ output_after (sets_answer order build (length output)) (build_sets (build_at build)) output
