-- What is written of a list at a place for one processor.
use Rattle.std.specs.Prelude.{ℕ, List, [], ◌∷◌, ltb}
use Rattle.laws.specs.Choice.{pick}
use Rattle.form.specs.Bytes.{comma}
use Rattle.list_form.specs.Runs.{runs_from}
use Rattle.list_form.specs.ListText.{items_text}

-- the comma before an item: none at the front
abbrev pub comma_at : ℕ → List ℕ
comma_at at = pick (ltb 0 at) (comma ∷ []) []

-- the run that begins at a processor, nothing where none does
abbrev pub run_text : (at set processor : ℕ) → List ℕ
run_text at set processor = items_text (ltb 0 at) (runs_from set processor 1)
