-- A script's numbers as the run reads them: of each record its tick and task as one key, which rises as the records do, and its length.
use Rattle.std.specs.Prelude.{ℕ, ◌+◌, ◌*◌, ◌≤◌, ◌<◌, ◌≡◌, List, length, get_or}
use Rattle.model.specs.declared.build.Release.{Release}
use Rattle.machine.specs.Pattern.{record_of}

pub record Held (script : List Release) (keys durations : List ℕ) : Type 0 where
  pub sizes : (length keys ≡ 1024) × (length durations ≡ 1024)
  pub few : length script ≤ 1024
  pub key : (i : ℕ) → i < length script → get_or keys i 0 ≡ (record_of script i).tick * 32 + (record_of script i).task
  pub duration : (i : ℕ) → i < length script → get_or durations i 0 ≡ (record_of script i).duration
