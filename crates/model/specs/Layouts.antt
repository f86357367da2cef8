-- "Bits on the wire": the widths of each record's fields in layout order, by version, and the lengths that follow; each stated once.
use Rattle.std.specs.Prelude.{ℕ, ◌+◌, ◌*◌, [], ◌∷◌}
use Rattle.bits.specs.Layout.{Layout, bytes_in}

-- "Order: version 4 (=1), M 7, n 6, spare 7"
abbrev pub order_header : Layout
order_header = 4 ∷ 7 ∷ 6 ∷ 7 ∷ []

-- "then per task m 7, T 20, D 20, C 20, spare 5": of every order version so far
abbrev pub task_record : (version : ℕ) → Layout
task_record version = 7 ∷ 20 ∷ 20 ∷ 20 ∷ 5 ∷ []

-- "Build: version 4 (=1), M 7, n 6, partition count p 7"
abbrev pub build_header : Layout
build_header = 4 ∷ 7 ∷ 6 ∷ 7 ∷ []

-- "then per partition volume 7, first processor 6, spare 3": of every build version so far
abbrev pub partition_record : (version : ℕ) → Layout
partition_record version = 7 ∷ 6 ∷ 3 ∷ []

-- "then per task partition 6, rank 5, worst response 20, spare 1"
abbrev pub member_record : Layout
member_record = 6 ∷ 5 ∷ 20 ∷ 1 ∷ []

-- "Script: per record tick 20, task 5, length 20, spare 3.": for every order version so far
abbrev pub release_record : (version : ℕ) → Layout
release_record version = 20 ∷ 5 ∷ 20 ∷ 3 ∷ []

-- "Length 3 + 9n."
abbrev pub order_length : (version tasks : ℕ) → ℕ
order_length version tasks = bytes_in order_header + bytes_in (task_record version) * tasks

-- "Length 3 + 2p + 4n."
abbrev pub build_length : (version partitions tasks : ℕ) → ℕ
build_length version partitions tasks = bytes_in build_header + bytes_in (partition_record version) * partitions + bytes_in member_record * tasks

-- so many records of a script
abbrev pub script_length : (version records : ℕ) → ℕ
script_length version records = bytes_in (release_record version) * records
