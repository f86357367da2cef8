-- The limits of document 01's table, what is empty, and the parts of an order and of a build by number; each stated once.
use Rattle.std.specs.Prelude.{ℕ, replicate, get_or}
use Rattle.model.specs.Kinds.{Task, Order, Partition, Member, Build, Release}

-- "tasks n .. 32"
abbrev pub most_tasks : ℕ
most_tasks = 32

-- "processors M .. 64"
abbrev pub most_processors : ℕ
most_processors = 64

-- "T .. 1,000,000"
abbrev pub most_period : ℕ
most_period = 1_000_000

-- "horizon H .. 1,000,000 ticks"
abbrev pub horizon : ℕ
horizon = 1_000_000

-- "p not 1 to 32"
abbrev pub most_partitions : ℕ
most_partitions = 32

-- "script records .. 1,024"
abbrev pub most_records : ℕ
most_records = 1024

abbrev pub zero_task : Task
zero_task = record { width = 0; period = 0; deadline = 0; run = 0 }

-- "when it is refused all three are zero"
abbrev pub empty_order : Order
empty_order = record { processors = 0; tasks = 0; table = replicate most_tasks zero_task }

-- task i of an order
abbrev pub task_of : Order → ℕ → Task
task_of o i = get_or o.table i zero_task

-- C as the test reads it: how long a job of the task takes at most
unfoldable pub cost : Task → ℕ
cost task = task.run

abbrev pub zero_partition : Partition
zero_partition = record { volume = 0; first = 0 }

abbrev pub zero_member : Member
zero_member = record { partition = 0; rank = 0; response = 0 }

abbrev pub empty_build : Build
empty_build = record { processors = 0; tasks = 0; partitions = 0; places = replicate most_partitions zero_partition; members = replicate most_tasks zero_member }

-- partition p of a build
abbrev pub place_of : Build → ℕ → Partition
place_of b p = get_or b.places p zero_partition

-- task i as a build records it
abbrev pub member_of : Build → ℕ → Member
member_of b i = get_or b.members i zero_member

-- the partition that a build records for task i
abbrev pub home_of : Build → ℕ → ℕ
home_of b i = (member_of b i).partition

abbrev pub zero_release : Release
zero_release = record { tick = 0; task = 0; duration = 0 }
