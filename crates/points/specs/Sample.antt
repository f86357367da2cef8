-- The orders, the build and the script that the points speak of, as numbers and as bytes.
use Rattle.std.specs.Prelude.{ℕ, ◌-◌, List, [], ◌∷◌, ◌++◌, length, replicate}
use Rattle.model.specs.declared.order.Task.{Task}
use Rattle.model.specs.declared.order.Order.{Order}
use Rattle.model.specs.declared.build.Partition.{Partition}
use Rattle.model.specs.declared.build.Member.{Member}
use Rattle.model.specs.declared.build.Build.{Build}
use Rattle.model.specs.declared.build.Release.{Release}
use Rattle.model.specs.Limits.{most_tasks, most_partitions, zero_task, zero_partition, zero_member}

-- a task by its (m, T, D, C)
abbrev pub task : (m T D C : ℕ) → Task
task m T D C = record { width = m; period = T; deadline = D; run = C }

-- the order of these tasks on M processors, zero past them
abbrev pub order_of : (M : ℕ) → List Task → Order
order_of M tasks = record { processors = M; tasks = length tasks; table = tasks ++ replicate (most_tasks - length tasks) zero_task }

-- the build of these partitions and members on M processors, zero past them
abbrev pub build_from : (M : ℕ) → List Partition → List Member → Build
build_from M places members =
    record {
      processors = M;
      tasks = length members;
      partitions = length places;
      places = places ++ replicate (most_partitions - length places) zero_partition;
      members = members ++ replicate (most_tasks - length members) zero_member;
    }

-- a partition by its volume and first processor: "part 0 2 0" is part_of 2 0
abbrev pub part_of : (volume first : ℕ) → Partition
part_of volume first = record { volume = volume; first = first }

-- a task's record by its partition, rank and worst response: "task 0 0 0 7" is placed_as 0 0 7
abbrev pub placed_as : (partition rank response : ℕ) → Member
placed_as partition rank response = record { partition = partition; rank = rank; response = response }

-- a release by its (tick, task, length)
abbrev pub release : (tick task duration : ℕ) → Release
release tick task duration = record { tick = tick; task = task; duration = duration }

-- "Three tasks (m, T, D, C) on M = 4: (2, 10, 10, 4), (1, 14, 13, 4), (1, 14, 13, 4).", on any M
abbrev pub sample_on : (M : ℕ) → Order
sample_on M = order_of M (task 2 10 10 4 ∷ task 1 14 13 4 ∷ task 1 14 13 4 ∷ [])

-- "10 81 80, 04 00 01 40 00 14 00 00 80, then twice 02 00 01 C0 00 1A 00 00 80"
abbrev pub sample_order : List ℕ
sample_order =
    (0x10 ∷ 0x81 ∷ 0x80 ∷ [])
    ++ (0x04 ∷ 0x00 ∷ 0x01 ∷ 0x40 ∷ 0x00 ∷ 0x14 ∷ 0x00 ∷ 0x00 ∷ 0x80 ∷ [])
    ++ (0x02 ∷ 0x00 ∷ 0x01 ∷ 0xC0 ∷ 0x00 ∷ 0x1A ∷ 0x00 ∷ 0x00 ∷ 0x80 ∷ [])
    ++ (0x02 ∷ 0x00 ∷ 0x01 ∷ 0xC0 ∷ 0x00 ∷ 0x1A ∷ 0x00 ∷ 0x00 ∷ 0x80 ∷ [])

-- "part 0 2 0, part 1 1 2, task 0 0 0 7, task 1 0 1 8, task 2 1 0 4", on any M
abbrev pub sample_build_on : (M : ℕ) → Build
sample_build_on M = build_from M (part_of 2 0 ∷ part_of 1 2 ∷ []) (placed_as 0 0 7 ∷ placed_as 0 1 8 ∷ placed_as 1 0 4 ∷ [])

-- "10 81 82, 04 00, 02 10, 00 00 00 0E, 00 20 00 10, 04 00 00 08"
abbrev pub sample_build : List ℕ
sample_build =
    (0x10 ∷ 0x81 ∷ 0x82 ∷ [])
    ++ (0x04 ∷ 0x00 ∷ [])
    ++ (0x02 ∷ 0x10 ∷ [])
    ++ (0x00 ∷ 0x00 ∷ 0x00 ∷ 0x0E ∷ [])
    ++ (0x00 ∷ 0x20 ∷ 0x00 ∷ 0x10 ∷ [])
    ++ (0x04 ∷ 0x00 ∷ 0x00 ∷ 0x08 ∷ [])

-- "releases (tick, task, length) (0,1,4), (1,0,4), (1,2,3)"
abbrev pub sample_releases : List Release
sample_releases = release 0 1 4 ∷ release 1 0 4 ∷ release 1 2 3 ∷ []

-- the same by "tick 20, task 5, length 20, spare 3"
abbrev pub sample_script : List ℕ
sample_script =
    (0x00 ∷ 0x00 ∷ 0x00 ∷ 0x80 ∷ 0x00 ∷ 0x20 ∷ [])
    ++ (0x00 ∷ 0x00 ∷ 0x10 ∷ 0x00 ∷ 0x00 ∷ 0x20 ∷ [])
    ++ (0x00 ∷ 0x00 ∷ 0x11 ∷ 0x00 ∷ 0x00 ∷ 0x18 ∷ [])

-- ".. finish at 4, 8, 4"
abbrev pub sample_finishes : List ℕ
sample_finishes = 4 ∷ 8 ∷ 4 ∷ []

-- "the order with the single task (1, 10, 10, 10) on M = 4", with any numbers
abbrev pub single : (m T D C : ℕ) → Order
single m T D C = order_of 4 (task m T D C ∷ [])

-- its build: the task alone in a partition of volume m, with C for its response
abbrev pub single_build : (m C : ℕ) → Build
single_build m C = build_from 4 (part_of m 0 ∷ []) (placed_as 0 0 C ∷ [])
