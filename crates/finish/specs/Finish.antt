-- "The run continues until every job has finished and writes one 32-bit finish tick per record."
use Rattle.std.specs.Prelude.{ℕ, Bool, false, ◌&&◌, List, eqb, length, Option}
use Rattle.laws.specs.Joined.{listed}
use Rattle.search.specs.Smallest.{smallest, number_found}
use Rattle.model.specs.declared.order.Order.{Order}
use Rattle.model.specs.declared.build.Build.{Build}
use Rattle.model.specs.declared.build.Release.{Release}
use Rattle.model.specs.Limits.{home_of}
use Rattle.machine.specs.Step.{Pattern, Running, free, runs}
use Rattle.machine.specs.Pattern.{record_of, pattern_of}
use Rattle.machine.specs.Box.{box_before}

-- what runs is the job that a task released at a tick, and its time is used up
unfoldable pub used_up : (task release : ℕ) → Running → Bool
used_up task release free = false
used_up task release (runs k a left) = eqb k task && (eqb a release && eqb left 0)

-- the largest 32-bit number
abbrev pub most_tick : ℕ
most_tick = 4_294_967_295

-- "a job whose time is used up ends, with finish tick t": the 32-bit tick at which the job that a task released at a tick ends
unfoldable pub finish_found : Order → Build → Pattern → (task release : ℕ) → Option ℕ
finish_found o b releases task release = smallest (λ tick. used_up task release (box_before o b releases tick (home_of b task)).running) 0 most_tick

-- the finish tick of record i; Claims.antt says that a legal script's job always has one
unfoldable pub finish_of : Order → Build → List Release → (i : ℕ) → ℕ
finish_of o b script i = number_found (finish_found o b (pattern_of script) (record_of script i).task (record_of script i).tick)

-- "one 32-bit finish tick per record"
unfoldable pub finish_ticks : Order → Build → List Release → List ℕ
finish_ticks o b script = listed (finish_of o b script) (length script)
