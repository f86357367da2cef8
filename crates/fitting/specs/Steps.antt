-- "First fit by decreasing volume", turn by turn, for the tasks of an order on its processors.
use Rattle.std.specs.Prelude.{Bool, true, ℕ, zero, suc, ◌+◌, ◌-◌, leb, eqb, set, replicate, Result, Ok, Err, Option, Some, None}
use Rattle.laws.specs.Choice.{pick}
use Rattle.laws.specs.Every.{every}
use Rattle.model.specs.Limits.{most_tasks, most_partitions, zero_partition}
use Rattle.search.specs.Smallest.{first_of}
use Rattle.demand.specs.Priority.{Members}
use Rattle.demand.specs.Test.{verdict, does_pass}
use Rattle.turns.specs.Turns.{Homes, width_of, home_at, next_task}
use Rattle.fitting.specs.Kinds.{Order, Refusal, OfCall, FirstFit, Placing}

-- no task is placed, no partition is open
abbrev pub nothing_placed : Placing
nothing_placed = record { homes = replicate most_tasks None; places = replicate most_partitions zero_partition; opened = 0; used = 0 }

-- "Put each in" a partition: task i in partition k
abbrev pub put : Placing → ℕ → ℕ → Placing
put s i k = record { homes = set s.homes i (Some k); places = s.places; opened = s.opened; used = s.used }

-- "open the next partition with volume m on the lowest unused processors"
abbrev pub open_next : Placing → ℕ → Placing
open_next s m =
    record {
      homes = s.homes;
      places = set s.places s.opened (record { volume = m; first = s.used });
      opened = s.opened + 1;
      used = s.used + m;
    }

-- the task that is refused, and the placing in which it was
pub record RefusedAt : Type 0 where
  pub placing : Placing
  pub task : ℕ

-- what comes of a turn, or of many
abbrev pub Outcome : Type 0
Outcome = Result Placing RefusedAt

-- a placing that goes on
abbrev pub going_on : Placing → Outcome
going_on s = Ok s

-- "refuse, naming that task", in the placing where it was refused
abbrev pub refusing : Placing → ℕ → Outcome
refusing s i = Err (record { placing = s; task = i })

-- the answer: the placing, or 11 for the task
abbrev pub told : Outcome → Result Placing Refusal
told (Ok s) = Ok s
told (Err at) = Err (OfCall (FirstFit at.task))

-- the tasks placed in partition k
unfoldable pub living_in : Homes → (k : ℕ) → Members
living_in homes k j = eqb (home_at homes j) k

-- task j passes, if it is in partition k
unfoldable pub member_passes : Order → Homes → (k j : ℕ) → Bool
member_passes o homes k j = pick (living_in homes k j) (does_pass (verdict o (living_in homes k) j)) true

-- "all members there pass"
unfoldable pub members_pass : Order → Homes → (k : ℕ) → Bool
members_pass o homes k = every (member_passes o homes k) o.tasks

-- "it and all members there pass", once task i is put in partition k
unfoldable pub accepts : Order → Homes → (i k : ℕ) → Bool
accepts o homes i k = members_pass o (set homes i (Some k)) k

-- "the lowest-numbered partition where it and all members there pass"
unfoldable pub lowest_accepting : Order → Placing → ℕ → Option ℕ
lowest_accepting o s i = first_of (accepts o s.homes i) 0 s.opened

-- "if m processors are left, open the next partition .. Else refuse, naming that task."
unfoldable pub opening : Order → Placing → ℕ → Outcome
opening o s i =
    pick (leb (width_of o i) (o.processors - s.used)) (going_on (put (open_next s (width_of o i)) i s.opened)) (refusing s i)

-- "Put each in the lowest-numbered partition where it and all members there pass. Else, .."
abbrev pub settled : Order → Placing → ℕ → Option ℕ → Outcome
settled o s i (Some k) = going_on (put s i k)
settled o s i None = opening o s i

-- the task whose turn it is, settled
abbrev pub after_turn : Order → Placing → Option ℕ → Outcome
after_turn o s (Some i) = settled o s i (lowest_accepting o s i)
after_turn o s None = going_on s

unfoldable pub turn_taken : Order → Placing → Outcome
turn_taken o s = after_turn o s (next_task o s.homes o.tasks)

-- what follows, unless a task was refused
unfoldable pub unless_refused : Outcome → (Placing → Outcome) → Outcome
unless_refused outcome next = elim outcome [ Ok s ↦ next s | Err at ↦ Err at ]

-- so many turns
unfoldable pub turns_taken : Order → ℕ → Placing → Outcome
turns_taken o zero s = going_on s
turns_taken o (suc k) s = unless_refused (turn_taken o s) (turns_taken o k)

-- a turn for each task
unfoldable pub first_fit : Order → Outcome
first_fit o = turns_taken o o.tasks nothing_placed
