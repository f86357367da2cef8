-- What the check promises beyond its definition: claims, proved in proofs/Claims.antt.
use Rattle.std.specs.Prelude.{ℕ, ◌≤◌, ◌<◌, ◌≡◌, List, ◌↔◌, length, Ok, Err, Result}
use Rattle.model.specs.declared.order.Order.{Order}
use Rattle.model.specs.declared.build.Build.{Build}
use Rattle.model.specs.Kinds.{Answer}
use Rattle.model.specs.declared.answer.Refusal.{Refusal}
use Rattle.model.specs.Limits.{most_tasks, most_processors, most_partitions, task_of, member_of, home_of}
use Rattle.model.specs.Layouts.{order_length, build_length}
use Rattle.model.specs.Answer.{answer_count}
use Rattle.model.specs.Rules.{InRange, TaskInRange, WithinLimits, FirstOffence, RightAnswer}
use Rattle.order.specs.Order.{header_of, task_spare_at, order_at}
use Rattle.build.specs.Build.{build_header_of, build_at}
use Rattle.demand.specs.Priority.{members_of, rank}
use Rattle.demand.specs.Test.{verdict}
use Rattle.inspect_layout.specs.Rules.{HeaderMatches, SparesZero}
use Rattle.inspect_places.specs.Rules.{PartitionRight}
use Rattle.inspect_members.specs.Rules.{WideEnough}
use Rattle.inspect_tests.specs.Rules.{WindowThere, StartsThere, IsWorst, InTime}
use Rattle.inspect.specs.declared.Accepted.{Accepted}
use Rattle.inspect.specs.Rules.{check_rules, check_answer, Checks, ChecksBoth}

-- 1 to 10 all hold
pub record OrderRight (order : List ℕ) : Type 0 where
  pub long : 3 ≤ length order
  pub version : (header_of order).version ≡ 1
  pub processors : InRange 1 most_processors (header_of order).processors
  pub tasks : InRange 1 most_tasks (header_of order).tasks
  pub size : length order ≡ order_length 1 (header_of order).tasks
  pub header_spare : (header_of order).spare ≡ 0
  pub task_spares : (i : ℕ) → i < (header_of order).tasks → task_spare_at order i ≡ 0
  pub ranges : (i : ℕ) → i < (order_at order).tasks → TaskInRange (order_at order).processors (task_of (order_at order) i)

-- 20 to 23 all hold
pub record LayoutRight (o : Order) (build : List ℕ) : Type 0 where
  pub long : 3 ≤ length build
  pub header : HeaderMatches o (build_header_of build)
  pub size : length build ≡ build_length 1 (build_header_of build).partitions (build_header_of build).tasks
  pub spares : SparesZero build (build_header_of build).partitions (build_header_of build).tasks

-- 24 to 30 all hold
pub record RecordsRight (o : Order) (b : Build) : Type 0 where
  pub places : (p : ℕ) → p < b.partitions → PartitionRight o.processors b p
  pub widths : (i : ℕ) → i < o.tasks → WideEnough o b i
  pub ranks : (i : ℕ) → i < o.tasks → (member_of b i).rank ≡ rank o (members_of b (home_of b i)) i
  pub windows : (i : ℕ) → i < o.tasks → WindowThere o (members_of b (home_of b i)) i
  pub starts : (i : ℕ) → i < o.tasks → StartsThere o (members_of b (home_of b i)) i
  pub in_time_lem : (i : ℕ) → i < o.tasks → InTime o (members_of b (home_of b i)) i
  pub responses : (i : ℕ) → i < o.tasks → IsWorst o (members_of b (home_of b i)) i (member_of b i).response

-- every rule of the check holds
pub record EveryRule (order build : List ℕ) : Type 0 where
  pub order_right : OrderRight order
  pub layout_right : LayoutRight (order_at order) build
  pub records_right : RecordsRight (order_at order) (build_at build)

-- the check answers 0 exactly when every rule holds
abbrev pub DoneExactly : Type 0
DoneExactly = (order build : List ℕ) → (check_answer order build ≡ Ok 0) ↔ EveryRule order build

-- it answers a number exactly when that rule is broken first, at that place: its rule is broken and every rule before it holds
abbrev pub RefusedExactly : Type 0
RefusedExactly = (order build : List ℕ) (refusal : Refusal) → (check_answer order build ≡ Err refusal) ↔ FirstOffence (check_rules order build) refusal

-- "the statement leaves one possible number, place, count": one answer is right, and it is the check's
abbrev pub OneCheckAnswer : Type 0
OneCheckAnswer = (order build : List ℕ) (answer : Answer) → (answer ≡ check_answer order build) ↔ RightAnswer 0 (check_rules order build) answer

abbrev pub NoOtherCheckAnswer : Type 0
NoOtherCheckAnswer = (order build : List ℕ) (one other : Answer) → RightAnswer 0 (check_rules order build) one → RightAnswer 0 (check_rules order build) other → one ≡ other

-- one possible answer for every input; the check is handed no memory to write
abbrev pub CheckingUnique : Type 0
CheckingUnique = (order build : List ℕ) (one other : Answer) → Checks order build one → Checks order build other → one ≡ other

abbrev pub CheckedUnique : Type 0
CheckedUnique = (order build : List ℕ) (one other : Result Accepted Refusal) → ChecksBoth order build one → ChecksBoth order build other → one ≡ other

-- "(0 for the check and for an order read)"
abbrev pub CountsNothing : Type 0
CountsNothing = (order build : List ℕ) → answer_count (check_answer order build) ≡ 0

-- what an accepted build has for the machine and the theory: an order within the limits, and verdicts that are the records
pub record AcceptedBuild (o : Order) (b : Build) : Type 0 where
  pub limits : WithinLimits o
  pub processors : b.processors ≡ o.processors
  pub tasks : b.tasks ≡ o.tasks
  pub partitions : InRange 1 most_partitions b.partitions
  pub places : (p : ℕ) → p < b.partitions → PartitionRight o.processors b p
  pub widths : (i : ℕ) → i < o.tasks → WideEnough o b i
  pub ranks : (i : ℕ) → i < o.tasks → (member_of b i).rank ≡ rank o (members_of b (home_of b i)) i
  pub passing : (i : ℕ) → i < o.tasks → verdict o (members_of b (home_of b i)) i ≡ Ok (member_of b i).response

abbrev pub DoneAccepts : Type 0
DoneAccepts = (order build : List ℕ) → check_answer order build ≡ Ok 0 → AcceptedBuild (order_at order) (build_at build)

-- and what is enough to be accepted
abbrev pub AcceptedDone : Type 0
AcceptedDone = (order build : List ℕ) → OrderRight order → LayoutRight (order_at order) build → AcceptedBuild (order_at order) (build_at build) → check_answer order build ≡ Ok 0
