-- "Points on the line": the cases marked P, one table; proved in proofs/Points.antt.
use Rattle.std.specs.Prelude.{ℕ, ◌≤◌, ◌≡◌, List, [], ◌∷◌, ◌++◌, true, length, drop, Ok, Some, None, Err}
use Rattle.model.specs.declared.order.Task.{Task}
use Rattle.model.specs.declared.order.Order.{Order}
use Rattle.model.specs.Kinds.{Answer}
use Rattle.model.specs.Limits.{task_of}
use Rattle.model.specs.Answer.{no_place, answer_number, answer_place, answer_count}
use Rattle.order.specs.Order.{order_bytes, read_order}
use Rattle.demand.specs.Verdict.{Verdict}
use Rattle.demand.specs.declared.Failing.TheVariants.{NoWindow, TooLate}
use Rattle.demand.specs.Priority.{Members}
use Rattle.demand.specs.Releases.{jobs}
use Rattle.demand.specs.Test.{window, start, response, verdict}
use Rattle.build.specs.Build.{build_bytes, build_at}
use Rattle.plan.specs.Plan.{Plans}
use Rattle.machine.specs.Pattern.{LegalScript}
use Rattle.script.specs.Script.{script_of}
use Rattle.finish.specs.Finish.{finish_ticks}
use Rattle.run.specs.Run.{Ran}
use Rattle.points.specs.Sample.{task, order_of, sample_on, sample_order, sample_build_on, sample_build, sample_releases, sample_script, sample_finishes, single, single_build}

-- "Every answer has a number, a place and a count."
pub record AnswerIs (answer : Answer) (number place count : ℕ) : Type 0 where
  pub number_is : answer_number answer ≡ number
  pub place_is : answer_place answer ≡ place
  pub count_is : answer_count answer ≡ count

-- what planning an order's bytes into an output answers, and leaves there
pub record PlanGives (order output : List ℕ) (number place count : ℕ) (after : List ℕ) : Type 0 where
  pub answer : Answer
  pub plans : Plans order output answer after
  pub answer_is : AnswerIs answer number place count

-- what running a script through a build answers, and leaves in the output
pub record RunGives (order build script output : List ℕ) (number place count : ℕ) (after : List ℕ) : Type 0 where
  pub answer : Answer
  pub ran : Ran order build script output answer after
  pub answer_is : AnswerIs answer number place count

-- an order's bytes are accepted: they read as that order, and are planned into any output with room for the so many bytes of this build
pub record OrderAccepted (order : List ℕ) (o : Order) (count : ℕ) (build : List ℕ) : Type 0 where
  pub reads : read_order order ≡ record { answer = Ok 0; order = o }
  pub planned : (output : List ℕ) → count ≤ length output → PlanGives order output 0 no_place count (build ++ drop count output)

-- an order's bytes are refused by their reader and by the planner, which changes nothing
pub record OrderRefused (order : List ℕ) (number place : ℕ) : Type 0 where
  pub reads : AnswerIs (read_order order).answer number place 0
  pub unplanned : (output : List ℕ) → PlanGives order output number place 0 output

-- "P1: the sample order gives the sample build."
pub record P1 : Type 0 where
  pub order_bytes_lem : order_bytes (sample_on 4) ≡ sample_order
  pub build_bytes_lem : build_bytes (sample_build_on 4) ≡ sample_build
  pub gives : OrderAccepted sample_order (sample_on 4) 19 sample_build

-- "P2: with M = 2 it is refused 11, place 2; with M = 3 it is accepted."
pub record P2 : Type 0 where
  pub refused : (output : List ℕ) → PlanGives (order_bytes (sample_on 2)) output 11 2 0 output
  pub accepted : OrderAccepted (order_bytes (sample_on 3)) (sample_on 3) 19 (build_bytes (sample_build_on 3))

-- "Members are (T, D, C).", all of one partition, whatever their width
abbrev pub member : (T D C : ℕ) → Task
member T D C = task 1 T D C

abbrev pub together : Members
together i = true

-- the order that they make, on one processor
abbrev pub alone : List Task → Order
alone members = order_of 1 members

-- of some members in one partition, what the test says of member i
abbrev pub VerdictIs : List Task → (i : ℕ) → Verdict → Type 0
VerdictIs members i v = verdict (alone members) together i ≡ v

-- "has response ..": it passes, and that is its worst response
abbrev pub HasResponse : List Task → (i worst : ℕ) → Type 0
HasResponse members i worst = VerdictIs members i (Ok worst)

-- "P3: alone, (10, 10, 10) has response 10."
abbrev pub P3 : Type 0
P3 = HasResponse (member 10 10 10 ∷ []) 0 10

abbrev pub four : List Task
four = member 4 4 2 ∷ member 100 50 2 ∷ member 100 100 1 ∷ []

-- "P4: (4, 4, 2), (100, 50, 2), (100, 100, 1) have responses 3, 4, 7. The last starts at 6, not 4."
pub record P4 : Type 0 where
  pub first : HasResponse four 0 3
  pub second : HasResponse four 1 4
  pub third : HasResponse four 2 7
  pub last_start : start (alone four) together 2 0 ≡ Some 6

abbrev pub five : (D : ℕ) → List Task
five D = member 10 10 4 ∷ member 14 13 4 ∷ member 14 D 4 ∷ []

-- "P5: (10, 10, 4), (14, 13, 4), (14, 13, 4) in one partition: the third's window is 28, its responses 12 and 14: late."
pub record P5 : Type 0 where
  pub third_window : window (alone (five 13)) together 2 ≡ Some 28
  pub third_jobs : jobs (task_of (alone (five 13)) 2) 28 ≡ 2
  pub third_first : response (alone (five 13)) together 2 0 ≡ Some 12
  pub third_second : response (alone (five 13)) together 2 1 ≡ Some 14
  pub third : VerdictIs (five 13) 2 (Err TooLate)

-- "P6: with D = 14 for the third, it passes with 14."
abbrev pub P6 : Type 0
P6 = HasResponse (five 14) 2 14

abbrev pub seven : (C : ℕ) → List Task
seven C = member 10 10 6 ∷ member 10 10 C ∷ []

-- "P7: (10, 10, 6), (10, 10, 4) have responses 9, 10."
pub record P7 : Type 0 where
  pub first : HasResponse (seven 4) 0 9
  pub second : HasResponse (seven 4) 1 10

-- "P8: with C = 5 for the second, the first has 10 and the second no window."
pub record P8 : Type 0 where
  pub first : HasResponse (seven 5) 0 10
  pub second_window : window (alone (seven 5)) together 1 ≡ None
  pub second : VerdictIs (seven 5) 1 (Err NoWindow)

-- "P9: in the sample build, releases (tick, task, length) (0,1,4), (1,0,4), (1,2,3) finish at 4, 8, 4."
pub record P9 : Type 0 where
  pub build_read : build_at sample_build ≡ sample_build_on 4
  pub script_read : script_of sample_script ≡ sample_releases
  pub legal : LegalScript (sample_on 4) sample_releases
  pub finish : finish_ticks (sample_on 4) (sample_build_on 4) sample_releases ≡ sample_finishes
  pub runs : (output : List ℕ) → 3 ≤ length output → RunGives sample_order sample_build sample_script output 0 no_place 3 (sample_finishes ++ drop 3 output)

-- the order with a single task is accepted, with its C for a response
abbrev pub SingleAccepted : (m T D C : ℕ) → Type 0
SingleAccepted m T D C = OrderAccepted (order_bytes (single m T D C)) (single m T D C) 9 (build_bytes (single_build m C))

-- it is refused, at task 0
abbrev pub SingleRefused : (m T D C number : ℕ) → Type 0
SingleRefused m T D C number = OrderRefused (order_bytes (single m T D C)) number 0

-- "P10: m = M is accepted, m = M + 1 gives 7."
pub record P10 : Type 0 where
  pub accepted : SingleAccepted 4 10 10 10
  pub refused : SingleRefused 5 10 10 10 7

-- "P11: T = 1,000,000 is accepted, 1,000,001 gives 8."
pub record P11 : Type 0 where
  pub accepted : SingleAccepted 1 1_000_000 10 10
  pub refused : SingleRefused 1 1_000_001 10 10 8

-- "P12: C = D is accepted, C = D + 1 gives 10."
pub record P12 : Type 0 where
  pub accepted : SingleAccepted 1 10 10 10
  pub refused : SingleRefused 1 10 10 11 10

-- "The P cases form a single proved table under one claim about the definitions"
pub record Points : Type 0 where
  pub p1 : P1
  pub p2 : P2
  pub p3 : P3
  pub p4 : P4
  pub p5 : P5
  pub p6 : P6
  pub p7 : P7
  pub p8 : P8
  pub p9 : P9
  pub p10 : P10
  pub p11 : P11
  pub p12 : P12
