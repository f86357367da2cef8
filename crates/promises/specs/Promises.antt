-- What the customer was promised: the three conditions of acceptance in the customer's words, the requests that have landed, and the points on the line.
-- Each field is a claim that stands, with its definitions, where its `use` line says; proofs/Promises.antt cites its proof.
use Rattle.order_facts.specs.Claims.{OneReading, OneWriting, RefusedReadsZero, AcceptedExactly, ReadingGivesBack, BytesReadBack, WritesOnlyCountedFront, ReadingUnique, WritingUnique}
use Rattle.text_facts.specs.Claims.{TextAcceptedExactly, OneValue, OneTime, OneTask, OneText, OneTextReading, LinesAre, LinesRefusedExactly, ShapeRefusedExactly, NumberRefusedExactly, OneTextWriting, WrittenIsText, WrittenIsShort, NoLeadingZeros, TextReadBack, ReadTextKeeps, WriteTextKeeps, ReadTextUnique, WriteTextUnique}
use Rattle.text_facts.specs.Cases.{Cases}
use Rattle.sets.specs.Claims.{SameProcessors}
use Rattle.list_facts.specs.Claims.{ListAcceptedExactly, SetIsListed, OneList, ListAnswers, ListRefuses, LengthRefusedExactly, BreakRefusedExactly, OverRefusedExactly, FallRefusedExactly, WritesRuns, RunsOnce, WrittenListShort, SameBytesExactly, OneListWriting, ListReadBack, WriteListKeeps, ReadListUnique, WriteListUnique}
use Rattle.list_facts.specs.Cases.{ListCases}
use Rattle.partition_sets.specs.Claims.{SetsGivenExactly, SetsRight, SetsApart, OneSetsAnswer, SetsKeep, SetsUnique}
use Rattle.build_facts.specs.Facts.{LengthRight, ReadsBack, WritesBack}
use Rattle.demand.specs.Meaning.{EveryVerdictMeans, NoStartNever, AlonePasses}
use Rattle.turns.specs.Claims.{TurnBeforeMeans, NextMeans}
use Rattle.fitting.specs.Claims.{AcceptsMeans, FirstFitPlaces, FirstFitRefuses, FirstFitEnds}
use Rattle.fit.specs.Claims.{FittedIsBuilt}
use Rattle.plan.specs.Claims.{OnePlanAnswer, PlansOnlyCountedFront, RefusesWhereFitRunsOut, SoundIsPlanned, PlanningUnique}
use Rattle.inspect.specs.Claims.{DoneExactly, OneCheckAnswer, CheckingUnique}
use Rattle.agree.specs.Claims.{PlannedIsAccepted}
use Rattle.script.specs.Claims.{RulesOfScripts, OneScriptAnswer, ScriptBytes}
use Rattle.run.specs.Claims.{RunDoneExactly, OneRunAnswer, RunsOnlyFront, WritesFinishes, RunsIsolated, EmptyScript, RunningUnique}
use Rattle.finish.specs.Claims.{EveryJobFinishes, FinishTickIsOne}
use Rattle.condition.specs.Kept.{AcceptedIsKept}
use Rattle.condition.specs.Runs.{RunsInTime}
use Rattle.critical.specs.Claims.{BlockerIsThere, CriticalIsLegal, CriticalIsExact, TooLateHasFirst, TooLateMisses}
use Rattle.late.specs.Claims.{ShownExactly, ShowsTheNamed, OneLateAnswer, ShowsOnlyFront, ShowingUnique, RefusedLateIsLate, WrittenIsLate}
use Rattle.late.specs.Exact.{WorstIsExact, ExactWhereWindowsClose}
use Rattle.points.specs.Points as table
use Rattle.points.specs.Late.{P5Late}

-- "Every order, build and script, however damaged, gets an answer": each function of the library has a contract and no demand on its input,
-- and a proved function ends. The contracts say which answer:
pub record Condition1 : Type 0 where
  -- "It refuses what the definition lists, with that number and place, for that cause only": the first rule that is broken, and no other
  pub read : OneReading
  pub written : OneWriting
  pub planned : OnePlanAnswer
  pub checked : OneCheckAnswer
  pub script : OneScriptAnswer
  pub run : OneRunAnswer
  -- "and a refusal changes no byte of the caller's": only the counted front changes, and a refusal counts none
  pub writer_keeps : WritesOnlyCountedFront
  pub planner_keeps : PlansOnlyCountedFront
  pub runner_keeps : RunsOnlyFront
  pub reader_clears : RefusedReadsZero
  -- one answer and one content of the memory for every input
  pub one_reading : ReadingUnique
  pub one_writing : WritingUnique
  pub one_plan : PlanningUnique
  pub one_check : CheckingUnique
  pub one_run : RunningUnique

pub record Condition2 : Type 0 where
  -- "Orders are written and read by the bit layout, and reading gives back what was written.", builds and scripts too
  pub order_layout : AcceptedExactly
  pub order_back : BytesReadBack
  pub written_back : ReadingGivesBack
  pub build_length_lem : LengthRight
  pub build_back : ReadsBack
  pub build_bytes_lem : WritesBack
  pub script_bytes_lem : ScriptBytes
  -- "An order's build is the one that first fit by decreasing volume gives": whose turn it is, which partition takes it, when it is refused
  pub turns : TurnBeforeMeans
  pub next : NextMeans
  pub takes : AcceptsMeans
  pub places : FirstFitPlaces
  pub refuses : FirstFitRefuses
  pub ends : FirstFitEnds
  pub build : FittedIsBuilt
  -- "with the definition's response test"
  pub test : EveryVerdictMeans
  pub starts : NoStartNever
  pub alone : AlonePasses
  -- "a sound order with room for its build is refused only where that method runs out of accelerators"
  pub sound : SoundIsPlanned
  pub runs_out : RefusesWhereFitRunsOut
  -- "The check says yes exactly when every listed rule holds.", and so to whatever the planner writes
  pub check : DoneExactly
  pub agrees : PlannedIsAccepted
  -- "An accepted run writes for each record the finish tick that the step machine gives it."
  pub accepted_run : RunDoneExactly
  pub accepted_script : RulesOfScripts
  pub finishes : WritesFinishes
  pub every-job : EveryJobFinishes
  pub one_tick : FinishTickIsOne
  pub isolated : RunsIsolated
  pub empty : EmptyScript

pub record Condition3 : Type 0 where
  -- "For any build the check accepts, whoever drew it, and any legal arrivals with jobs from one tick to their run time: no accelerator serves
  -- two jobs at once, each job runs on enough accelerators of its own partition, and finishes by its deadline and within the recorded response."
  pub any_build : AcceptedIsKept
  -- the same of the finish ticks that a run writes
  pub any_run : RunsInTime

-- R-1: "the form's text read as the buyer typed it, or refused"
pub record OrderForm : Type 0 where
  -- accepted exactly when it is lines of numbers within the limits, and then the order has just those numbers
  pub as_typed : TextAcceptedExactly
  pub one_value : OneValue
  pub one_time : OneTime
  pub one_task : OneTask
  pub one_text : OneText
  -- or refused, for its cause and at its line only
  pub read : OneTextReading
  pub lines : LinesAre
  pub too_many : LinesRefusedExactly
  pub unshaped : ShapeRefusedExactly
  pub over : NumberRefusedExactly
  pub written : OneTextWriting
  -- "Also write the text from an order, with a point and two decimals; reading it back gives the same order."
  pub text : WrittenIsText
  pub digits : NoLeadingZeros
  pub longest : WrittenIsShort
  pub back : TextReadBack
  -- only the counted front changes; one answer and one content of the memory
  pub reader_keeps : ReadTextKeeps
  pub writer_keeps : WriteTextKeeps
  pub one_reading : ReadTextUnique
  pub one_writing : WriteTextUnique
  -- "7,5 is 750 ticks and 0.01 is 1."
  pub accident : Cases

-- R-2: "Integrators pin processes with List Format from cpuset(7), as `0-3,7`."
pub record ProcessorLists : Type 0 where
  -- "each partition's set": of an accepted build, its processors, below M, as many as its volume, and none in two sets
  pub given : SetsGivenExactly
  pub partitions : SetsRight
  pub apart : SetsApart
  pub same_set : SameProcessors
  -- "as a list: rising, touching numbers joined, a pair as a range, a single one alone"
  pub runs : WritesRuns
  pub one_row : RunsOnce
  pub longest : WrittenListShort
  -- "Two sets give the same written bytes exactly when equal."
  pub same_bytes : SameBytesExactly
  -- "Read any such list back, unsorted or overlapping too, as its set": accepted exactly when it is such a list
  pub as_listed : ListAcceptedExactly
  pub its_set : SetIsListed
  pub one_list : OneList
  pub back : ListReadBack
  -- or refused, for its cause and at its place only: "the lowest place decides"
  pub counts : ListAnswers
  pub refuses : ListRefuses
  pub too_long : LengthRefusedExactly
  pub broken : BreakRefusedExactly
  pub over : OverRefusedExactly
  pub falling : FallRefusedExactly
  -- "12 output too short, last"
  pub written : OneListWriting
  pub checked : OneSetsAnswer
  -- only the counted front changes; one answer and one content of the memory
  pub writer_keeps : WriteListKeeps
  pub giver_keeps : SetsKeep
  pub one_reading : ReadListUnique
  pub one_writing : WriteListUnique
  pub one_giving : SetsUnique
  -- lists worked out
  pub worked_out : ListCases

-- R-3: "Support wants a release pattern that really misses."
pub record LateFrame : Type 0 where
  -- "Whenever the check answers 29, .. a legal script, of any length, exists in which a job of the named task finishes after its deadline in that partition."
  pub late : RefusedLateIsLate
  -- "Give this one": given exactly then, as bytes that 40 to 45 accept, in which the named task's last record is late
  pub given : ShownExactly
  pub named : ShowsTheNamed
  pub written : WrittenIsLate
  -- "the lower member with the largest C, lowest number among equals", "its first late job"
  pub blocker : BlockerIsThere
  pub first : TooLateHasFirst
  -- of any members, and up to any job of the window: legal, and to the tick as the test says
  pub legal : CriticalIsLegal
  pub to_the_tick : CriticalIsExact
  pub misses : TooLateMisses
  -- late in the test means late in the box: the worst response is taken by a job of a legal script and by none exceeded
  pub worst : WorstIsExact
  pub exact : ExactWhereWindowsClose
  -- or refused, for its cause only; only the counted front changes; one answer and one content of the memory
  pub refuses : OneLateAnswer
  pub keeps : ShowsOnlyFront
  pub one_showing : ShowingUnique
  -- P5 as a late frame
  pub worked_out : P5Late

pub record Promises : Type 0 where
  pub condition_1 : Condition1
  pub condition_2 : Condition2
  pub condition_3 : Condition3
  pub order_form : OrderForm
  pub processor_lists : ProcessorLists
  pub late_frame : LateFrame
  -- "Points on the line", P1 to P12
  pub points : table.Points
