-- What is known before each turn: how the placing stands, the line of the placed tasks, and what is known of them. Inner definitions.
use Rattle.std.specs.Prelude.{◌≡◌, List, ◌+◌, ◌<◌, length, Result, Ok}
use Rattle.model.specs.declared.order.Order.{Order}
use Rattle.model.specs.declared.answer.Refusal.{Refusal}
use Rattle.laws.specs.Joined.{filled}
use Rattle.model.specs.declared.build.Member.{Member}
use Rattle.model.specs.Limits.{most_tasks, zero_member}
use Rattle.model.specs.Rules.{WithinLimits}
use Rattle.asked.specs.declared.rows.Rows.{Rows}
use Rattle.roster.specs.Rows.{RowsByNumber}
use Rattle.fitting.specs.declared.Placing.{Placing}
use Rattle.fitting.specs.Steps.{told, turn_taken, first_fit}
use Rattle.fitting.specs.Standing.{Stands}
use Rattle.placing.specs.declared.TaskLine.{TaskLine}
use Rattle.placing.specs.Known.{Known, InLine}
use Rattle.fit.specs.Recorded.{recorded_as}

pub record Lines (o : Order) (s : Placing) (line : TaskLine) : Type 0 where
  pub stands : Stands o line.placed s
  pub key_places : length line.keys ≡ most_tasks
  pub in_line : InLine o s.homes line.keys line.placed
  pub known : Known o s.homes line.results

-- a turn is to be taken
pub record Taking (o : Order) (table : Rows) (s : Placing) (line : TaskLine) : Type 0 where
  pub limits : WithinLimits o
  pub rows : RowsByNumber o o.tasks table
  pub early : line.placed < o.tasks
  pub lines : Lines o s line

-- what comes of it
pub record Taken (o : Order) (s : Placing) (line : TaskLine) (r : Result Placing Refusal) (after : TaskLine) : Type 0 where
  pub answer : r ≡ told (turn_taken o s)
  pub lines : (t : Placing) → r ≡ Ok t → Lines o t after
  pub one_more : (t : Placing) → r ≡ Ok t → after.placed ≡ line.placed + 1

-- what comes of all turns
pub record AllTaken (o : Order) (r : Result Placing Refusal) (line : TaskLine) : Type 0 where
  pub answer : r ≡ told (first_fit o)
  pub lines : (s : Placing) → r ≡ Ok s → Lines o s line
  pub all : (s : Placing) → r ≡ Ok s → line.placed ≡ o.tasks

-- all tasks stand in line, with their worst responses
pub record Recording (line : TaskLine) : Type 0 where
  pub order : Order
  pub placing : Placing
  pub limits : WithinLimits order
  pub all : line.placed ≡ order.tasks
  pub lines : Lines order placing line

-- then each has its record
abbrev pub RecordsOf : (line : TaskLine) → Recording line → List Member → Type 0
RecordsOf line so members = members ≡ filled (recorded_as so.order so.placing.homes) zero_member most_tasks so.order.tasks
