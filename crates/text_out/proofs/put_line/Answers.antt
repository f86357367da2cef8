use mathlib.Core.List.{List, [], ◌∷◌, ◌++◌}
use Prim.Native.Nat.{ℕ}
use Rattle.model.specs.declared.order.Task.{Task}
use Rattle.form.specs.Bytes.{semicolon, line_feed}
use Rattle.form.specs.Written.{numeral, time_text, line_text}
use Rattle.put.specs.Put.{HasRoom, PutsAt}
use Rattle.put.proofs.Put.{room_first, room_next, puts_two}
use Rattle.text_out.proofs.put_line.Goals as goal

-- the task, and what is still to be put
abbrev from_end : List ℕ
from_end = line_feed ∷ []

abbrev from_run : Task → List ℕ
from_run t = (semicolon ∷ time_text t.run) ++ from_end

abbrev from_deadline : Task → List ℕ
from_deadline t = (semicolon ∷ time_text t.deadline) ++ from_run t

abbrev from_period : Task → List ℕ
from_period t = (semicolon ∷ time_text t.period) ++ from_deadline t

-- the room that each part finds
module _ (at : ℕ) (t : Task) (output : List ℕ) (room : HasRoom at (line_text t) output) where
  line-room : HasRoom at (numeral t.width ++ from_period t) output
  unfolding line_text
  line-room = room

  module _ {p : ℕ} {first : List ℕ} (width_put : PutsAt at (numeral t.width) output p first) where
    period-room : HasRoom p (from_period t) first
    period-room = room_next (from_period t) line-room width_put

    module _ {d : ℕ} {second : List ℕ} (period_put : PutsAt p (semicolon ∷ time_text t.period) first d second) where
      deadline-room : HasRoom d (from_deadline t) second
      deadline-room = room_next _ period-room period_put

      module _ {r : ℕ} {third : List ℕ} (deadline_put : PutsAt d (semicolon ∷ time_text t.deadline) second r third) where
        run_room : HasRoom r (from_run t) third
        run_room = room_next _ deadline-room deadline_put

        end-room : {e : ℕ} {fourth : List ℕ} → PutsAt r (semicolon ∷ time_text t.run) third e fourth → HasRoom e from_end fourth
        end-room run_put = room_next _ run_room run_put

pub put_numeral-requires : goal.put_numeral-requires
put_numeral-requires c =
    let a = c.args in room_first _ (line-room a.out.now.at a.task a.out.now.bytes.now c.requires)

pub put_time-requires : goal.put_time-requires
put_time-requires c =
    let a = c.args in room_first _ (period-room a.out.now.at a.task a.out.now.bytes.now c.requires c.put_numeral.ensures.put)

pub put_time-requires-2 : goal.put_time-requires-2
put_time-requires-2 c =
    let a = c.args in room_first _ (deadline-room a.out.now.at a.task a.out.now.bytes.now c.requires c.put_numeral.ensures.put c.put_time.ensures.put)

pub put_time-requires-3 : goal.put_time-requires-3
put_time-requires-3 c =
    let a = c.args in room_first _ (run_room a.out.now.at a.task a.out.now.bytes.now c.requires c.put_numeral.ensures.put c.put_time.ensures.put c.put_time-2.ensures.put)

pub put_byte-requires : goal.put_byte-requires
put_byte-requires c =
    let a = c.args in (end-room a.out.now.at a.task a.out.now.bytes.now c.requires c.put_numeral.ensures.put c.put_time.ensures.put c.put_time-2.ensures.put c.put_time-3.ensures.put)

pub returns-clause-put : goal.returns-clause-put
unfolding line_text
returns-clause-put c =
    let a = c.args in
    puts_two _ (line-room a.out.now.at a.task a.out.now.bytes.now c.requires) c.put_numeral.ensures.put
    (puts_two _ (period-room a.out.now.at a.task a.out.now.bytes.now c.requires c.put_numeral.ensures.put) c.put_time.ensures.put
    (puts_two _ (deadline-room a.out.now.at a.task a.out.now.bytes.now c.requires c.put_numeral.ensures.put c.put_time.ensures.put) c.put_time-2.ensures.put
    (puts_two _ (run_room a.out.now.at a.task a.out.now.bytes.now c.requires c.put_numeral.ensures.put c.put_time.ensures.put c.put_time-2.ensures.put) c.put_time-3.ensures.put c.put_byte.ensures.put)))
