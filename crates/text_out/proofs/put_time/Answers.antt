use Prim.Native.Nat.{ℕ, ◌/◌}
use mathlib.Core.List.{List, [], ◌∷◌, ◌++◌}
use Rattle.form.specs.Bytes.{semicolon, point}
use Rattle.form.specs.Written.{numeral, last_digits, time_text}
use Rattle.put.specs.Put.{HasRoom, PutsAt}
use Rattle.put.proofs.Put.{room_first, room_next, puts_two}
use Rattle.text_out.proofs.put_time.Goals as goal

-- the ticks, and what is put from the point on
abbrev from_mark : ℕ → List ℕ
from_mark x = (point ∷ []) ++ last_digits 2 x

-- the room that each finds
module _ (at ticks : ℕ) (output : List ℕ) (room : HasRoom at (semicolon ∷ time_text ticks) output)
    {mark : ℕ} {middle : List ℕ} (first : PutsAt at (semicolon ∷ []) output mark middle) where
  whole_room : HasRoom mark (numeral (ticks / 100) ++ from_mark ticks) middle
  unfolding time_text
  whole_room = room_next (numeral (ticks / 100) ++ from_mark ticks) room first

  mark-room : {next : ℕ} {after : List ℕ} → PutsAt mark (numeral (ticks / 100)) middle next after → HasRoom next (from_mark ticks) after
  mark-room second = room_next _ whole_room second

pub put_numeral-requires : goal.put_numeral-requires
put_numeral-requires c =
    let o = c.args.out.now in room_first _ (whole_room o.at c.args.ticks o.bytes.now c.requires c.put_byte.ensures.put)

pub put_byte-requires-2 : goal.put_byte-requires-2
put_byte-requires-2 c =
    let o = c.args.out.now in room_first {a = point ∷ []} _ (mark-room o.at c.args.ticks o.bytes.now c.requires c.put_byte.ensures.put c.put_numeral.ensures.put)

pub put_digits-requires : goal.put_digits-requires
put_digits-requires c =
    let o = c.args.out.now in room_next _ (mark-room o.at c.args.ticks o.bytes.now c.requires c.put_byte.ensures.put c.put_numeral.ensures.put) c.put_byte-2.ensures.put

pub returns-clause-put : goal.returns-clause-put
unfolding time_text
returns-clause-put c =
    let o = c.args.out.now in
    puts_two _ c.requires c.put_byte.ensures.put
    (puts_two _ (whole_room o.at c.args.ticks o.bytes.now c.requires c.put_byte.ensures.put) c.put_numeral.ensures.put
    (puts_two _ (mark-room o.at c.args.ticks o.bytes.now c.requires c.put_byte.ensures.put c.put_numeral.ensures.put) c.put_byte-2.ensures.put c.put_digits.ensures.put))
