use borrow.Author.Tests.{eq-eqb, ne_eqb}
use mathlib.Core.Path.{◌≡◌, subst}
use mathlib.Core.List.{List, [], ◌∷◌, ◌++◌}
use Prim.Native.Nat.{ℕ}
use Rattle.form.specs.Written.{numeral}
use Rattle.put.specs.Put.{HasRoom, PutsAt}
use Rattle.put.proofs.Put.{room_first, room_next, puts_two}
use Rattle.list_form.specs.Items.{dash}
use Rattle.list_form.specs.ListText.{item_text}
use Rattle.list_out.proofs.Parts.{single_text, range_text, first_room}
use Rattle.list_out.proofs.put_item.Goals as goal

pub put_numeral-requires : goal.put_numeral-requires
put_numeral-requires c = first_room _ _ _ _ c.requires

pub returns-then-first-last-clause-put : goal.returns-then-first-last-clause-put
returns-then-first-last-clause-put c = rw (single_text _ _ (eq-eqb _ _ c.if-first-last.true)) c.put_numeral.ensures.put

-- what is put of a range behind its first number
abbrev from_dash : ℕ → List ℕ
from_dash last = (dash ∷ []) ++ numeral last

-- the room that each part of a range finds
module _ (at first last : ℕ) (output : List ℕ) (room : HasRoom at (item_text (record { first = first; last = last })) output) (other : first ≡ last → ⊥) where
  range-room : HasRoom at (numeral first ++ from_dash last) output
  range-room = subst (λ (b : List ℕ). HasRoom at b output) (range_text first last (ne_eqb _ _ other)) room

  dash-room : {next : ℕ} {middle : List ℕ} → PutsAt at (numeral first) output next middle → HasRoom next (from_dash last) middle
  dash-room put = room_next _ range-room put

pub put_byte-requires : goal.put_byte-requires
put_byte-requires c =
    let a = c.args in
    let o = a.out.now in
    room_first {a = dash ∷ []} _ (dash-room o.at a.first a.last o.bytes.now c.requires c.if-first-last.false c.put_numeral.ensures.put)

pub put_numeral-requires-2 : goal.put_numeral-requires-2
put_numeral-requires-2 c =
    let a = c.args in
    let o = a.out.now in
    room_next _ (dash-room o.at a.first a.last o.bytes.now c.requires c.if-first-last.false c.put_numeral.ensures.put) c.put_byte.ensures.put

pub returns-clause-put : goal.returns-clause-put
returns-clause-put c =
    let a = c.args in
    let o = a.out.now in
    rw (range_text _ _ (ne_eqb _ _ c.if-first-last.false))
    (puts_two _ (range-room o.at a.first a.last o.bytes.now c.requires c.if-first-last.false) c.put_numeral.ensures.put
    (puts_two _ (dash-room o.at a.first a.last o.bytes.now c.requires c.if-first-last.false c.put_numeral.ensures.put) c.put_byte.ensures.put c.put_numeral-2.ensures.put))
