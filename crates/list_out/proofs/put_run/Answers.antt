use mathlib.Core.Path.{◌≡◌, sym, ap, ◌∙◌, subst}
use mathlib.Core.Bool.{true}
use mathlib.Core.List.{List, ◌++◌}
use Prim.Native.Nat.{ℕ}
use Rattle.put.specs.Put.{HasRoom}
use Rattle.put.proofs.Put.{room_first, room_next, puts_two}
use Rattle.list_form.specs.Items.{Item, most_listed}
use Rattle.list_form.specs.Runs.{begins_run, run_end}
use Rattle.list_form.specs.ListText.{item_text}
use Rattle.list_out.specs.Parts.{comma_at, run_text}
use Rattle.list_out.proofs.Parts.{puts_none, no_run, one_run}
use Rattle.list_out.proofs.put_run.Goals as goal

pub returns-then-not-begins_run-clause-put : goal.returns-then-not-begins_run-clause-put
returns-then-not-begins_run-clause-put c =
    let a = c.args in
    rw (no_run a.out.now.at a.set a.processor (sym c.begins_run.ensures ∙ c.if-not-begins_run.true)) (puts_none _ _)

-- what is put, and the room for it
module _ (at set processor last : ℕ) (begins : begins_run set processor ≡ true) (ends : last ≡ run_end set processor most_listed) where
  abbrev item : Item
  item = record { first = processor; last = last }

  text : run_text at set processor ≡ comma_at at ++ item_text item
  text = one_run at set processor begins ∙ ap (λ (last : ℕ). comma_at at ++ item_text (record { first = processor; last = last })) (sym ends)

  text-room : (output : List ℕ) → HasRoom at (run_text at set processor) output → HasRoom at (comma_at at ++ item_text item) output
  text-room output room = subst (λ (b : List ℕ). HasRoom at b output) text room

pub put_comma-requires : goal.put_comma-requires
put_comma-requires c =
    let a = c.args in
    let o = a.out.now in
    room_first _ (text-room o.at a.set a.processor c.run_end-last.result (sym c.begins_run.ensures ∙ c.if-not-begins_run.false) c.run_end-last.ensures o.bytes.now c.requires.room)

pub put_item-requires : goal.put_item-requires
put_item-requires c =
    let a = c.args in
    let o = a.out.now in
    room_next _ (text-room o.at a.set a.processor c.run_end-last.result (sym c.begins_run.ensures ∙ c.if-not-begins_run.false) c.run_end-last.ensures o.bytes.now c.requires.room) c.put_comma.ensures.put

pub returns-clause-put : goal.returns-clause-put
returns-clause-put c =
    let a = c.args in
    let o = a.out.now in
    let begins = sym c.begins_run.ensures ∙ c.if-not-begins_run.false in
    rw (text o.at a.set a.processor c.run_end-last.result begins c.run_end-last.ensures)
    (puts_two _ (text-room o.at a.set a.processor c.run_end-last.result begins c.run_end-last.ensures o.bytes.now c.requires.room) c.put_comma.ensures.put c.put_item.ensures.put)
