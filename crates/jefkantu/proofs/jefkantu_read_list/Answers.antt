use mathlib.Core.Path.{◌≡◌, sym, ◌∙◌}
use Rattle.jefkantu.specs.Lists.{set_after}
use Rattle.jefkantu.proofs.Surface.{set_done, set_refused}
use Rattle.jefkantu.proofs.jefkantu_read_list.Goals as goal
use Rattle.jefkantu.proofs.jefkantu_read_list.Goals.{in-Ok, in_default}

-- the list was accepted and its set told, or refused and the set left
written : (c : goal.After-answer_word) → let reading = c.read_list-reading.result in
    c.match-reading.set ≡ set_after reading.answer reading.set c.args.set.now
written c =
    let reading = c.read_list-reading.result in
    let set = c.args.set.now in
    elim c.match-reading.branch [
      | in-Ok w ↦ w.set-is ∙ sym (set_done reading.answer reading.set set w.in-Ok.is)
      | in_default w ↦ w.set-is ∙ sym (set_refused reading.answer reading.set set w.in_default.is)
    ]

pub returns : goal.returns
returns c =
    let same = c.read_list-reading.ensures in
    record { answered = c.answer_word.ensures ∙ rw same; written = written c ∙ rw same }
