use mathlib.Core.Path.{◌≡◌, sym, ◌∙◌}
use Rattle.jefkantu.specs.Surface.{numbers_after}
use Rattle.jefkantu.proofs.Surface.{numbers_done, numbers_refused}
use Rattle.jefkantu.proofs.jefkantu_read_order.Goals as goal
use Rattle.jefkantu.proofs.jefkantu_read_order.Goals.{in-Ok, in_default}

-- the order was accepted and told, or refused and the numbers left
written : (c : goal.After-answer_word) → let reading = c.read_order-reading.result in
    c.match-reading.numbers ≡ numbers_after reading.answer reading.order c.args.numbers.now
written c =
    let reading = c.read_order-reading.result in
    let numbers = c.args.numbers.now in
    elim c.match-reading.branch [
      | in-Ok w ↦ w.numbers-is ∙ w.order_numbers.ensures ∙ sym (numbers_done reading.answer reading.order numbers w.in-Ok.is)
      | in_default w ↦ w.numbers-is ∙ sym (numbers_refused reading.answer reading.order numbers w.in_default.is)
    ]

pub returns : goal.returns
returns c =
    let same = c.read_order-reading.ensures in
    record { answered = c.answer_word.ensures ∙ rw same; written = written c ∙ rw same }
