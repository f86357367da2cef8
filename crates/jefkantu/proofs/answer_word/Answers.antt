use native.Mathlib.Omega.{arith}
use Rattle.model.specs.Answer.{answer_number, answer_place, answer_count}
use Rattle.jefkantu.specs.Word.{answer_word}
use Rattle.jefkantu.proofs.answer_word.Goals as goal

pub returns-in-Ok : goal.returns-in-Ok
unfolding answer_word answer_number answer_place answer_count
returns-in-Ok c = rw c.in-Ok.is (omega arith)

pub returns-in-Err : goal.returns-in-Err
unfolding answer_word answer_number answer_place answer_count
returns-in-Err c = rw c.in-Err.is (omega (arith, c.number.ensures, c.place.ensures))
