-- The word tells the answer: number, place and count come out of it by division.
use Rattle.std.specs.Prelude.{Ok, Err}
use mathlib.Core.Path.{◌≡◌}
use Prim.Native.Nat.{ℕ, ◌+◌, ◌*◌, ◌<◌}
use native.Mathlib.Omega.{arith}
use Rattle.model.specs.Kinds.{Answer}
use Rattle.model.specs.Answer.{answer_number, answer_place, answer_count}
use Rattle.jefkantu.proofs.Causes.{cause_number_small}
use Rattle.jefkantu.specs.Word.{answer_word, word_number, word_place, word_count, WordTells}

number_small : (answer : Answer) → answer_number answer < 65_536
unfolding answer_number
number_small (Ok count) = omega arith
number_small (Err cause) = omega (arith, cause_number_small cause)

-- three numbers, two of them below 2^16, packed into one and taken out again
three : (number place count : ℕ) → number < 65_536 → place < 65_536 → let word = number + place * 65_536 + count * 4_294_967_296 in
    (word_number word ≡ number) × (word_place word ≡ place) × (word_count word ≡ count)
three number place count n p = (omega arith, omega arith, omega arith)

pub word_tells : WordTells
unfolding WordTells answer_word
word_tells answer fits word e =
    let t = three (answer_number answer) (answer_place answer) (answer_count answer) (number_small answer) fits.place in
    rw e (record { number = t.0; place = t.1; count = t.2 })
