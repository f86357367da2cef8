-- "Every answer has a number, a place and a count": the three in one word, as C gets them, and taken out again.
use Rattle.std.specs.Prelude.{ℕ, ◌+◌, ◌*◌, ◌/◌, ◌%◌, ◌<◌, ◌≡◌}
use Rattle.model.specs.Kinds.{Answer}
use Rattle.model.specs.Answer.{answer_number, answer_place, answer_count}

-- number + place * 2^16 + count * 2^32
unfoldable pub answer_word : Answer → ℕ
answer_word answer = answer_number answer + answer_place answer * 65_536 + answer_count answer * 4_294_967_296

-- what a caller takes out of a word
abbrev pub word_number : ℕ → ℕ
word_number word = word % 65_536

abbrev pub word_place : ℕ → ℕ
word_place word = word / 65_536 % 65_536

abbrev pub word_count : ℕ → ℕ
word_count word = word / 4_294_967_296

-- a word tells an answer: the number, the place and the count that come out of it are the answer's
pub record TellsAnswer (word : ℕ) (answer : Answer) : Type 0 where
  pub number : word_number word ≡ answer_number answer
  pub place : word_place word ≡ answer_place answer
  pub count : word_count word ≡ answer_count answer

-- an answer whose place fits 16 bits and whose count fits 32: every number does fit 16
pub record FitsWord (answer : Answer) : Type 0 where
  pub place : answer_place answer < 65_536
  pub count : answer_count answer < 4_294_967_296

-- the word of such an answer tells it
unfoldable pub WordTells : Type 0
WordTells = (answer : Answer) → FitsWord answer → (word : ℕ) → word ≡ answer_word answer → TellsAnswer word answer
