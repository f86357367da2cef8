-- A set of processors as "a 64-bit word with processor 0 lowest".
use Rattle.std.specs.Prelude.{ℕ, zero, suc, ◌+◌, ◌*◌, ◌/◌, ◌%◌, ◌^◌, ◌<◌, Bool, true, false, eqb, leb, ltb}
use Rattle.laws.specs.Choice.{pick}
use Rattle.laws.specs.Sums.{only, sum}
use Rattle.model.specs.declared.build.Partition.{Partition}
use Rattle.model.specs.Limits.{most_processors}
use Rattle.model.specs.Processors.{volume_of}

-- a 64-bit word is a set
abbrev pub IsSet : ℕ → Type 0
IsSet set = set < 2 ^ most_processors

-- processor k is in the set
unfoldable pub has : (set k : ℕ) → Bool
has set k = eqb (set / 2 ^ k % 2) 1

-- the word of those below n that pass a test: the first is the lowest bit
unfoldable pub word_of : (ℕ → Bool) → (n : ℕ) → ℕ
word_of passes zero = 0
word_of passes (suc n) = only (passes 0) 1 + 2 * word_of (λ k. passes (suc k)) n

-- the set of the processors that pass a test
abbrev pub set_of : (ℕ → Bool) → ℕ
set_of passes = word_of passes most_processors

-- how many processors of the set are below k
abbrev pub processors_below : (set k : ℕ) → ℕ
processors_below set k = sum (λ j. only (has set j) 1) k

-- how many processors it has: the count of ones
unfoldable pub size_of_set : ℕ → ℕ
size_of_set set = processors_below set most_processors

-- the processors of either
unfoldable pub union : ℕ → ℕ → ℕ
union one other = set_of (λ k. pick (has one k) true (has other k))

-- the lowest processors, so many
unfoldable pub lowest_of : (set count : ℕ) → ℕ
lowest_of set count = set_of (λ k. pick (has set k) (ltb (processors_below set k) count) false)

-- so many processors from the first on
unfoldable pub span : (first count : ℕ) → ℕ
span first count = set_of (λ k. pick (leb first k) (ltb k (first + count)) false)

-- "each partition's set": its volume, from its first processor on
unfoldable pub partition_set : Partition → ℕ
partition_set place = span place.first (volume_of place)
