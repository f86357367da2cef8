-- "Fields are packed most significant bit first": the value of a field of bits in a list of bytes.
use Rattle.std.specs.Prelude.{ℕ, zero, suc, ◌+◌, ◌-◌, ◌*◌, ◌/◌, ◌%◌, ◌^◌, List, get_or}

-- bit k, counted from the most significant bit of the first byte; 0 past the end
unfoldable pub bit_at : List ℕ → ℕ → ℕ
bit_at s k = get_or s (k / 8) 0 / 2 ^ (7 - k % 8) % 2

-- the value of the bits from at on, as many as the width
unfoldable pub field : List ℕ → ℕ → ℕ → ℕ
field s at zero = 0
field s at (suc width) = field s at width * 2 + bit_at s (at + width)
