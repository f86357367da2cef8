-- Records: the widths of their fields, the numbers in them, and their bytes.
use Rattle.std.specs.Prelude.{ℕ, zero, suc, ◌+◌, ◌*◌, ◌/◌, ◌%◌, ◌^◌, ◌<◌, List, [], ◌∷◌, ◌++◌}
use Rattle.bits.specs.Field.{field}

-- the lowest bytes of a number, the most significant first
unfoldable pub packed : ℕ → ℕ → List ℕ
packed zero number = []
packed (suc count) number = packed count (number / 256) ++ ((number % 256) ∷ [])

-- the widths of a record's fields in bits, in layout order
abbrev pub Layout : Type 0
Layout = List ℕ

-- how long a record is, in bits and in bytes
abbrev pub bits_in : Layout → ℕ
bits_in [] = 0
bits_in (width ∷ layout) = width + bits_in layout

abbrev pub bytes_in : Layout → ℕ
bytes_in layout = bits_in layout / 8

-- the numbers in its fields as one number, the first field most significant
abbrev pub number_in : Layout → List ℕ → ℕ
number_in [] numbers = 0
number_in (width ∷ layout) [] = 0
number_in (width ∷ layout) (number ∷ numbers) = number * 2 ^ bits_in layout + number_in layout numbers

-- "Fields are packed most significant bit first."
unfoldable pub record_bytes : Layout → List ℕ → List ℕ
record_bytes layout numbers = packed (bytes_in layout) (number_in layout numbers)

-- there is a number for each field, and it fits the field's width
abbrev pub FitIn : Layout → List ℕ → Type 0
FitIn [] [] = Unit
FitIn [] (number ∷ numbers) = ⊥
FitIn (width ∷ layout) [] = ⊥
FitIn (width ∷ layout) (number ∷ numbers) = (number < 2 ^ width) × FitIn layout numbers

-- the numbers in the fields of the record that begins at a bit of s
unfoldable pub numbers_at : List ℕ → ℕ → Layout → List ℕ
numbers_at s at [] = []
numbers_at s at (width ∷ layout) = field s at width ∷ numbers_at s (at + width) layout

-- each is a byte
unfoldable pub Bytes : List ℕ → Type 0
Bytes [] = Unit
Bytes (b ∷ s) = (b < 256) × Bytes s
