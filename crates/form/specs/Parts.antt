-- A list of bytes cut at those that pass a test: lines at line feeds, fields at semicolons, a time at its comma or point.
use Rattle.std.specs.Prelude.{ℕ, zero, suc, ◌+◌, Bool, List, [], ◌∷◌, length, drop}
use Rattle.laws.specs.Choice.{pick}
use Rattle.laws.specs.Sums.{only}

-- how many bytes pass
unfoldable pub count : (ℕ → Bool) → List ℕ → ℕ
count passes [] = 0
count passes (b ∷ s) = only (passes b) 1 + count passes s

-- the bytes before the first that passes, all of them where none does
unfoldable pub up_to : (ℕ → Bool) → List ℕ → List ℕ
up_to passes [] = []
up_to passes (b ∷ s) = pick (passes b) [] (b ∷ up_to passes s)

-- the bytes behind it
abbrev pub behind : (ℕ → Bool) → List ℕ → List ℕ
behind passes s = drop (suc (length (up_to passes s))) s

-- what stands behind the first n that pass
unfoldable pub behind_all : (ℕ → Bool) → ℕ → List ℕ → List ℕ
behind_all passes zero s = s
behind_all passes (suc n) s = behind_all passes n (behind passes s)

-- part n, counted from 0: there is one more than there are bytes that pass
abbrev pub part : (ℕ → Bool) → ℕ → List ℕ → List ℕ
part passes n s = up_to passes (behind_all passes n s)
