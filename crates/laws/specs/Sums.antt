-- Sums and the largest of what is given by number, with what counts picked by a test.
use Rattle.std.specs.Prelude.{Bool, true, false, ℕ, zero, suc, ◌+◌, min, max}

-- x where the test passes, else 0
abbrev pub only : Bool → ℕ → ℕ
only true x = x
only false x = 0

-- f 0 + f 1 + .. + f (n - 1)
unfoldable pub sum : (ℕ → ℕ) → ℕ → ℕ
sum f zero = 0
sum f (suc n) = sum f n + f n

-- the largest of f 0, f 1, .., f (n - 1), and 0 of none
unfoldable pub largest : (ℕ → ℕ) → ℕ → ℕ
largest f zero = 0
largest f (suc n) = max (largest f n) (f n)

-- the least of f 0, f 1, .., f (n - 1), and a bound
unfoldable pub least : (bound : ℕ) → (ℕ → ℕ) → ℕ → ℕ
least bound f zero = bound
least bound f (suc n) = min (least bound f n) (f n)
