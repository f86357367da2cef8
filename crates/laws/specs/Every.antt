-- A test of each number below a bound.
use Rattle.std.specs.Prelude.{Bool, true, ◌&&◌, ℕ, zero, suc}

-- each of 0, 1, .., n - 1 passes
unfoldable pub every : (ℕ → Bool) → ℕ → Bool
every passes zero = true
every passes (suc n) = every passes n && passes n
