-- Bytes put into the caller's output from a place on.
use Rattle.std.specs.Prelude.{ℕ, ◌+◌, ◌≤◌, ◌≡◌, List, ◌++◌, length, take, drop}

-- the output with some bytes put at a place
unfoldable pub put_at : (at : ℕ) → List ℕ → List ℕ → List ℕ
put_at at bytes output = take at output ++ (bytes ++ drop (at + length bytes) output)

-- there is room for them
pub record HasRoom (at : ℕ) (bytes output : List ℕ) : Type 0 where
  pub fits : at + length bytes ≤ length output

-- those bytes are put there, and the next ones go behind them
pub record PutsAt (at : ℕ) (bytes output : List ℕ) (next : ℕ) (after : List ℕ) : Type 0 where
  pub written : after ≡ put_at at bytes output
  pub next_at : next ≡ at + length bytes
