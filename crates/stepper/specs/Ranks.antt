-- A set of ranks as a number: the bit of each.
use Rattle.std.specs.Prelude.{ℕ, zero, suc, ◌/◌, ◌%◌, ◌<◌, ◌≡◌}

-- 1 where the rank is in the set
unfoldable pub rank_bit : (ranks rank : ℕ) → ℕ
rank_bit ranks zero = ranks % 2
rank_bit ranks (suc rank) = rank_bit (ranks / 2) rank

-- the lowest rank of a set
pub record LowestRank (ranks rank : ℕ) : Type 0 where
  pub inside : rank_bit ranks rank ≡ 1
  pub none_below : (r : ℕ) → r < rank → rank_bit ranks r ≡ 0
