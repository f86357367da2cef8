-- A line below the work that is asked: members of periods within reach ask at least their share of every tick, the others at least what they have asked.
use Rattle.std.specs.Prelude.{ℕ, ◌+◌, ◌-◌, ◌*◌, ◌/◌, leb, ltb}
use Rattle.laws.specs.Choice.{pick}
use Rattle.laws.specs.Sums.{sum}
use Rattle.asked.specs.declared.lines.Line.{Line}
use Rattle.asked.specs.Rows.{whole, period_at, cost_at, share_at}
use Rattle.asked.specs.declared.rows.Rows.{Rows}

-- of one member: what of its work by w rests, and its share of every later tick
abbrev pub line_of : (period cost share w reach : ℕ) → Line
line_of period cost share w reach = record { rest = pick (leb period reach) 0 ((w / period + 1) * cost); slope = pick (leb period reach) share 0 }

abbrev pub line_at : Rows → (rank w reach : ℕ) → Line
line_at rows rank w reach = line_of (period_at rows rank) (cost_at rows rank) (share_at rows rank) w reach

-- of so many members
unfoldable pub line_in : Rows → (count w reach : ℕ) → Line
line_in rows count w reach = record { rest = sum (λ r. (line_at rows r w reach).rest) count; slope = sum (λ r. (line_at rows r w reach).slope) count }

-- where a line that rests on so much and rises so would be met, as far as searches go
unfoldable pub line_end : (rest slope : ℕ) → ℕ
line_end rest slope = pick (leb whole slope) rest (pick (ltb 2_000_000_000 rest) rest (rest * whole / (whole - slope)))
