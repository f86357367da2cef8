-- When members are released next, by a tick and by a later one.
use Rattle.std.specs.Prelude.{ℕ, ◌+◌, ◌*◌, ◌/◌, ◌≤◌, ◌<◌, ◌≡◌, List, leb, length, get_or}
use Rattle.laws.specs.Sums.{only}
use Rattle.model.specs.Limits.{most_tasks}
use Rattle.asked.specs.Rows.{asked_by, period_at}
use Rattle.asked.specs.declared.rows.Rows.{Rows}

-- past every release that a search looks at
abbrev pub far : ℕ
far = 4_000_000

-- the first release of the member of a rank after w
abbrev pub due_after : Rows → (w rank : ℕ) → ℕ
due_after rows w rank = (w / period_at rows rank + 1) * period_at rows rank

-- the release that follows where this one has come by w
abbrev pub onward : (rows : Rows) → (due : List ℕ) → (w rank : ℕ) → ℕ
onward rows due w rank = get_or due rank 0 + only (leb (get_or due rank 0) w) 1 * period_at rows rank

-- releases that are not far, each in its place
pub record Dues (due : List ℕ) (count : ℕ) : Type 0 where
  pub places : length due ≡ most_tasks
  pub near : (r : ℕ) → r < count → get_or due r 0 ≤ 3_000_000

-- what was asked by an earlier tick, and the releases that follow it
pub record DuesBefore (rows : Rows) (count all w : ℕ) (due : List ℕ) : Type 0 where
  pub earlier : ℕ
  pub before : earlier ≤ w
  pub asked : all ≡ asked_by rows count earlier
  pub places : length due ≡ most_tasks
  pub dues : (r : ℕ) → r < count → get_or due r 0 ≡ due_after rows earlier r
