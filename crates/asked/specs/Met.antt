-- The search: the smallest w with base + what is asked by w ≤ w + 1.
use Rattle.std.specs.Prelude.{ℕ, ◌+◌, ◌≤◌, ◌<◌, ◌≡◌, leb, Some, None, Option}
use Rattle.search.specs.Smallest.{smallest}

unfoldable pub met_by : (work : ℕ → ℕ) → (base limit : ℕ) → Option ℕ
met_by work base limit = smallest (λ w. leb (base + work w) (w + 1)) 0 limit

-- no w below this one meets it
abbrev pub UnmetBelow : (work : ℕ → ℕ) → (base w : ℕ) → Type 0
UnmetBelow work base w = (s : ℕ) → s < w → s + 1 < base + work s

-- nothing more is asked from what was found to before the next release
abbrev pub StillFrom : (work : ℕ → ℕ) → Option ℕ → (next : ℕ) → Type 0
StillFrom work (Some w) next = (s : ℕ) → w ≤ s → s < next → work s ≡ work w
StillFrom work None next = Unit {0}
