-- "the smallest t from .. to H with ..": one definition for every test.
use Rattle.std.specs.Prelude.{◌≡◌, Bool, true, false, ℕ, zero, suc, ◌-◌, ◌≤◌, ◌<◌, Some, None, Option}

-- the first of the k numbers from, from + 1, .. that passes
unfoldable pub first_of : (ℕ → Bool) → ℕ → ℕ → Option ℕ
first_of passes from zero = None
first_of passes from (suc k) = elim (passes from) [ true ↦ Some from | false ↦ first_of passes (suc from) k ]

-- the smallest number from least to most that passes, or Nothing
unfoldable pub smallest : (ℕ → Bool) → ℕ → ℕ → Option ℕ
smallest passes least most = first_of passes least (suc most - least)

-- the number that a search found, 0 if there is none
abbrev pub number_found : Option ℕ → ℕ
number_found (Some t) = t
number_found None = 0

-- what it is to be that number
pub record IsSmallest (passes : ℕ → Bool) (least most t : ℕ) : Type 0 where
  pub from : least ≤ t
  pub upto : t ≤ most
  pub holds : passes t ≡ true
  pub below : (s : ℕ) → least ≤ s → s < t → passes s ≡ false

-- what a search's answer says
abbrev pub Answers : (ℕ → Bool) → ℕ → ℕ → Option ℕ → Type 0
Answers passes least most (Some t) = IsSmallest passes least most t
Answers passes least most None = (s : ℕ) → least ≤ s → s ≤ most → passes s ≡ false
