-- A choice by a test, and the test of a range.
use Rattle.std.specs.Prelude.{Bool, true, false, ℕ, leb}

abbrev pub pick : {A : Type 0} → Bool → A → A → A
pick true a b = a
pick false a b = b

-- from least to most, both counted
abbrev pub within : ℕ → ℕ → ℕ → Bool
within least most x = pick (leb least x) (leb x most) false
