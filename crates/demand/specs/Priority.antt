-- "Within one partition, smaller D has higher priority; equal D goes by lower task number. Rank is the number of higher-priority members."
use Rattle.std.specs.Prelude.{Bool, ◌&&◌, ◌||◌, ℕ, ltb, eqb}
use Rattle.laws.specs.Sums.{only, sum}
use Rattle.model.specs.declared.order.Order.{Order}
use Rattle.model.specs.declared.build.Build.{Build}
use Rattle.model.specs.Limits.{task_of, home_of}

-- the members of a partition: which of an order's tasks they are
abbrev pub Members : Type 0
Members = ℕ → Bool

-- those of partition p, as a build records them
unfoldable pub members_of : Build → (p : ℕ) → Members
members_of b p task = eqb (home_of b task) p

abbrev pub deadline_of : Order → ℕ → ℕ
deadline_of o i = (task_of o i).deadline

-- "smaller D has higher priority; equal D goes by lower task number": task j over task i
unfoldable pub outranks : Order → (j i : ℕ) → Bool
outranks o j i = ltb (deadline_of o j) (deadline_of o i) || (eqb (deadline_of o j) (deadline_of o i) && ltb j i)

-- j is a higher-priority member than i
unfoldable pub higher : Order → Members → (i j : ℕ) → Bool
higher o member i j = member j && outranks o j i

-- j is a lower-priority member than i
unfoldable pub lower : Order → Members → (i j : ℕ) → Bool
lower o member i j = member j && outranks o i j

-- "Rank is the number of higher-priority members."
unfoldable pub rank : Order → Members → ℕ → ℕ
rank o member i = sum (λ j. only (higher o member i j) 1) o.tasks
