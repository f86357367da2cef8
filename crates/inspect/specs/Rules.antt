-- "The check: the order's 1 to 10, then 20 to 23 in turn, all partitions for 24, all tasks for 25, all for 26, then task by task 27 to 30."
use Rattle.std.specs.Prelude.{ℕ, ◌≡◌, List, ◌++◌, Result}
use Rattle.model.specs.declared.order.Order.{Order}
use Rattle.model.specs.declared.build.Build.{Build}
use Rattle.model.specs.Kinds.{Answer}
use Rattle.model.specs.declared.answer.Refusal.{Refusal}
use Rattle.model.specs.Rules.{Rule, first_broken, given}
use Rattle.order.specs.Order.{order_at, order_rules}
use Rattle.build.specs.Build.{build_at}
use Rattle.inspect_layout.specs.Rules.{build_layout_rules}
use Rattle.inspect_places.specs.Rules.{place_rules}
use Rattle.inspect_members.specs.Rules.{width_rules, rank_rules}
use Rattle.inspect_tests.specs.Rules.{test_rules}
use Rattle.inspect.specs.declared.Accepted.{Accepted}

-- 24 to 30, of the build that was read
unfoldable pub build_record_rules : Order → Build → List Rule
build_record_rules o b = place_rules o b ++ (width_rules o b ++ (rank_rules o b ++ test_rules o b))

-- 20 to 30
unfoldable pub build_rules : Order → List ℕ → List Rule
build_rules o s = build_layout_rules o s ++ build_record_rules o (build_at s)

unfoldable pub check_rules : List ℕ → List ℕ → List Rule
check_rules order build = order_rules order ++ build_rules (order_at order) build

-- "0 means done: .. count .. (0 for the check ..)"
unfoldable pub check_answer : List ℕ → List ℕ → Answer
check_answer order build = first_broken 0 (check_rules order build)

-- what the check promises
abbrev pub Checks : List ℕ → List ℕ → Answer → Type 0
Checks order build answer = answer ≡ check_answer order build

-- a check that hands on the order and the build that it read
abbrev pub checked_by : Answer → Order → Build → Result Accepted Refusal
checked_by answer o b = given (record { order = o; build = b }) answer

abbrev pub ChecksBoth : List ℕ → List ℕ → Result Accepted Refusal → Type 0
ChecksBoth order build checked = checked ≡ checked_by (check_answer order build) (order_at order) (build_at build)
