-- "The planner reads an order, makes a build": the order's 1 to 10, then 11, then 12.
use Rattle.std.specs.Prelude.{ℕ, ◌≡◌, false, List, [], ◌∷◌, ◌++◌, length, Result, Ok, Err}
use Rattle.model.specs.declared.order.Order.{Order}
use Rattle.model.specs.declared.build.Build.{Build}
use Rattle.model.specs.declared.answer.Refusal.{Refusal}
use Rattle.model.specs.Kinds.{Answer}
use Rattle.model.specs.Layouts.{build_length}
use Rattle.model.specs.Answer.{output_after}
use Rattle.model.specs.Rules.{Rule, rule, first_broken, room_rules}
use Rattle.order.specs.Order.{order_at, order_rules}
use Rattle.build.specs.Build.{build_bytes}
use Rattle.fitting.specs.declared.Placing.{Placing}
use Rattle.fitting.specs.Steps.{going_on, first_fit}
use Rattle.fit.specs.Recorded.{fitted_of, build_in}

-- first fit places every task
abbrev pub PlacesAll : Order → Type 0
PlacesAll o = (s : Placing) × (first_fit o ≡ going_on s)

-- 11: "first fit runs out", with the task that it names
abbrev pub fit_rules : Order → Result Build Refusal → List Rule
fit_rules o (Ok build) = []
fit_rules o (Err cause) = rule (record { says = PlacesAll o; test = false }) cause ∷ []

-- how many bytes a build has
abbrev pub size_of : Build → ℕ
size_of b = build_length 1 b.partitions b.tasks

-- 11 and 12 of an order that was read
unfoldable pub fitted_rules : Order → Result Build Refusal → ℕ → List Rule
fitted_rules o found room = fit_rules o found ++ room_rules (size_of (build_in found)) room

-- "then task by task 7 to 10; then 11, then 12"; "An order's build is the one that first fit by decreasing volume gives"
unfoldable pub plan_rules : List ℕ → ℕ → List Rule
plan_rules order room = order_rules order ++ fitted_rules (order_at order) (fitted_of (order_at order)) room

-- "count of bytes .. written"
unfoldable pub plan_answer : List ℕ → ℕ → Answer
plan_answer order room = first_broken (size_of (build_in (fitted_of (order_at order)))) (plan_rules order room)

-- what planning promises: the answer, and all that the output holds
pub record Plans (order output : List ℕ) (answer : Answer) (after : List ℕ) : Type 0 where
  pub answered : answer ≡ plan_answer order (length output)
  pub written : after ≡ output_after answer (build_bytes (build_in (fitted_of (order_at order)))) output

-- a build written where there is room for it
pub record PutsBuild (build : Build) (output : List ℕ) (answer : Answer) (after : List ℕ) : Type 0 where
  pub answered : answer ≡ first_broken (size_of build) (room_rules (size_of build) (length output))
  pub written : after ≡ output_after answer (build_bytes build) output
