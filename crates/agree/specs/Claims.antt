-- Whatever the planner writes for an order, the check accepts for that order; proved in proofs/Agree.antt.
use Rattle.std.specs.Prelude.{ℕ, ◌≡◌, List, take, Ok}
use Rattle.model.specs.Kinds.{Answer}
use Rattle.plan.specs.Plan.{Plans}
use Rattle.inspect.specs.Rules.{check_answer}

abbrev pub PlannedIsAccepted : Type 0
PlannedIsAccepted = (order output : List ℕ) (answer : Answer) (after : List ℕ) (count : ℕ)
    → Plans order output answer after → answer ≡ Ok count → check_answer order (take count after) ≡ Ok 0
