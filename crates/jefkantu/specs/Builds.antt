-- What the C surface promises of plans and checks: the word answered, and all that the caller's memory holds afterwards.
use Rattle.std.specs.Prelude.{ℕ, ◌≡◌, List, length}
use Rattle.model.specs.Answer.{output_after}
use Rattle.order.specs.Order.{order_at}
use Rattle.build.specs.Build.{build_bytes}
use Rattle.fit.specs.Recorded.{fitted_of, build_in}
use Rattle.plan.specs.Plan.{plan_answer}
use Rattle.inspect.specs.Rules.{check_answer}
use Rattle.jefkantu.specs.Word.{answer_word}

-- what jefkantu_plan promises
pub record PlansBuild (order output : List ℕ) (word : ℕ) (after : List ℕ) : Type 0 where
  pub answered : word ≡ answer_word (plan_answer order (length output))
  pub written : after ≡ output_after (plan_answer order (length output)) (build_bytes (build_in (fitted_of (order_at order)))) output

-- what jefkantu_check promises
abbrev pub ChecksBuild : (order build : List ℕ) (word : ℕ) → Type 0
ChecksBuild order build word = word ≡ answer_word (check_answer order build)
