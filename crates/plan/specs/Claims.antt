-- What planning promises beyond its definition: claims, proved in proofs/Claims.antt.
use Rattle.std.specs.Prelude.{ℕ, ◌≤◌, ◌≡◌, List, ◌↔◌, ◌⊎◌, length, Ok, Err}
use Rattle.model.specs.declared.build.Build.{Build}
use Rattle.model.specs.Kinds.{Answer}
use Rattle.model.specs.declared.answer.Refusal.TheVariants.{OfCall}
use Rattle.model.specs.declared.answer.CallCause.TheVariants.{FirstFit}
use Rattle.model.specs.Answer.{OnlyCountedFront}
use Rattle.model.specs.Rules.{RightAnswer}
use Rattle.order.specs.Order.{order_at, read_order}
use Rattle.fitting.specs.declared.Placing.{Placing}
use Rattle.fitting.specs.Claims.{RefusedIn}
use Rattle.fit.specs.Claims.{Built}
use Rattle.fit.specs.Recorded.{fitted_of, build_in}
use Rattle.plan.specs.Plan.{size_of, plan_rules, plan_answer, Plans}

-- "for that cause only": a plan's answer is the right one, by the rule that is broken first, and no other is
abbrev pub OnePlanAnswer : Type 0
OnePlanAnswer = (order : List ℕ) (room : ℕ) (answer : Answer)
    → (answer ≡ plan_answer order room) ↔ RightAnswer (size_of (build_in (fitted_of (order_at order)))) (plan_rules order room) answer

-- "On refusal the output is unchanged; on success only the counted front changes."
abbrev pub PlansOnlyCountedFront : Type 0
PlansOnlyCountedFront = (order output : List ℕ) (answer : Answer) (after : List ℕ) → Plans order output answer after → OnlyCountedFront answer output after

-- 11 for task i: the order is sound, and first fit's run comes to i with no open partition that takes it and too few processors left; whatever room there is
abbrev pub RefusesWhereFitRunsOut : Type 0
RefusesWhereFitRunsOut = (order output : List ℕ) (answer : Answer) (after : List ℕ) (i : ℕ) → Plans order output answer after
    → (answer ≡ Err (OfCall (FirstFit i))) ↔ (((read_order order).answer ≡ Ok 0) × ((s : Placing) × RefusedIn (order_at order) s i))

-- "a sound order with room for its build is refused only where that method runs out of accelerators"
abbrev pub SoundIsPlanned : Type 0
SoundIsPlanned = (order output : List ℕ) (answer : Answer) (after : List ℕ) → Plans order output answer after → (read_order order).answer ≡ Ok 0
    → ((b : Build) × (fitted_of (order_at order) ≡ Ok b) × Built (order_at order) b × (size_of b ≤ length output → answer ≡ Ok (size_of b)))
    ⊎ ((s : Placing) × (i : ℕ) × (answer ≡ Err (OfCall (FirstFit i))) × RefusedIn (order_at order) s i)

-- one possible answer and content for every input
abbrev pub PlanningUnique : Type 0
PlanningUnique = (order output : List ℕ) (one other : Answer) (after after' : List ℕ)
    → Plans order output one after → Plans order output other after' → (one ≡ other) × (after ≡ after')
