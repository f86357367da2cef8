-- "then task by task 27 to 30": the response test of each task, and its recorded response.
use Rattle.std.specs.Prelude.{ℕ, ◌*◌, ◌≤◌, ◌<◌, Bool, true, false, List, [], ◌∷◌, eqb, Ok, Err}
use Rattle.laws.specs.Joined.{joined}
use Rattle.model.specs.declared.order.Order.{Order}
use Rattle.model.specs.declared.build.Build.{Build}
use Rattle.model.specs.declared.answer.Refusal.TheVariants.{OfBuild}
use Rattle.model.specs.declared.answer.BuildCause.TheVariants.{Window, Start, Late, Response}
use Rattle.model.specs.Limits.{member_of, home_of}
use Rattle.model.specs.Rules.{Rule, rule}
use Rattle.demand.specs.Verdict.{Verdict}
use Rattle.demand.specs.declared.Failing.TheVariants.{NoWindow, NoStart, TooLate}
use Rattle.demand.specs.Priority.{Members, members_of, deadline_of}
use Rattle.demand.specs.Releases.{period_of}
use Rattle.demand.specs.Test.{verdict}
use Rattle.demand.specs.Meaning.{IsWindow, IsStart, IsResponse}

-- the test of member i, in the words of "The response test"
module _ (o : Order) (member : Members) (i : ℕ) where
  -- 27: "no window up to H"
  abbrev pub WindowThere : Type 0
  WindowThere = (L : ℕ) × IsWindow o member i L

  -- 28: "some start not found up to H"
  pub record StartsThere : Type 0 where
    pub size : ℕ
    pub window : IsWindow o member i size
    pub each : (q : ℕ) → q * period_of o i < size → (w : ℕ) × IsStart o member i q w

  -- "The worst response is the largest of these."
  pub record IsWorst (worst : ℕ) : Type 0 where
    pub size : ℕ
    pub window : IsWindow o member i size
    pub each : (q : ℕ) → q * period_of o i < size → (response : ℕ) × (IsResponse o member i q response) × (response ≤ worst)
    pub attained : (q : ℕ) × (q * period_of o i < size) × (IsResponse o member i q worst)

  -- 29: "worst response over D"
  pub record InTime : Type 0 where
    pub worst : ℕ
    pub worst_is : IsWorst worst
    pub at_most : worst ≤ deadline_of o i

-- the tests, by the verdict
abbrev pub window_there : Verdict → Bool
window_there (Ok worst) = true
window_there (Err NoWindow) = false
window_there (Err NoStart) = true
window_there (Err TooLate) = true

abbrev pub starts_there : Verdict → Bool
starts_there (Ok worst) = true
starts_there (Err NoWindow) = true
starts_there (Err NoStart) = false
starts_there (Err TooLate) = true

abbrev pub in_time : Verdict → Bool
in_time (Ok worst) = true
in_time (Err NoWindow) = true
in_time (Err NoStart) = true
in_time (Err TooLate) = false

-- 30: "recorded response differs"
abbrev pub response_right : Verdict → ℕ → Bool
response_right (Ok worst) recorded = eqb recorded worst
response_right (Err NoWindow) recorded = true
response_right (Err NoStart) recorded = true
response_right (Err TooLate) recorded = true

-- 27 to 30 of member i with a recorded response, by a verdict
abbrev pub verdict_rules : Order → Members → (i recorded : ℕ) → Verdict → List Rule
verdict_rules o member i recorded found =
    rule (record { says = WindowThere o member i; test = window_there found }) (OfBuild (Window i))
    ∷ rule (record { says = StartsThere o member i; test = starts_there found }) (OfBuild (Start i))
    ∷ rule (record { says = InTime o member i; test = in_time found }) (OfBuild (Late i))
    ∷ rule (record { says = IsWorst o member i recorded; test = response_right found recorded }) (OfBuild (Response i))
    ∷ []

-- 27 to 30 of one task of a build
abbrev pub task_test_rules : Order → Build → ℕ → List Rule
task_test_rules o b i = verdict_rules o (members_of b (home_of b i)) i (member_of b i).response (verdict o (members_of b (home_of b i)) i)

-- "then task by task 27 to 30"
unfoldable pub test_rules : Order → Build → List Rule
test_rules o b = joined (task_test_rules o b) o.tasks
