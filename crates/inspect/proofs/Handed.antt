-- What a check that says yes hands on: the order and the build that it read, both as it accepts them.
use Rattle.std.specs.Prelude.{Ok, Result}
use Prim.Native.Nat.{ℕ}
use mathlib.Core.Path.{◌≡◌, sym, ap, ◌∙◌}
use mathlib.Core.List.{List}
use Rattle.model.specs.declared.answer.Refusal.{Refusal}
use Rattle.model.proofs.Rules.{AllPass, done_pass, done_given}
use Rattle.order.specs.Order.{order_at}
use Rattle.build.specs.Build.{build_at}
use Rattle.inspect.specs.declared.Accepted.{Accepted}
use Rattle.inspect.specs.Rules.{check_rules, check_answer, ChecksBoth}
use Rattle.inspect.specs.Claims.{AcceptedBuild}
use Rattle.inspect.proofs.Answers.{says_yes}
use Rattle.inspect.proofs.Claims.{done_accepts}

module _ (order build : List ℕ) where
  pub check_passes : {count : ℕ} → check_answer order build ≡ Ok count → AllPass (check_rules order build)
  unfolding check_answer
  check_passes e = done_pass 0 (check_rules order build) e

module _ (order build : List ℕ) {checked : Result Accepted Refusal} (so : ChecksBoth order build checked) {accepted : Accepted} (done : checked ≡ Ok accepted) where
  both : accepted ≡ record { order = order_at order; build = build_at build }
  both = (done_given _ _ (sym so ∙ done)).2

  pub handed_order : accepted.order ≡ order_at order
  handed_order = ap (λ (x : Accepted). x.order) both

  pub handed_build : accepted.build ≡ build_at build
  handed_build = ap (λ (x : Accepted). x.build) both

  -- both are as the check accepts them
  pub handed_accepted : AcceptedBuild accepted.order accepted.build
  handed_accepted = rw (handed_order, handed_build) (done_accepts order build (says_yes order build so done))
