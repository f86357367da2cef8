-- Laws of the planner's rules: the parts in turn.
use Rattle.std.specs.Prelude.{Result, Ok, Err}
use mathlib.Core.Path.{◌≡◌, refl, sym, ◌∙◌}
use mathlib.Core.Bool.{false}
use mathlib.Core.List.{List}
use Prim.Native.Nat.{ℕ}
use Rattle.laws.proofs.Every.{clash}
use Rattle.model.specs.declared.order.Order.{Order}
use Rattle.model.specs.declared.build.Build.{Build}
use Rattle.model.specs.declared.answer.Refusal.{Refusal}
use Rattle.model.specs.Rules.{first_broken, TestsTell, room_rules}
use Rattle.model.proofs.Rules.{AllPass, pass_on, stop, any_count, tell_append, tell_one, room_tells}
use Rattle.order.specs.Order.{order_at, order_rules}
use Rattle.order.proofs.Rules.{order_tells}
use Rattle.fit.specs.Recorded.{fitted_of, build_in}
use Rattle.fit.proofs.Built.{fitted_done}
use Rattle.plan.specs.Plan.{PlacesAll, fit_rules, size_of, fitted_rules, plan_rules, plan_answer}

-- first fit's own answer, among the rules
pub fit_stop : (count : ℕ) (o : Order) (found : Result Build Refusal) (room : ℕ) {refusal : Refusal} → found ≡ Err refusal → first_broken count (fitted_rules o found room) ≡ Err refusal
unfolding fitted_rules first_broken
fit_stop count o found room e = rw e

pub fit_on : (count : ℕ) (o : Order) (found : Result Build Refusal) (room : ℕ) {build : Build} → found ≡ Ok build → first_broken count (fitted_rules o found room) ≡ first_broken count (room_rules (size_of build) room)
unfolding fitted_rules
fit_on count o found room e = rw e

module _ (order : List ℕ) (room : ℕ) where
  abbrev found : Result Build Refusal
  found = fitted_of (order_at order)

  abbrev size : ℕ
  size = size_of (build_in found)

  pub plan_order : {refusal : Refusal} → first_broken 0 (order_rules order) ≡ Err refusal → plan_answer order room ≡ Err refusal
  unfolding plan_answer plan_rules
  plan_order {refusal} e = stop size (order_rules order) (fitted_rules (order_at order) found room) refusal (any_count 0 size (order_rules order) refusal e)

  pub plan_fitted : AllPass (order_rules order) → plan_answer order room ≡ first_broken size (fitted_rules (order_at order) found room)
  unfolding plan_answer plan_rules
  plan_fitted all = pass_on size (order_rules order) (fitted_rules (order_at order) found room) all

-- 11 tells whether first fit places every task
fit_tells : (o : Order) (answer : Result Build Refusal) → fitted_of o ≡ answer → TestsTell (fit_rules o answer)
unfolding TestsTell
fit_tells o (Ok build) e = tt
fit_tells o (Err cause) e = tell_one (record { says = PlacesAll o; test = false }) cause ((λ t. clash t), (λ all. absurd (cc (sym e ∙ fitted_done o all.0 all.1))))

pub plan_tells : (order : List ℕ) (room : ℕ) → TestsTell (plan_rules order room)
unfolding plan_rules fitted_rules
plan_tells order room =
    let o = order_at order in
    tell_append (order_rules order) (fitted_rules o (fitted_of o) room) (order_tells order) (λ all.
    tell_append (fit_rules o (fitted_of o)) (room_rules (size_of (build_in (fitted_of o))) room) (fit_tells o (fitted_of o) refl) (λ some. room_tells (size_of (build_in (fitted_of o))) room))
