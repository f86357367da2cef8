-- The claims of specs/Claims.antt, proved.
use Rattle.std.specs.Prelude.{Result, Ok, Err}
use mathlib.Core.Path.{◌≡◌, refl, sym, ap, ◌∙◌, subst}
use mathlib.Core.List.{List}
use mathlib.Core.Logic.{◌⊎◌, inl, inr}
use Prim.Native.Nat.{ℕ, ◌≤◌}
use lib.ListN.{length}
use native.Mathlib.Decide.{dec_le}
use native.Mathlib.Omega.{arith}
use Rattle.model.specs.declared.order.Order.{Order}
use Rattle.model.specs.declared.build.Build.{Build}
use Rattle.model.specs.declared.answer.OrderCause.{OrderCause}
use Rattle.model.specs.Kinds.{Answer}
use Rattle.model.specs.declared.answer.Refusal.{Refusal}
use Rattle.model.specs.declared.answer.Refusal.TheVariants.{OfOrder, OfCall}
use Rattle.model.specs.declared.answer.CallCause.TheVariants.{FirstFit, Output}
use Rattle.model.specs.Answer.{output_after}
use Rattle.model.specs.Rules.{first_broken, room_rules, WithinLimits, OneRightAnswer}
use Rattle.model.proofs.Output.{only_counted_front}
use Rattle.model.proofs.Rules.{AllPass, never, done_pass, pass_done, done_count, pass_front, pass_rest, room_on, room_stop, room_fits, one_right_answer}
use Rattle.order.specs.Order.{order_at, order_rules, read_order}
use Rattle.order.proofs.Reading.{read_answer, read_rules, within_limits}
use Rattle.build.specs.Build.{build_bytes}
use Rattle.build_facts.proofs.Back.{length_right}
use Rattle.fitting.specs.declared.Placing.{Placing}
use Rattle.fitting.specs.Claims.{RefusedIn}
use Rattle.fit.specs.Claims.{Built}
use Rattle.fit.proofs.Built.{fitted_done, fitted_refused, fitted_is_built, fitted_is_refused, refused_is_fitted}
use Rattle.fitting.specs.Steps.{going_on, refusing, first_fit}
use Rattle.fitting.proofs.Claims.{refuses, one_of_two}
use Rattle.fit.specs.Recorded.{build_of, fitted_of, build_in}
use Rattle.plan.specs.Plan.{fit_rules, size_of, fitted_rules, plan_rules, plan_answer, Plans}
use Rattle.plan.specs.Claims.{OnePlanAnswer, PlansOnlyCountedFront, RefusesWhereFitRunsOut, SoundIsPlanned, PlanningUnique}
use Rattle.plan.proofs.Rules.{plan_order, plan_fitted, fit_stop, fit_on, plan_tells}
use Rattle.plan.proofs.Causes.{order_refuses}

pub planning_unique : PlanningUnique
planning_unique order output one other after after' p q =
    let same : one ≡ other = p.answered ∙ sym q.answered in
    (same, p.written ∙ ap (λ (a : Answer). output_after a (build_bytes (build_in (fitted_of (order_at order)))) output) same ∙ sym q.written)

pub one_plan_answer : OnePlanAnswer
unfolding plan_answer OneRightAnswer
one_plan_answer order room answer = one_right_answer _ (plan_rules order room) (plan_tells order room) answer

-- an accepted plan: every rule passes, and the count is the build's length
module _ (order output : List ℕ) (answer : Answer) (after : List ℕ) (count : ℕ) (p : Plans order output answer after) (e : answer ≡ Ok count) where
  abbrev found : Result Build Refusal
  found = fitted_of (order_at order)

  rules : AllPass (plan_rules order (length output))
  unfolding plan_answer
  rules = done_pass _ (plan_rules order (length output)) (sym p.answered ∙ e)

  pub order_rules_lem : AllPass (order_rules order)
  unfolding plan_rules
  order_rules_lem = pass_front (order_rules order) (fitted_rules (order_at order) found (length output)) rules

  fitted_passes : AllPass (fitted_rules (order_at order) found (length output))
  unfolding plan_rules
  fitted_passes = pass_rest (order_rules order) (fitted_rules (order_at order) found (length output)) rules

  pub fit_done : (build : Build) × (found ≡ Ok build)
  fit_done = go found refl
    where
      go : (a : Result Build Refusal) → found ≡ a → (build : Build) × (found ≡ Ok build)
      go (Ok build) f = (build, f)
      go (Err cause) f = never (sym (fit_stop 0 (order_at order) found (length output) f) ∙ pass_done 0 (fitted_rules (order_at order) found (length output)) fitted_passes)

  pub counted : count ≡ size_of (build_in found)
  unfolding plan_answer
  counted = done_count _ (plan_rules order (length output)) (sym p.answered ∙ e)

  pub room : size_of (build_in found) ≤ length output
  unfolding fitted_rules
  room = room_fits _ _ (pass_rest (fit_rules (order_at order) found) (room_rules (size_of (build_in found)) (length output)) fitted_passes)

pub plans_only_counted_front : PlansOnlyCountedFront
plans_only_counted_front order output answer after p =
    rw p.written (
    only_counted_front answer (build_bytes (build_in (fitted_of (order_at order)))) output
    (λ count e.
    let size = counted order output answer after count p e in
    (length_right (build_in (fitted_of (order_at order))) ∙ sym size, subst (◌≤ length output) (sym size) (room order output answer after count p e)))
    )

-- the answer of an order that was read
module _ (order output : List ℕ) (answer : Answer) (after : List ℕ) (p : Plans order output answer after) (read : (read_order order).answer ≡ Ok 0) where
  all : AllPass (order_rules order)
  all = read_rules order read

  pub limits : WithinLimits (order_at order)
  limits = within_limits order all

  -- where first fit refuses, so does the plan
  pub refused_so : {cause : Refusal} → fitted_of (order_at order) ≡ Err cause → answer ≡ Err cause
  refused_so f = p.answered ∙ plan_fitted order (length output) all ∙ fit_stop _ (order_at order) (fitted_of (order_at order)) (length output) f

  pub done_so : {build : Build} → fitted_of (order_at order) ≡ Ok build → answer ≡ first_broken (size_of build) (room_rules (size_of build) (length output))
  done_so {build} f =
      p.answered ∙ plan_fitted order (length output) all ∙ fit_on _ (order_at order) (fitted_of (order_at order)) (length output) f
      ∙ ap (λ (x : Result Build Refusal). first_broken (size_of (build_in x)) (room_rules (size_of build) (length output))) f

pub sound_is_planned : SoundIsPlanned
sound_is_planned order output answer after p read = go (one_of_two o limits')
  where
    o : Order
    o = order_at order

    limits' : WithinLimits (order_at order)
    limits' = limits order output answer after p read

    go : ((s : Placing) × (first_fit (order_at order) ≡ going_on s)) ⊎ ((s : Placing) × ((i : ℕ) × (first_fit (order_at order) ≡ refusing s i)))
        → ((b : Build) × (fitted_of (order_at order) ≡ Ok b) × Built (order_at order) b × (size_of b ≤ length output → answer ≡ Ok (size_of b)))
        ⊎ ((s : Placing) × (i : ℕ) × (answer ≡ Err (OfCall (FirstFit i))) × RefusedIn (order_at order) s i)
    go (inl (s, f)) =
        let e = fitted_done (order_at order) s f in
        let b = build_of (order_at order) s in
        inl (
          b,
          e,
          fitted_is_built (order_at order) b limits' e,
          λ fits. done_so order output answer after p read e ∙ room_on (size_of b) (size_of b) (length output) fits,
        )
    go (inr (s, (i, f))) =
        inr (s, i, refused_so order output answer after p read (fitted_refused (order_at order) s i f), refuses (order_at order) limits' s i f)

-- 11 names no other cause: neither the order's nor the output's
call_not_order : {A : Type 0} {cause : OrderCause} {i : ℕ} → OfOrder cause ≡ OfCall (FirstFit i) → A
call_not_order e = (let z : ◌≡◌ {A = ℕ} 0 1 = cc e in absurd (omega arith))

room_not_fit : (count size room i : ℕ) → first_broken count (room_rules size room) ≡ Err (OfCall (FirstFit i)) → ⊥
room_not_fit count size room i e = elim (dec_le size room) [
  | yes fits ↦ never (sym e ∙ room_on count size room fits)
  | no short ↦ (let f : Err (OfCall Output) ≡ Err (OfCall (FirstFit i)) = sym (room_stop count size room (omega arith)) ∙ e in
      let z : ◌≡◌ {A = ℕ} 0 1 = cc f in omega arith)
]

module _ (order output : List ℕ) (answer : Answer) (after : List ℕ) (i : ℕ) (p : Plans order output answer after) (e : answer ≡ Err (OfCall (FirstFit i))) where
  read_so : (a : Answer) → (read_order order).answer ≡ a → (read_order order).answer ≡ Ok 0
  read_so (Ok count) f = f ∙ ap Ok (done_count 0 (order_rules order) (sym (read_answer order) ∙ f))
  read_so (Err cause) f =
      let refused = sym (read_answer order) ∙ f in
      let same : Err cause ≡ Err (OfCall (FirstFit i)) = sym (plan_order order (length output) refused) ∙ sym p.answered ∙ e in
      let its = order_refuses order cause refused in
      call_not_order {i = i} (sym its.1 ∙ cc same)

  fit_so : (read : (read_order order).answer ≡ Ok 0) → (a : Result Build Refusal) → fitted_of (order_at order) ≡ a → (s : Placing) × RefusedIn (order_at order) s i
  fit_so read (Ok build) f = absurd (room_not_fit _ _ _ i (sym (done_so order output answer after p read f) ∙ e))
  fit_so read (Err cause) f =
      let r = fitted_is_refused (order_at order) cause (limits order output answer after p read) f in
      let same : Err cause ≡ Err (OfCall (FirstFit i)) = sym (refused_so order output answer after p read f) ∙ e in
      let task : OfCall (FirstFit r.1.0) ≡ OfCall (FirstFit i) = sym r.1.1 ∙ cc same in
      (r.0, subst (RefusedIn (order_at order) r.0) (cc task) r.1.2)

pub refuses_where_fit_runs_out : RefusesWhereFitRunsOut
refuses_where_fit_runs_out order output answer after i p = (there, back)
  where
    there : answer ≡ Err (OfCall (FirstFit i)) → ((read_order order).answer ≡ Ok 0) × ((s : Placing) × RefusedIn (order_at order) s i)
    there e =
        let read = read_so order output answer after i p e (read_order order).answer refl in
        (read, fit_so order output answer after i p e read (fitted_of (order_at order)) refl)

    back : ((read_order order).answer ≡ Ok 0) × ((s : Placing) × RefusedIn (order_at order) s i) → answer ≡ Err (OfCall (FirstFit i))
    back (read, (s, is)) =
        refused_so order output answer after p read (refused_is_fitted (order_at order) s i (limits order output answer after p read) is)
