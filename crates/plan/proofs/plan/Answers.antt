use Rattle.std.proofs.Common.{◌≡◌, ℕ, List, Result, Ok, Err, sym, ap, ◌∙◌, subst, length}
use Rattle.model.specs.declared.order.Order.{Order}
use Rattle.model.specs.declared.build.Build.{Build}
use Rattle.model.specs.declared.answer.Refusal.{Refusal}
use Rattle.model.specs.Kinds.{Answer}
use Rattle.model.specs.Rules.{first_broken, room_rules, WithinLimits}
use Rattle.model.specs.Answer.{output_after}
use Rattle.model.proofs.Rules.{AllPass, handed_on, refused_given, done_given, done_pass}
use Rattle.model.proofs.Output.{after_refused}
use Rattle.order.specs.Order.{order_at, order_rules, order_read}
use Rattle.order.proofs.Reading.{within_limits}
use Rattle.build.specs.Build.{build_bytes, FieldsFit}
use Rattle.fit.specs.Recorded.{fitted_of, build_in}
use Rattle.fit.proofs.Fields.{fitted_fits_fields}
use Rattle.plan.specs.Plan.{size_of, plan_answer, Plans}
use Rattle.plan.proofs.Rules.{fit_stop, fit_on, plan_order, plan_fitted}
use Rattle.plan.proofs.plan.Goals as goal

-- a refusal leaves the output as it was
refused : (order output : List ℕ) (answer : Answer) {cause : Refusal} → answer ≡ Err cause → plan_answer order (length output) ≡ Err cause → Plans order output answer output
refused order output answer {cause} e is = rw e (record { answered = sym is; written = sym (after_refused cause _ output) })

-- an order that was read
module _ (s : List ℕ) (o : Order) (read : order_read s ≡ Ok o) where
  order_same : order_at s ≡ o
  order_same = sym (done_given (order_at s) (first_broken 0 (order_rules s)) read).2

  rules : AllPass (order_rules s)
  rules = done_pass 0 (order_rules s) (done_given (order_at s) (first_broken 0 (order_rules s)) read).1

  limits : WithinLimits o
  limits = subst WithinLimits order_same (within_limits s rules)

  found : {answer : Result Build Refusal} → answer ≡ fitted_of o → fitted_of (order_at s) ≡ answer
  found fits = ap fitted_of order_same ∙ sym fits

pub returns-in_err-order : goal.returns-in_err-order
returns-in_err-order c =
    let s = c.args.order.now in
    refused s c.args.out.now _ (handed_on c.from_residual.result c.from_residual.ensures.1)
    (plan_order s (length c.args.out.now) (refused_given (order_at s) _ (sym c.in_err-order.ensures)))

pub first_fit-requires : goal.first_fit-requires
first_fit-requires c = limits c.args.order.now _ (sym c.in_ok-order.ensures)

pub returns-in_err-build : goal.returns-in_err-build
returns-in_err-build c =
    let s = c.args.order.now in
    let read = sym c.in_ok-order.ensures in
    refused s c.args.out.now _ (handed_on c.from_residual-in_err-build.result c.from_residual-in_err-build.ensures.1)
    (plan_fitted s (length c.args.out.now) (rules s _ read) ∙ fit_stop _ _ (fitted_of (order_at s)) (length c.args.out.now) (found s _ read c.in_err-build.ensures))

pub put_build-requires : goal.put_build-requires
put_build-requires c =
    let s = c.args.order.now in
    subst (λ (x : Result Build Refusal). FieldsFit (build_in x)) (sym c.in_ok-build.ensures) (fitted_fits_fields _ (limits s _ (sym c.in_ok-order.ensures)))

pub returns : goal.returns
returns c =
    let s = c.args.order.now in
    let out = c.args.out.now in
    let read = sym c.in_ok-order.ensures in
    let put = c.put_build in
    let fits = found s _ read c.in_ok-build.ensures in
    let size = ap (λ (x : Result Build Refusal). first_broken (size_of (build_in x)) (room_rules (size_of c.in_ok-build.build) (length out))) fits in
    let answer = plan_fitted s (length out) (rules s _ read) ∙ fit_on _ _ (fitted_of (order_at s)) (length out) fits ∙ size in
    record {
      answered = put.ensures.answered ∙ sym answer;
      written = put.ensures.written ∙ ap (λ (x : Result Build Refusal). output_after put.result (build_bytes (build_in x)) out) (sym fits);
    }
