-- From what bytes read as, and what first fit says of that, to what reading and planning them gives.
use Rattle.std.specs.Prelude.{Result, Ok, Err}
use mathlib.Core.Path.{◌≡◌, refl, sym, ap, ◌∙◌}
use mathlib.Core.List.{List, ◌++◌}
use Prim.Native.Nat.{ℕ, ◌≤◌}
use lib.ListN.{length, drop}
use Rattle.model.specs.declared.order.Order.{Order}
use Rattle.model.specs.declared.build.Build.{Build}
use Rattle.model.specs.declared.answer.Reading.{Reading}
use Rattle.model.specs.declared.answer.Refusal.{Refusal}
use Rattle.model.specs.Answer.{no_place, cause_number, cause_place, answer_number, answer_place, answer_count, output_after}
use Rattle.model.specs.Rules.{first_broken}
use Rattle.model.proofs.Output.{after_done, after_refused}
use Rattle.model.proofs.Rules.{room_on}
use Rattle.order.specs.Order.{order_at, read_order}
use Rattle.order.proofs.Reading.{read_answer, read_rules, read_order_lem}
use Rattle.build.specs.Build.{build_bytes}
use Rattle.plan.specs.Plan.{size_of, fitted_rules, Plans}
use Rattle.fit.specs.Recorded.{fitted_of, build_in}
use Rattle.plan.proofs.Rules.{fit_stop, fit_on, plan_order, plan_fitted}
use Rattle.points.specs.Points.{AnswerIs, PlanGives, OrderAccepted, OrderRefused}

pub done_is : (count : ℕ) → AnswerIs (Ok count) 0 no_place count
unfolding answer_number answer_place answer_count
done_is count = record { number_is = refl; place_is = refl; count_is = refl }

refused_is : (cause : Refusal) → AnswerIs (Err cause) (cause_number cause) (cause_place cause) 0
unfolding answer_number answer_place answer_count
refused_is cause = record { number_is = refl; place_is = refl; count_is = refl }

-- bytes that are refused when read are refused by the planner
pub order_refused : (order : List ℕ) (cause : Refusal) → (read_order order).answer ≡ Err cause → OrderRefused order (cause_number cause) (cause_place cause)
order_refused order cause e =
    record {
      reads = rw e (refused_is cause);
      unplanned = λ output. record {
        answer = Err cause;
        plans = record {
          answered = sym (plan_order order (length output) (sym (read_answer order) ∙ e));
          written = sym (after_refused cause (build_bytes (build_in (fitted_of (order_at order)))) output);
        };
        answer_is = refused_is cause;
      };
    }

-- bytes that read as an order are planned as first fit says of it
module _ (order : List ℕ) (o : Order) (reads : read_order order ≡ record { answer = Ok 0; order = o }) where
  abbrev read_done : (read_order order).answer ≡ Ok 0
  read_done = ap (λ (x : Reading). x.answer) reads

  pub order_is : order_at order ≡ o
  order_is = sym (read_order_lem order read_done) ∙ ap (λ (x : Reading). x.order) reads

  pub fit_refused : (cause : Refusal) → fitted_of o ≡ Err cause → (output : List ℕ) → PlanGives order output (cause_number cause) (cause_place cause) 0 output
  fit_refused cause e output =
      let found = fitted_of (order_at order) in
      let runs_out = fit_stop (size_of (build_in found)) (order_at order) found (length output) (ap fitted_of order_is ∙ e) in
      record {
        answer = Err cause;
        plans = record {
          answered = sym (plan_fitted order (length output) (read_rules order read_done) ∙ runs_out);
          written = sym (after_refused cause (build_bytes (build_in found)) output);
        };
        answer_is = refused_is cause;
      }

  module _ (b : Build) (fits : fitted_of o ≡ Ok b) where
    pub plans_build : (output : List ℕ) → size_of b ≤ length output → Plans order output (Ok (size_of b)) (build_bytes b ++ drop (size_of b) output)
    plans_build output room =
        let found : fitted_of (order_at order) ≡ Ok b = ap fitted_of order_is ∙ fits in
        let in-room = fit_on (size_of b) (order_at order) (Ok b) (length output) refl ∙ room_on (size_of b) (size_of b) (length output) room in
        record {
          answered = sym (plan_fitted order (length output) (read_rules order read_done) ∙ (ap (λ (x : Result Build Refusal). first_broken (size_of (build_in x)) (fitted_rules (order_at order) x (length output))) found ∙ in-room));
          written = sym (ap (λ (x : Result Build Refusal). output_after (Ok (size_of b)) (build_bytes (build_in x)) output) found ∙ after_done (size_of b) (build_bytes b) output);
        }

    pub order_accepted : OrderAccepted order o (size_of b) (build_bytes b)
    order_accepted =
        record {
          reads = reads;
          planned = λ output room. record { answer = Ok (size_of b); plans = plans_build output room; answer_is = done_is (size_of b) };
        }
