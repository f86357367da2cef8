-- What each step of the check answers, and what it hands on.
use Rattle.std.specs.Prelude.{Ok, Err, Result}
use mathlib.Core.Path.{◌≡◌, sym, ap, ◌∙◌, subst⁻¹}
use mathlib.Core.List.{List}
use Prim.Native.Nat.{ℕ}
use Rattle.model.specs.declared.order.Order.{Order}
use Rattle.model.specs.declared.build.Build.{Build}
use Rattle.model.specs.declared.answer.Refusal.{Refusal}
use Rattle.model.specs.Rules.{WithinLimits, first_broken, given}
use Rattle.model.proofs.Rules.{done_pass, pass_done, given_done, given_refused, refused_given, done_given}
use Rattle.order.specs.Order.{order_at, order_rules}
use Rattle.order.proofs.Reading.{within_limits}
use Rattle.build.specs.Build.{build_at, FieldsFit}
use Rattle.inspect_layout.specs.Rules.{build_layout_rules, LaysOut}
use Rattle.inspect.specs.declared.Accepted.{Accepted}
use Rattle.inspect.specs.Rules.{build_record_rules, build_rules, check_rules, check_answer, checked_by, ChecksBoth}
use Rattle.inspect.proofs.Chain.{layout_stop, records_on, order_stop, build_on}
use Rattle.inspect.proofs.Turn.{fields_fit}

-- 20 to 30
module _ (o : Order) (s : List ℕ) {laid : Result Build Refusal} (is : LaysOut o s laid) where
  pub layout_refused : {refusal : Refusal} → laid ≡ Err refusal → Err refusal ≡ given (build_at s) (first_broken 0 (build_rules o s))
  layout_refused e = sym (given_refused _ _ (layout_stop o s (refused_given _ _ (sym is ∙ e))))

  module _ {read : Build} (done : laid ≡ Ok read) where
    same_build : read ≡ build_at s
    same_build = (done_given _ _ (sym is ∙ done)).2

    pub fields_right : WithinLimits o → FieldsFit read
    fields_right limits =
        subst⁻¹ FieldsFit same_build (fields_fit o s limits.tasks.1 (done_pass 0 (build_layout_rules o s) (done_given _ _ (sym is ∙ done)).1))

    records_next : first_broken 0 (build_rules o s) ≡ first_broken 0 (build_record_rules o read)
    records_next = records_on o s (done_given _ _ (sym is ∙ done)).1 ∙ ap (λ (b : Build). first_broken 0 (build_record_rules o b)) (sym same_build)

    module _ {judged : Result (Unit {0}) Refusal} (by : judged ≡ given tt (first_broken 0 (build_record_rules o read))) where
      pub records_refused : {refusal : Refusal} → judged ≡ Err refusal → Err refusal ≡ given (build_at s) (first_broken 0 (build_rules o s))
      records_refused e = sym (given_refused _ _ (records_next ∙ refused_given _ _ (sym by ∙ e)))

      pub records_done : {none : Unit {0}} → judged ≡ Ok none → Ok read ≡ given (build_at s) (first_broken 0 (build_rules o s))
      records_done e = ap Ok same_build ∙ sym (given_done _ _ (records_next ∙ (done_given _ _ (sym by ∙ e)).1))

-- the order's, then the build's
module _ (order build : List ℕ) {reading : Result Order Refusal} (is : reading ≡ given (order_at order) (first_broken 0 (order_rules order))) where
  pub order_refused : {refusal : Refusal} → reading ≡ Err refusal → Err refusal ≡ checked_by (check_answer order build) (order_at order) (build_at build)
  order_refused e = sym (given_refused _ _ (order_stop order build (refused_given _ _ (sym is ∙ e))))

  module _ {o : Order} (done : reading ≡ Ok o) where
    pub same_order : o ≡ order_at order
    same_order = (done_given _ _ (sym is ∙ done)).2

    pub order_within : WithinLimits o
    order_within = subst⁻¹ WithinLimits same_order (within_limits order (done_pass 0 (order_rules order) (done_given _ _ (sym is ∙ done)).1))

    build_next : check_answer order build ≡ first_broken 0 (build_rules o build)
    build_next = build_on order build (done_given _ _ (sym is ∙ done)).1 ∙ ap (λ (x : Order). first_broken 0 (build_rules x build)) (sym same_order)

    module _ {checked : Result Build Refusal} (by : checked ≡ given (build_at build) (first_broken 0 (build_rules o build))) where
      pub build_refused : {refusal : Refusal} → checked ≡ Err refusal → Err refusal ≡ checked_by (check_answer order build) (order_at order) (build_at build)
      build_refused e = sym (given_refused _ _ (build_next ∙ refused_given _ _ (sym by ∙ e)))

      pub both_done : {b : Build} → checked ≡ Ok b → Ok (record { order = o; build = b }) ≡ checked_by (check_answer order build) (order_at order) (build_at build)
      both_done {b} e =
          let d = done_given _ _ (sym by ∙ e) in
          ap (λ (x : Order). Ok (record { order = x; build = b })) same_order
          ∙ ap (λ (x : Build). Ok (record { order = order_at order; build = x })) d.2
          ∙ sym (given_done _ _ (build_next ∙ d.1))

-- the answer alone: it counts nothing
module _ (order build : List ℕ) {checked : Result Accepted Refusal} (so : ChecksBoth order build checked) where
  pub says_no : {refusal : Refusal} → checked ≡ Err refusal → check_answer order build ≡ Err refusal
  says_no e = refused_given _ _ (sym so ∙ e)

  pub says_yes : {accepted : Accepted} → checked ≡ Ok accepted → check_answer order build ≡ Ok 0
  unfolding check_answer
  says_yes e = pass_done 0 (check_rules order build) (done_pass 0 (check_rules order build) (done_given _ _ (sym so ∙ e)).1)
