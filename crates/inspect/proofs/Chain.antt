-- The parts of the check, one after the other: the first that refuses answers.
use Rattle.std.specs.Prelude.{Ok, Err}
use mathlib.Core.Path.{◌≡◌, ◌∙◌}
use mathlib.Core.List.{List, ◌++◌}
use Prim.Native.Nat.{ℕ}
use Rattle.model.specs.declared.order.Order.{Order}
use Rattle.model.specs.declared.build.Build.{Build}
use Rattle.model.specs.declared.answer.Refusal.{Refusal}
use Rattle.model.specs.Rules.{Rule, first_broken}
use Rattle.model.proofs.Rules.{done_pass, pass_on, stop}
use Rattle.order.specs.Order.{order_at, order_rules}
use Rattle.build.specs.Build.{build_at}
use Rattle.inspect_layout.specs.Rules.{build_layout_rules}
use Rattle.inspect_places.specs.Rules.{place_rules}
use Rattle.inspect_members.specs.Rules.{width_rules, rank_rules}
use Rattle.inspect_tests.specs.Rules.{test_rules}
use Rattle.inspect.specs.Rules.{build_record_rules, build_rules, check_rules, check_answer}

-- a part that is done is passed
pub go_on : (a b : List Rule) {count : ℕ} → first_broken 0 a ≡ Ok count → first_broken 0 (a ++ b) ≡ first_broken 0 b
go_on a b e = pass_on 0 a b (done_pass 0 a e)

-- 24 to 30
module _ (o : Order) (b : Build) where
  abbrev placed : List Rule
  placed = place_rules o b

  abbrev wide : List Rule
  wide = width_rules o b

  abbrev ranked : List Rule
  ranked = rank_rules o b

  abbrev tested : List Rule
  tested = test_rules o b

  pub places_stop : {cause : Refusal} → first_broken 0 placed ≡ Err cause → first_broken 0 (build_record_rules o b) ≡ Err cause
  unfolding build_record_rules
  places_stop {cause} e = stop 0 placed (wide ++ (ranked ++ tested)) cause e

  pub widths_stop : {cause : Refusal} {count : ℕ} → first_broken 0 placed ≡ Ok count → first_broken 0 wide ≡ Err cause → first_broken 0 (build_record_rules o b) ≡ Err cause
  unfolding build_record_rules
  widths_stop {cause} p e = go_on placed (wide ++ (ranked ++ tested)) p ∙ stop 0 wide (ranked ++ tested) cause e

  pub ranks_stop : {cause : Refusal} {count other : ℕ} → first_broken 0 placed ≡ Ok count → first_broken 0 wide ≡ Ok other → first_broken 0 ranked ≡ Err cause → first_broken 0 (build_record_rules o b) ≡ Err cause
  unfolding build_record_rules
  ranks_stop {cause} p w e = go_on placed (wide ++ (ranked ++ tested)) p ∙ go_on wide (ranked ++ tested) w ∙ stop 0 ranked tested cause e

  pub tests_last : {count other third : ℕ} → first_broken 0 placed ≡ Ok count → first_broken 0 wide ≡ Ok other → first_broken 0 ranked ≡ Ok third → first_broken 0 (build_record_rules o b) ≡ first_broken 0 tested
  unfolding build_record_rules
  tests_last p w r = go_on placed (wide ++ (ranked ++ tested)) p ∙ go_on wide (ranked ++ tested) w ∙ go_on ranked tested r

-- 20 to 30
module _ (o : Order) (s : List ℕ) where
  pub layout_stop : {cause : Refusal} → first_broken 0 (build_layout_rules o s) ≡ Err cause → first_broken 0 (build_rules o s) ≡ Err cause
  unfolding build_rules
  layout_stop {cause} e = stop 0 (build_layout_rules o s) (build_record_rules o (build_at s)) cause e

  pub records_on : {count : ℕ} → first_broken 0 (build_layout_rules o s) ≡ Ok count → first_broken 0 (build_rules o s) ≡ first_broken 0 (build_record_rules o (build_at s))
  unfolding build_rules
  records_on e = go_on (build_layout_rules o s) (build_record_rules o (build_at s)) e

-- the order's, then the build's
module _ (order build : List ℕ) where
  pub order_stop : {cause : Refusal} → first_broken 0 (order_rules order) ≡ Err cause → check_answer order build ≡ Err cause
  unfolding check_answer check_rules
  order_stop {cause} e = stop 0 (order_rules order) (build_rules (order_at order) build) cause e

  pub build_on : {count : ℕ} → first_broken 0 (order_rules order) ≡ Ok count → check_answer order build ≡ first_broken 0 (build_rules (order_at order) build)
  unfolding check_answer check_rules
  build_on e = go_on (order_rules order) (build_rules (order_at order) build) e
