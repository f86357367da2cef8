-- 27 to 30 of a task, by what its test gave.
use Rattle.std.specs.Prelude.{Some, None, Option, Ok, Err}
use mathlib.Core.Path.{◌≡◌, refl, sym, ap, ◌∙◌, subst}
use mathlib.Core.Bool.{true, false}
use mathlib.Core.Logic.{◌⊎◌, ⊎_elim}
use Prim.Native.Nat.{ℕ, ◌≤◌, ◌<◌}
use native.Mathlib.Decide.{dec_lt}
use native.Mathlib.Omega.{arith}
use lib.Dec.{eqb}
use borrow.Author.Tests.{eq-eqb, ne_eqb}
use Rattle.laws.specs.Joined.{joined}
use Rattle.laws.proofs.Every.{clash}
use Rattle.model.specs.declared.order.Order.{Order}
use Rattle.model.specs.declared.build.Build.{Build}
use Rattle.model.specs.declared.answer.Refusal.{Refusal}
use Rattle.model.specs.declared.answer.Refusal.TheVariants.{OfBuild}
use Rattle.model.specs.declared.answer.BuildCause.TheVariants.{Window, Late, Response}
use Rattle.model.specs.Limits.{member_of, home_of}
use Rattle.model.specs.Rules.{WithinLimits, first_broken}
use Rattle.model.proofs.Rules.{AllPass, pass_done, scan_all, scan_stop}
use Rattle.demand.specs.Verdict.{Verdict}
use Rattle.demand.specs.declared.Failing.TheVariants.{NoWindow, TooLate}
use Rattle.demand.specs.Priority.{members_of}
use Rattle.verdict.proofs.Told.{passed_told}
use Rattle.trial.specs.declared.Results.{Results}
use Rattle.inspect_tests.specs.Rules.{window_there, verdict_rules, task_test_rules, test_rules}
use Rattle.inspect_tests.specs.Results.{verdict_here, worst_at, ResultsOf, Right}
use Rattle.inspect_tests.proofs.Verdicts.{no_response}

module _ (o : Order) (b : Build) (limits : WithinLimits o) (results : Results (Option ℕ)) (are : ResultsOf o b results) where
  abbrev IsRight : ℕ → Type 0
  IsRight = Right b.members results.worsts

  -- the first that is not right is no higher than the lowest that fails
  upto_lowest : (i : ℕ) → ((j : ℕ) → j < i → IsRight j) → i ≤ are.lowest
  upto_lowest i right = elim (dec_lt are.lowest i) [
    | yes below ↦ (let z : ◌≡◌ {A = Option ℕ} None (Some (member_of b are.lowest).response) = sym are.none ∙ right are.lowest below in cc)
    | no not_below ↦ omega (arith, not_below)
  ]

  passes : (i worst : ℕ) → i < o.tasks → i ≤ are.lowest → worst_at results.worsts i ≡ Some worst → verdict_here o b i ≡ Ok worst
  passes i worst l upto told = passed_told (verdict_here o b i) worst (sym (are.responses i l upto) ∙ told)

  pass_at : (i : ℕ) → i < o.tasks → i ≤ are.lowest → IsRight i → AllPass (task_test_rules o b i)
  unfolding AllPass
  pass_at i l upto right =
      let recorded = (member_of b i).response in
      subst (λ (v : Verdict). AllPass (verdict_rules o (members_of b (home_of b i)) i recorded v)) (sym (passes i recorded l upto right)) (refl, (refl, (refl, (eq-eqb recorded recorded refl, tt))))

  pass_below : (i : ℕ) → i ≤ o.tasks → ((j : ℕ) → j < i → IsRight j) → AllPass (joined (task_test_rules o b) i)
  pass_below i le right = scan_all (task_test_rules o b) i (λ j l. pass_at j (omega arith) (omega (arith, upto_lowest i right)) (right j l))

  -- all are right
  pub all_right : ((j : ℕ) → j < o.tasks → IsRight j) → first_broken 0 (test_rules o b) ≡ Ok 0
  unfolding test_rules
  all_right right = pass_done 0 _ (pass_below o.tasks (omega arith) right)

  module _ (i : ℕ) (l : i < o.tasks) (wrong : IsRight i → ⊥) (before : (j : ℕ) → j < i → IsRight j) where
    -- the first that is not gives the refusal
    stops_at : (refusal : Refusal) → first_broken 0 (task_test_rules o b i) ≡ Err refusal → first_broken 0 (test_rules o b) ≡ Err refusal
    unfolding test_rules
    stops_at refusal e = scan_stop (task_test_rules o b) 0 o.tasks i refusal l (pass_below i (omega arith) before) e

    by_verdict : (v : Verdict) (refusal : Refusal) → verdict_here o b i ≡ v → first_broken 0 (verdict_rules o (members_of b (home_of b i)) i (member_of b i).response v) ≡ Err refusal → first_broken 0 (test_rules o b) ≡ Err refusal
    by_verdict v refusal e h = stops_at refusal (subst (λ (x : Verdict). first_broken 0 (verdict_rules o (members_of b (home_of b i)) i (member_of b i).response x) ≡ Err refusal) (sym e) h)

    -- 30
    pub refused_response : (worst : ℕ) → worst_at results.worsts i ≡ Some worst → first_broken 0 (test_rules o b) ≡ Err (OfBuild (Response i))
    unfolding first_broken
    refused_response worst told =
        let differs : eqb (member_of b i).response worst ≡ false = ne_eqb _ _ (λ e. wrong (told ∙ ap Some (sym e))) in
        by_verdict (Ok worst) (OfBuild (Response i)) (passes i worst l (upto_lowest i before) told) (rw differs)

    none : worst_at results.worsts i ≡ None → (verdict_here o b i ≡ Err NoWindow) ⊎ (verdict_here o b i ≡ Err TooLate)
    none e = no_response o (members_of b (home_of b i)) i limits l (sym (are.responses i l (upto_lowest i before)) ∙ e)

    -- 29
    pub refused_late : worst_at results.worsts i ≡ None → true ≡ window_there (verdict_here o b i) → first_broken 0 (test_rules o b) ≡ Err (OfBuild (Late i))
    unfolding first_broken
    refused_late e there =
        ⊎_elim
        (λ (v : verdict_here o b i ≡ Err NoWindow). clash (sym (there ∙ ap window_there v)))
        (λ (v : verdict_here o b i ≡ Err TooLate). by_verdict (Err TooLate) (OfBuild (Late i)) v refl)
        (none e)

    -- 27
    pub refused_window : worst_at results.worsts i ≡ None → false ≡ window_there (verdict_here o b i) → first_broken 0 (test_rules o b) ≡ Err (OfBuild (Window i))
    unfolding first_broken
    refused_window e absent =
        ⊎_elim
        (λ (v : verdict_here o b i ≡ Err NoWindow). by_verdict (Err NoWindow) (OfBuild (Window i)) v refl)
        (λ (v : verdict_here o b i ≡ Err TooLate). clash (absent ∙ ap window_there v))
        (none e)
