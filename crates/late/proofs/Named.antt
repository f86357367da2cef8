-- What 29 says of an order and a build: all rules before it hold, and the test of the named task says late.
use Rattle.std.specs.Prelude.{Some, None, Option, Ok, Err}
use mathlib.Core.Path.{◌≡◌, refl, sym, ap, ◌∙◌, subst}
use mathlib.Core.List.{List, ◌++◌}
use mathlib.Core.Logic.{⊎_elim}
use Prim.Native.Nat.{ℕ, ◌<◌}
use native.Mathlib.Omega.{arith}
use lib.ListN.{length}
use Rattle.model.specs.declared.order.Order.{Order}
use Rattle.model.specs.declared.build.Build.{Build}
use Rattle.model.specs.declared.answer.Refusal.{Refusal}
use Rattle.model.specs.declared.answer.Refusal.TheVariants.{OfBuild}
use Rattle.model.specs.declared.answer.BuildCause.TheVariants.{Window, Start, Late, Response}
use Rattle.model.specs.Limits.{home_of}
use Rattle.model.specs.Rules.{Rule, AllKept, FirstOffence, WithinLimits, range_rules}
use Rattle.model.proofs.Causes.{EachRefuses, each_append, each_joined, offence_of}
use Rattle.model.proofs.Rules.{AllPass, offence_cut, offence_at, kept_pass, kept_at}
use Rattle.order.specs.Order.{order_at, header_of, header_rules, spare_rules, layout_rules, order_rules}
use Rattle.order.proofs.Rules.{order_tells}
use Rattle.order.proofs.Reading.{within_limits}
use Rattle.build.specs.Build.{build_at}
use Rattle.demand.specs.Verdict.{Verdict}
use Rattle.demand.specs.declared.Failing.TheVariants.{NoWindow, NoStart, TooLate}
use Rattle.demand.specs.Priority.{Members, members_of}
use Rattle.demand.specs.Test.{verdict}
use Rattle.demand.proofs.Meaning.{every_verdict_means, no_start_never}
use Rattle.inspect_layout.specs.Rules.{build_layout_rules}
use Rattle.inspect_layout.proofs.Rules.{layout_tells}
use Rattle.inspect_places.specs.Rules.{place_rules}
use Rattle.inspect_members.specs.Rules.{width_rules, rank_rules}
use Rattle.inspect_members.specs.Line.{HomesFew}
use Rattle.inspect_tests.specs.Rules.{WindowThere, InTime, task_test_rules, test_rules}
use Rattle.inspect_tests.proofs.Verdicts.{passing_worst}
use Rattle.inspect.specs.Rules.{build_record_rules, build_rules, check_rules}
use Rattle.inspect.proofs.Claims.{refused_exactly}
use Rattle.late_find.specs.Found.{NamedLate}
use Rattle.late.specs.Shown.{late_in_refusal, RefusedLate}

-- a refusal that names no late task
abbrev NotLate : Refusal → Type 0
NotLate refusal = late_in_refusal refusal ≡ None

-- such rules are kept where 29 comes after them
past : (i : ℕ) (a b : List Rule) → EachRefuses NotLate a → FirstOffence (a ++ b) (OfBuild (Late i)) → AllKept a × FirstOffence b (OfBuild (Late i))
past i a b each offence =
    ⊎_elim
    (λ (front : FirstOffence a (OfBuild (Late i))). let e : ◌≡◌ {A = Option ℕ} (Some i) None = offence_of NotLate a (OfBuild (Late i)) each front in let z : ◌≡◌ {A = ℕ} 0 1 = cc in absurd (omega arith))
    (λ (rest : AllKept a × FirstOffence b (OfBuild (Late i))). rest)
    (offence_cut a b (OfBuild (Late i)) offence)

order_not_late : (order : List ℕ) → EachRefuses NotLate (order_rules order)
unfolding order_rules layout_rules header_rules spare_rules range_rules EachRefuses
order_not_late order =
    each_append NotLate (layout_rules order) (range_rules (order_at order))
    (each_append NotLate (header_rules (length order) (header_of order)) (spare_rules order (header_of order).tasks)
    (refl, (refl, (refl, (refl, (refl, (refl, tt))))))
    (each_joined NotLate _ (header_of order).tasks (λ i. (refl, tt))))
    (each_joined NotLate _ (order_at order).tasks (λ i. (refl, (refl, (refl, (refl, tt))))))

layout_not_late : (o : Order) (s : List ℕ) → EachRefuses NotLate (build_layout_rules o s)
unfolding build_layout_rules EachRefuses
layout_not_late o s = (refl, (refl, (refl, (refl, tt))))

places_not_late : (o : Order) (b : Build) → EachRefuses NotLate (place_rules o b)
unfolding place_rules EachRefuses
places_not_late o b = each_joined NotLate _ b.partitions (λ p. (refl, tt))

widths_not_late : (o : Order) (b : Build) → EachRefuses NotLate (width_rules o b)
unfolding width_rules EachRefuses
widths_not_late o b = each_joined NotLate _ o.tasks (λ i. (refl, tt))

ranks_not_late : (o : Order) (b : Build) → EachRefuses NotLate (rank_rules o b)
unfolding rank_rules EachRefuses
ranks_not_late o b = each_joined NotLate _ o.tasks (λ i. (refl, tt))

never_late : {A : Type 0} (i : ℕ) (refusal : Refusal) → NotLate refusal → refusal ≡ OfBuild (Late i) → A
never_late i refusal not_late e = let same : ◌≡◌ {A = Option ℕ} None (Some i) = sym not_late ∙ ap late_in_refusal e in let z : ◌≡◌ {A = ℕ} 0 1 = cc in absurd (omega arith)

-- 27 to 30 of a task refuse 29 for that task, where it has a window and is not in time
test_late : (o : Order) (b : Build) (j i : ℕ) → FirstOffence (task_test_rules o b j) (OfBuild (Late i))
    → (j ≡ i) × WindowThere o (members_of b (home_of b j)) j × (InTime o (members_of b (home_of b j)) j → ⊥)
unfolding FirstOffence
test_late o b j i offence =
    ⊎_elim
    (λ first. never_late i (OfBuild (Window j)) refl first.1)
    (λ windowed.
    ⊎_elim
    (λ second. never_late i (OfBuild (Start j)) refl second.1)
    (λ started.
    ⊎_elim
    (λ third. (let e = third.1 in cc, windowed.0, third.0))
    (λ timed. ⊎_elim (λ fourth. never_late i (OfBuild (Response j)) refl fourth.1) (λ none. absurd none.1) timed.1)
    started.1)
    windowed.1)
    offence

-- a member with a window that is not in time is late
late_verdict : (o : Order) (member : Members) (i : ℕ) → WithinLimits o → i < o.tasks → WindowThere o member i → (InTime o member i → ⊥) → verdict o member i ≡ Err TooLate
late_verdict o member i limits known there out-of-time = go (verdict o member i) refl
  where
    go : (v : Verdict) → verdict o member i ≡ v → verdict o member i ≡ Err TooLate
    go (Ok worst) e = let p = ((every_verdict_means o member i limits known).passes worst).0 e in absurd (out-of-time (record { worst = worst; worst_is = passing_worst o member i worst p; at_most = p.in_time_lem }))
    go (Err NoWindow) e = absurd (omega (arith, (every_verdict_means o member i limits known).no_window.0 e there.0 there.1.from there.1.upto, there.1.met))
    go (Err NoStart) e = absurd (no_start_never o member i limits known e)
    go (Err TooLate) e = e

-- 20 to 25 kept: partitions have small numbers
homes_kept : (o : Order) (build : List ℕ) → AllKept (build_layout_rules o build) → AllKept (width_rules o (build_at build)) → HomesFew o (build_at build)
unfolding build_layout_rules width_rules AllKept build_at
homes_kept o build laid wide i known = omega (arith, (kept_at _ o.tasks i known wide).0.there, laid.1.0.partitions.1)

-- 1 to 10 hold
pub order_passes : (order build : List ℕ) (i : ℕ) → RefusedLate order build i → AllPass (order_rules order)
unfolding check_rules
order_passes order build i refused =
    kept_pass (order_rules order) (order_tells order)
    (past i (order_rules order) (build_rules (order_at order) build) (order_not_late order) ((refused_exactly order build (OfBuild (Late i))).0 refused)).0

-- 20 to 23 hold
pub layout_passes : (order build : List ℕ) (i : ℕ) → RefusedLate order build i → AllPass (build_layout_rules (order_at order) build)
unfolding check_rules build_rules
layout_passes order build i refused =
    let o = order_at order in
    let ordered = past i (order_rules order) (build_rules o build) (order_not_late order) ((refused_exactly order build (OfBuild (Late i))).0 refused) in
    kept_pass (build_layout_rules o build) (layout_tells o build) (past i (build_layout_rules o build) (build_record_rules o (build_at build)) (layout_not_late o build) ordered.1).0

pub named_late : (order build : List ℕ) (i : ℕ) → RefusedLate order build i → NamedLate (order_at order) (build_at build) i
unfolding check_rules build_rules build_record_rules test_rules
named_late order build i refused =
    let o = order_at order in
    let b = build_at build in
    let ordered = past i (order_rules order) (build_rules o build) (order_not_late order) ((refused_exactly order build (OfBuild (Late i))).0 refused) in
    let laid = past i (build_layout_rules o build) (build_record_rules o b) (layout_not_late o build) ordered.1 in
    let placed = past i (place_rules o b) (width_rules o b ++ (rank_rules o b ++ test_rules o b)) (places_not_late o b) laid.1 in
    let wide = past i (width_rules o b) (rank_rules o b ++ test_rules o b) (widths_not_late o b) placed.1 in
    let ranked = past i (rank_rules o b) (test_rules o b) (ranks_not_late o b) wide.1 in
    let tested = offence_at (task_test_rules o b) o.tasks (OfBuild (Late i)) ranked.1 in
    let late = test_late o b tested.0 i tested.3 in
    let limits = within_limits order (order_passes order build i refused) in
    subst (NamedLate o b) late.0
    (record {
      limits = limits;
      homes = homes_kept o build laid.0 wide.0;
      known = tested.1;
      late = late_verdict o (members_of b (home_of b tested.0)) tested.0 limits tested.1 late.1 late.2;
    })
