-- Whatever the planner writes, the check accepts: the build that first fit gives keeps every rule of the check.
use Rattle.std.specs.Prelude.{Result, Ok}
use Prim.Native.Nat.{ℕ, ◌<◌}
use mathlib.Core.Path.{◌≡◌, sym, ap, ◌∙◌, subst}
use mathlib.Core.List.{List, [], ◌++◌, append-nil}
use mathlib.Core.Logic.{◌⊎◌, inl, inr}
use native.Mathlib.Omega.{arith}
use lib.ListN.{drop}
use lib.Seq.{take_at}
use Rattle.laws.proofs.Filled.{length-filled}
use Rattle.model.specs.declared.order.Order.{Order}
use Rattle.model.specs.declared.build.Build.{Build}
use Rattle.model.specs.declared.answer.Refusal.{Refusal}
use Rattle.model.specs.Kinds.{Answer}
use Rattle.model.specs.Limits.{most_tasks, zero_member}
use Rattle.model.specs.Processors.{volume_of, processor_of, AmongLowest}
use Rattle.model.specs.Answer.{output_after}
use Rattle.model.specs.Rules.{WithinLimits}
use Rattle.model.proofs.Output.{after_done}
use Rattle.model.proofs.Rules.{AllPass}
use Rattle.order.specs.Order.{order_at, order_rules}
use Rattle.order.proofs.Reading.{within_limits, header_holds, spares_hold}
use Rattle.build.specs.Build.{build_at, build_bytes, build_header_of}
use Rattle.build_facts.specs.Facts.{ZeroPast, Holds}
use Rattle.build_facts.proofs.Back.{length_right, reads_back}
use Rattle.fitting.specs.declared.Placing.{Placing}
use Rattle.fitting.specs.Steps.{going_on, refusing, first_fit}
use Rattle.fitting.specs.Claims.{Placed}
use Rattle.fitting.proofs.Claims.{places, one_of_two}
use Rattle.fit.specs.Recorded.{recorded_as, build_of, fitted_of, build_in}
use Rattle.fit.specs.Claims.{Built}
use Rattle.fit.proofs.Built.{built, fitted_done, fitted_refused}
use Rattle.fit.proofs.Fields.{built_fits}
use Rattle.plan.proofs.Claims.{order_rules_lem, fit_done, counted}
use Rattle.inspect_places.specs.Rules.{PartitionRight}
use Rattle.inspect.specs.Rules.{check_answer}
use Rattle.inspect.specs.Claims.{OrderRight, LayoutRight, AcceptedBuild}
use Rattle.inspect.proofs.Claims.{accepted_done}
use Rattle.agree.specs.Claims.{PlannedIsAccepted}

module _ (order : List ℕ) (rules : AllPass (order_rules order)) (s : Placing) (fits : first_fit (order_at order) ≡ going_on s) where
  abbrev o : Order
  o = order_at order

  abbrev b : Build
  b = build_of o s

  abbrev limits : WithinLimits o
  limits = within_limits order rules

  its : Built o b
  its = built o limits s fits

  placed : Placed o its.placed.0.homes b.places b.partitions
  placed = its.placed.1.1

  -- 1 to 10
  order_right : OrderRight order
  unfolding order_at
  order_right =
      let h = header_holds order rules in
      record {
        long = h.long;
        version = h.version;
        processors = h.processors;
        tasks = h.tasks;
        size = h.size_right;
        header_spare = h.spare;
        task_spares = spares_hold order rules;
        ranges = limits.each;
      }

  zero_past : ZeroPast b
  unfolding build_of
  zero_past =
      record {
        places_length = (places o limits s fits).laid.long;
        members_length = length-filled (recorded_as o s.homes) zero_member most_tasks o.tasks limits.tasks.1;
        places_past = placed.zero_past;
        members_past = λ i l. its.zero_past i l;
      }

  -- the bytes hold the build
  holds : Holds (build_bytes b) b
  holds = subst (λ (x : List ℕ). Holds x b) (append-nil (build_bytes b)) (reads_back b [] (built_fits o b limits its) zero_past)

  -- 24 to 30, of the build itself
  partition_right_lem : (p : ℕ) → p < b.partitions → PartitionRight o.processors b p
  unfolding AmongLowest processor_of volume_of
  partition_right_lem p below =
      record {
        some = placed.volume_least p below;
        inside = λ x of. (let at = of.2 in omega (arith, placed.inside p below, of.1, at));
        apart = λ earlier l both.
            (let one = both.1 in
            let other = both.2 in
            let first = one.2 in
            let second = other.2 in
            omega (arith, placed.apart earlier p l below, one.1, first, second));
      }

  accepted : AcceptedBuild o b
  accepted =
      record {
        limits = limits;
        processors = its.processors;
        tasks = its.tasks;
        partitions = (placed.some, omega (arith, placed.few, limits.tasks));
        places = partition_right_lem;
        widths = λ i below. (let home = its.placed.1.0 i below in record { there = rw home (placed.in_one i below); wide = rw home (placed.wide i below) });
        ranks = its.ranks;
        passing = its.responses;
      }

  -- 20 to 23
  partitions_same : (build_header_of (build_bytes b)).partitions ≡ b.partitions
  unfolding build_at
  partitions_same = ap (λ (x : Build). x.partitions) holds.build

  tasks_same : (build_header_of (build_bytes b)).tasks ≡ b.tasks
  unfolding build_at
  tasks_same = ap (λ (x : Build). x.tasks) holds.build

  processors_same : (build_header_of (build_bytes b)).processors ≡ b.processors
  unfolding build_at
  processors_same = ap (λ (x : Build). x.processors) holds.build

  layout_right : LayoutRight o (build_bytes b)
  layout_right =
      record {
        long = omega (arith, length_right b);
        header = record {
          version = holds.version;
          processors = processors_same ∙ its.processors;
          tasks = tasks_same ∙ its.tasks;
          partitions = rw partitions_same accepted.partitions;
        };
        size = length_right b ∙ rw (partitions_same, tasks_same);
        spares = record {
          partition_spares = λ i below. holds.partition_spares i (rw partitions_same at below);
          task_spares = λ i below. rw partitions_same (holds.member_spares i (rw tasks_same at below));
        };
      }

  pub checked : check_answer order (build_bytes b) ≡ Ok 0
  checked = accepted_done order (build_bytes b) order_right layout_right (subst (λ (x : Build). AcceptedBuild o x) (sym holds.build) accepted)

-- the same of whatever first fit gives
fitted_checked : (order : List ℕ) → AllPass (order_rules order) → (build : Build) → fitted_of (order_at order) ≡ Ok build → check_answer order (build_bytes (build_in (fitted_of (order_at order)))) ≡ Ok 0
fitted_checked order rules build e = go (one_of_two (order_at order) (within_limits order rules))
  where
    go : ((s : Placing) × (first_fit (order_at order) ≡ going_on s)) ⊎ ((s : Placing) × ((i : ℕ) × (first_fit (order_at order) ≡ refusing s i))) → check_answer order (build_bytes (build_in (fitted_of (order_at order)))) ≡ Ok 0
    go (inl (s, f)) = subst (λ (x : Result Build Refusal). check_answer order (build_bytes (build_in x)) ≡ Ok 0) (sym (fitted_done (order_at order) s f)) (checked order rules s f)
    go (inr (s, (i, f))) = absurd (cc (sym (fitted_refused (order_at order) s i f) ∙ e))

pub planned_is_accepted : PlannedIsAccepted
planned_is_accepted order output answer after count p e =
    let rules = order_rules_lem order output answer after count p e in
    let done = fit_done order output answer after count p e in
    let b = (build_in (fitted_of (order_at order))) in
    let front : after ≡ build_bytes b ++ drop count output = p.written ∙ ap (λ (a : Answer). output_after a (build_bytes b) output) e ∙ after_done count (build_bytes b) output in
    rw (front, take_at (build_bytes b) (drop count output) count (length_right b ∙ sym (counted order output answer after count p e))) (fitted_checked order rules done.0 done.1)
