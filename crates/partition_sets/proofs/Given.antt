-- The answer part by part: the check's refusals, then 12; and what an accepted build has.
use Rattle.std.specs.Prelude.{Ok, Err, Result}
use Prim.Native.Nat.{ℕ, ◌+◌, ◌-◌, ◌≤◌, ◌<◌}
use mathlib.Core.Path.{◌≡◌, refl, sym, ap, ◌∙◌}
use mathlib.Core.List.{List, ◌++◌}
use native.Mathlib.Omega.{arith}
use lib.ListN.{length, drop, set}
use Rattle.laws.specs.Joined.{overlaid}
use Rattle.laws.proofs.Overlaid.{overlaid_more}
use Rattle.model.specs.declared.order.Order.{Order}
use Rattle.model.specs.declared.build.Build.{Build}
use Rattle.model.specs.declared.answer.Refusal.{Refusal}
use Rattle.model.specs.declared.answer.Refusal.TheVariants.{OfCall}
use Rattle.model.specs.declared.answer.CallCause.TheVariants.{Output}
use Rattle.model.specs.Limits.{place_of}
use Rattle.model.specs.Processors.{volume_of, processor_of, AmongLowest}
use Rattle.model.specs.Rules.{first_broken, room_rules}
use Rattle.model.proofs.Output.{after_done, after_refused}
use Rattle.model.proofs.Rules.{pass_on, stop, any_count, room_stop, room_on}
use Rattle.build.specs.Build.{build_at}
use Rattle.inspect.specs.declared.Accepted.{Accepted}
use Rattle.inspect.specs.Rules.{check_rules, check_answer, ChecksBoth}
use Rattle.inspect.specs.Claims.{AcceptedBuild}
use Rattle.inspect.proofs.Answers.{says_no, says_yes}
use Rattle.inspect.proofs.Handed.{check_passes, handed_build}
use Rattle.partition_sets.specs.Given.{build_sets, PartitionsFit, sets_rules, sets_answer, GivesSets}

-- the last processor of a partition is below M
pub partitions_fit : (o : Order) (b : Build) → AcceptedBuild o b → PartitionsFit b
unfolding AmongLowest processor_of volume_of
partitions_fit o b accepted =
    record {
      few = accepted.partitions.1;
      each = λ p below.
          let right = accepted.places p below in
          let place = place_of b p in
          let last = right.inside (place.first + (place.volume - 1)) (place.volume - 1, omega (arith, right.some), refl) in
          omega (arith, last, right.some, accepted.limits.processors.1);
    }

-- one set more is put
pub set_next : (f : ℕ → ℕ) (output out : List ℕ) (i value : ℕ) → out ≡ overlaid f i output → value ≡ f i → i < length output → set out i value ≡ overlaid f (i + 1) output
set_next f output out i value e v below = ap (λ (o : List ℕ). set o i value) e ∙ ap (set (overlaid f i output) i) v ∙ overlaid_more f output i below

module _ (order build : List ℕ) (places : ℕ) where
  pub check_stops : (cause : Refusal) → check_answer order build ≡ Err cause → sets_answer order build places ≡ Err cause
  unfolding check_answer sets_answer sets_rules
  check_stops cause e = stop _ (check_rules order build) (room_rules (build_at build).partitions places) cause (any_count 0 _ (check_rules order build) cause e)

  pub room_next : (count : ℕ) → check_answer order build ≡ Ok count → sets_answer order build places ≡ first_broken (build_at build).partitions (room_rules (build_at build).partitions places)
  unfolding sets_answer sets_rules
  room_next count e = pass_on _ (check_rules order build) (room_rules (build_at build).partitions places) (check_passes order build e)

module _ (order build output : List ℕ) {checked : Result Accepted Refusal} (so : ChecksBoth order build checked) where
  pub given_not : {refusal : Refusal} → checked ≡ Err refusal → GivesSets order build output (Err refusal) output
  given_not {refusal} e =
      record {
        answered = sym (check_stops order build (length output) refusal (says_no order build so e));
        written = sym (after_refused refusal (build_sets (build_at build)) output);
      }

  module _ {accepted : Accepted} (done : checked ≡ Ok accepted) where
    next : sets_answer order build (length output) ≡ first_broken (build_at build).partitions (room_rules (build_at build).partitions (length output))
    next = room_next order build (length output) 0 (says_yes order build so done)

    same : accepted.build ≡ build_at build
    same = handed_build order build so done

    pub no_room : length output < accepted.build.partitions → GivesSets order build output (Err (OfCall Output)) output
    no_room less =
        record {
          answered = sym (next ∙ room_stop _ _ _ (omega (arith, less, ap (λ (b : Build). b.partitions) same)));
          written = sym (after_refused (OfCall Output) (build_sets (build_at build)) output);
        }

    pub given : {after : List ℕ} → accepted.build.partitions ≤ length output → after ≡ build_sets accepted.build ++ drop accepted.build.partitions output
        → GivesSets order build output (Ok accepted.build.partitions) after
    given room e =
        record {
          answered = sym (next ∙ room_on _ _ _ (omega (arith, room, ap (λ (b : Build). b.partitions) same)) ∙ ap (λ (b : Build). Ok b.partitions) (sym same));
          written = e ∙ ap (λ (b : Build). build_sets b ++ drop accepted.build.partitions output) same ∙ sym (after_done accepted.build.partitions (build_sets (build_at build)) output);
        }
