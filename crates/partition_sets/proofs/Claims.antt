-- The sets of an accepted build's partitions: whole, below M, as many as the volume, and apart.
use Rattle.std.specs.Prelude.{Ok}
use Prim.Native.Nat.{ℕ, ◌≤◌, ◌<◌}
use mathlib.Core.Path.{◌≡◌, sym, ap, ◌∙◌, subst}
use mathlib.Core.Bool.{true}
use mathlib.Core.List.{List, ◌++◌}
use native.Mathlib.Omega.{arith}
use native.Mathlib.Decide.{dec_lt}
use lib.ListN.{length, get_or}
use Rattle.laws.proofs.Joined.{get_or-listed, length-listed}
use Rattle.model.specs.declared.build.Build.{Build}
use Rattle.model.specs.Kinds.{Answer}
use Rattle.model.specs.Limits.{place_of}
use Rattle.model.specs.Answer.{output_after}
use Rattle.model.specs.Rules.{TestsTell, first_broken, OneRightAnswer, room_rules}
use Rattle.model.proofs.Rules.{AllPass, pass_done, one_right_answer, tell_append, room_on, room_tells}
use Rattle.model.proofs.Wrote.{wrote_kept, wrote_count, wrote_room, wrote_front, wrote_only}
use Rattle.order.specs.Order.{order_at}
use Rattle.build.specs.Build.{build_at}
use Rattle.inspect.specs.Rules.{check_rules, check_answer}
use Rattle.inspect.proofs.Claims.{done_accepts}
use Rattle.inspect.proofs.Turn.{check_tells}
use Rattle.sets.specs.Sets.{has, partition_set}
use Rattle.sets.proofs.Claims.{partition_is_set, partition_has, partition_size}
use Rattle.partition_sets.specs.Given.{build_sets, sets_rules, sets_answer, GivesSets}
use Rattle.partition_sets.specs.Claims.{SetsGivenExactly, SetRight, SetsRight, SetsApart, OneSetsAnswer, SetsKeep, SetsUnique}
use Rattle.partition_sets.proofs.Given.{partitions_fit, room_next}

-- set p of a build
set_at : (b : Build) (p : ℕ) → p < b.partitions → get_or (build_sets b) p 0 ≡ partition_set (place_of b p)
unfolding build_sets
set_at b p below = get_or-listed (λ q. partition_set (place_of b q)) 0 b.partitions p below

pub sets_right : SetsRight
sets_right order build said p below =
    let accepted = done_accepts order build said in
    let place = place_of (build_at build) p in
    let fits = (partitions_fit (order_at order) (build_at build) accepted).each p below in
    let processors = partition_has place fits in
    subst (SetRight order build p) (sym (set_at (build_at build) p below))
    (record {
      word = partition_is_set place;
      processors = processors;
      below_m = λ k is. (accepted.places p below).inside k ((processors k).0 is);
      sized = partition_size place fits;
    })

-- a processor in two of them is in an overlap
overlapped : (order build : List ℕ) → check_answer order build ≡ Ok 0 → (p q k : ℕ) → p < q → q < (build_at build).partitions
    → has (get_or (build_sets (build_at build)) p 0) k ≡ true → has (get_or (build_sets (build_at build)) q 0) k ≡ true → ⊥
overlapped order build said p q k less below in_p in-q =
    let right : (r : ℕ) → r < (build_at build).partitions → SetRight order build r (get_or (build_sets (build_at build)) r 0) = sets_right order build said in
    ((done_accepts order build said).places q below).apart p less (k, ((right p (omega (arith, less, below))).processors k).0 in_p, ((right q below).processors k).0 in-q)

pub sets_apart : SetsApart
sets_apart order build said p q k p-below q-below in_p in-q = go (dec_lt p q) (dec_lt q p)
  where
    go : Dec (p < q) → Dec (q < p) → p ≡ q
    go (yes less) other = absurd (overlapped order build said p q k less q-below in_p in-q)
    go (no not-less) (yes more) = absurd (overlapped order build said q p k more p-below in-q in_p)
    go (no not-less) (no not_more) = omega (arith, not-less, not_more)

sets_tell : (order build : List ℕ) (places : ℕ) → TestsTell (sets_rules order build places)
unfolding sets_rules
sets_tell order build places = tell_append (check_rules order build) _ (check_tells order build) (λ _. room_tells (build_at build).partitions places)

pub one_sets_answer : OneSetsAnswer
unfolding OneRightAnswer sets_answer
one_sets_answer order build places answer = one_right_answer _ (sets_rules order build places) (sets_tell order build places) answer

-- the sets that are given
answered_by : (order build output : List ℕ) (answer : Answer) (after : List ℕ) → GivesSets order build output answer after
    → answer ≡ first_broken (build_at build).partitions (check_rules order build ++ room_rules (build_at build).partitions (length output))
unfolding sets_answer sets_rules
answered_by order build output answer after w = w.answered

accepts : (order build : List ℕ) → AllPass (check_rules order build) → check_answer order build ≡ Ok 0
unfolding check_answer
accepts order build passed = pass_done 0 (check_rules order build) passed

pub sets_given_exactly : SetsGivenExactly
sets_given_exactly order build output answer after count w = (
  (λ e.
      let by = answered_by order build output answer after w in
      let sets = build_sets (build_at build) in (
        accepts order build (wrote_kept (check_rules order build) _ sets output answer after by w.written count e),
        wrote_count (check_rules order build) _ sets output answer after by w.written count e,
        wrote_room (check_rules order build) _ sets output answer after by w.written count e,
        wrote_front (check_rules order build) _ sets output answer after by w.written count e,
      )),
  (λ is.
      w.answered ∙ room_next order build (length output) 0 is.0 ∙ room_on _ _ _ (subst (◌≤ length output) is.1 is.2) ∙ ap Ok (sym is.1)),
)

length_sets : (b : Build) → length (build_sets b) ≡ b.partitions
unfolding build_sets
length_sets b = length-listed (λ p. partition_set (place_of b p)) b.partitions

pub sets_keep : SetsKeep
sets_keep order build output answer after w = wrote_only (check_rules order build) _ (build_sets (build_at build)) output answer after (answered_by order build output answer after w) w.written (length_sets (build_at build))

pub sets_unique : SetsUnique
sets_unique order build output one other after after' w v =
    let same : one ≡ other = w.answered ∙ sym v.answered in
    (same, w.written ∙ ap (λ (a : Answer). output_after a (build_sets (build_at build)) output) same ∙ sym v.written)
