-- How a placing stands after so many steps; a task put into a partition that takes it, or into a new one, leaves it standing so.
use Rattle.std.specs.Prelude.{Option, Some, None, is_none}
use mathlib.Core.Path.{◌≡◌, refl, sym, ap, ◌∙◌}
use mathlib.Core.Bool.{Bool, true, false}
use mathlib.Core.List.{List}
use Prim.Native.Nat.{ℕ, ◌+◌, ◌≤◌, ◌<◌}
use native.Mathlib.Decide.{dec_lt, ℕ_discrete}
use native.Mathlib.Omega.{arith}
use lib.ListN.{length, get_or, set, replicate, length-set}
use lib.Seq.{get_or-set_same, get_or-set_other}
use Rattle.laws.specs.Sums.{sum}
use Rattle.laws.proofs.Every.{clash}
use Rattle.laws.proofs.Filled.{get_or_alike}
use Rattle.laws.proofs.Sums.{sum_none, sum_more, sum_same}
use Rattle.model.specs.Limits.{most_tasks, most_partitions, zero_partition}
use Rattle.model.specs.Processors.{volume_of}
use Rattle.model.specs.Rules.{WithinLimits}
use Rattle.demand.specs.Test.{verdict, does_pass}
use Rattle.demand.proofs.Membership.{verdict_same, every_alone_passes}
use Rattle.turns.specs.Turns.{Homes, width_of, unplaced, home_at, is_unplaced}
use Rattle.turns.specs.Claims.{IsNext}
use Rattle.turns.proofs.Turns.{before_wide}
use Rattle.fitting.specs.Kinds.{Order, Partition, Placing}
use Rattle.fitting.specs.Steps.{nothing_placed, put, open_next, living_in, accepts}
use Rattle.fitting.specs.Claims.{opened as opened_at, volume_at}
use Rattle.fitting.specs.Standing.{Numbered, Laid, Wide, Stands}
use Rattle.fitting.proofs.Put.{unplaced_says, living_says, away_says, says_away, all_wait, put_here, put_other, put_placed, put-unplaced, put-waiting, living_kept}
use Rattle.fitting.proofs.Accepts.{members_say}

module _ (o : Order) (limits : WithinLimits o) (homes : Homes) (opened placed : ℕ) (was : Numbered o homes opened placed) (early : placed < o.tasks) (i : ℕ) (next : IsNext o homes o.tasks i) where
  pub room : i < length homes
  room = omega (arith, was.places, next.below, limits.tasks.1)

  -- task i put in an open partition or in the next one
  module _ (k more : ℕ) (le : k < more) (grown : opened ≤ more) (after : more ≤ placed + 1)
      (members : (j : ℕ) → j < o.tasks → living_in (set homes i (Some k)) k j ≡ true → does_pass (verdict o (living_in (set homes i (Some k)) k) j) ≡ true) where
    small : k < unplaced
    small = omega (arith, limits.tasks.1)

    still_passes : (j : ℕ) → j < o.tasks → is_unplaced (set homes i (Some k)) j ≡ false → (b : Bool) → living_in (set homes i (Some k)) k j ≡ b
        → does_pass (verdict o (living_in (set homes i (Some k)) (home_at (set homes i (Some k)) j)) j) ≡ true
    still_passes j l p true e =
        ap (λ (h : ℕ). does_pass (verdict o (living_in (set homes i (Some k)) h) j)) (living_says (set homes i (Some k)) k j e) ∙ members j l e
    still_passes j l p false e =
        let away : j ≡ i → ⊥ = λ s. away_says (set homes i (Some k)) k j e (ap (home_at (set homes i (Some k))) s ∙ put_here homes i k room) in
        let before : is_unplaced homes j ≡ false = sym (put-unplaced homes i k room j away) ∙ p in
        ap does_pass (verdict_same o (living_in (set homes i (Some k)) (home_at (set homes i (Some k)) j)) (living_in homes (home_at homes j)) j (λ x lx. living_kept homes i k room next.waiting j e (λ z. omega (arith, z, was.in_one j l before, le, small, grown)) x)) ∙ was.passes j l before

    pub numbered_put : Numbered o (set homes i (Some k)) more (placed + 1)
    numbered_put =
        record {
          places = length-set homes i (Some k) ∙ was.places;
          count = omega (arith, put-waiting homes i k room o.tasks next.below next.waiting small, was.count);
          few = after;
          in_one = λ j l p.
              elim (ℕ_discrete j i) [
                | yes e ↦ omega (arith, ap (home_at (set homes i (Some k))) e, put_here homes i k room)
                | no away ↦ omega (arith, put_other homes i k room j away, was.in_one j l (sym (put-unplaced homes i k room j away) ∙ p))
              ];
          passes = λ j l p. still_passes j l p (living_in (set homes i (Some k)) k j) refl;
        }

  -- in an open partition that takes it
  pub numbered_accepted : (k : ℕ) → k < opened → accepts o homes i k ≡ true → Numbered o (set homes i (Some k)) opened (placed + 1)
  unfolding accepts
  numbered_accepted k l e =
      numbered_put k opened l (omega arith) (omega (arith, was.few)) (members_say o (set homes i (Some k)) k e)

  -- alone in a new one
  pub alone_there : (j : ℕ) → j < o.tasks → (j ≡ i → ⊥) → living_in (set homes i (Some opened)) opened j ≡ false
  alone_there j l away = says_away (set homes i (Some opened)) opened j (λ e. go (is_unplaced homes j) refl (sym (put_other homes i opened room j away) ∙ e))
    where
      go : (b : Bool) → is_unplaced homes j ≡ b → home_at homes j ≡ opened → ⊥
      go true u s = omega (arith, unplaced_says homes j u, was.few, limits.tasks.1)
      go false u s = omega (arith, was.in_one j l u)

  pub numbered_opened : Numbered o (set homes i (Some opened)) (opened + 1) (placed + 1)
  numbered_opened =
      numbered_put opened (opened + 1) (omega arith) (omega arith) (omega (arith, was.few))
      (λ j l e.
      elim (ℕ_discrete j i) [
        | yes s ↦ ap (λ (x : ℕ). does_pass (verdict o (living_in (set homes i (Some opened)) opened) x)) s ∙ ap does_pass (every_alone_passes o (living_in (set homes i (Some opened)) opened) i limits next.below alone_there)
        | no away ↦ clash (sym (alone_there j l away) ∙ e)
      ])

-- a new partition of volume m
module _ (M : ℕ) (places : List Partition) (opened used : ℕ) (was : Laid M places opened used) (left : opened < most_partitions) (m : ℕ) where
  abbrev now_places : List Partition
  now_places = set places opened (record { volume = m; first = used })

  pub laid_same : (k : ℕ) → (k ≡ opened → ⊥) → get_or now_places k zero_partition ≡ get_or places k zero_partition
  laid_same k away = get_or-set_other places opened k (record { volume = m; first = used }) zero_partition away

  pub laid_new : get_or now_places opened zero_partition ≡ record { volume = m; first = used }
  laid_new = get_or-set_same places opened (record { volume = m; first = used }) zero_partition (omega (arith, was.long))

  pub volume_new : volume_at now_places opened ≡ m
  unfolding volume_of
  volume_new = ap (λ (p : Partition). p.volume) laid_new

  sum_before : (k : ℕ) → k ≤ opened → sum (volume_at now_places) k ≡ sum (volume_at places) k
  sum_before k le = sum_same (volume_at now_places) (volume_at places) k (λ j l. ap volume_of (laid_same j (λ e. omega arith)))

  pub laid_opened : 1 ≤ m → used + m ≤ M → Laid M now_places (opened + 1) (used + m)
  laid_opened least fits =
      record {
        long = length-set places opened (record { volume = m; first = used }) ∙ was.long;
        volume_least = λ k l.
            elim (ℕ_discrete k opened) [
              | yes e ↦ omega (arith, ap (volume_at now_places) e, volume_new)
              | no away ↦ omega (arith, ap volume_of (laid_same k away), was.volume_least k (omega arith))
            ];
        lowest = λ k l.
            elim (ℕ_discrete k opened) [
              | yes e ↦
                  ap (λ (x : ℕ). (opened_at now_places x).first) e
                  ∙ (ap (λ (p : Partition). p.first) laid_new ∙ (was.used_by ∙ (sym (sum_before opened (omega arith)) ∙ ap (sum (volume_at now_places)) (sym e))))
              | no away ↦
                  ap (λ (p : Partition). p.first) (laid_same k away) ∙ (was.lowest k (omega arith) ∙ sym (sum_before k (omega arith)))
            ];
        used_by = omega (arith, sum_more (volume_at now_places) opened, sum_before opened (omega arith), was.used_by, volume_new);
        inside = fits;
        zero_past = λ k l. laid_same k (λ e. omega arith) ∙ was.zero_past k (omega arith);
      }

-- a task put in partition k: each partition stays wide enough
module _ (o : Order) (homes : Homes) (places : List Partition) (opened : ℕ) (was : Wide o homes places opened) (i : ℕ) (here : i < length homes) (next : IsNext o homes o.tasks i) where
  pub wide_put : (k : ℕ) (more : List Partition) (grown : ℕ) → ((h : ℕ) → h < opened → volume_at more h ≡ volume_at places h) →
      ((j : ℕ) → j < o.tasks → is_unplaced homes j ≡ false → home_at homes j < opened) →
      k < unplaced → width_of o i ≤ volume_at more k → ((h : ℕ) → opened ≤ h → h < grown → volume_at more h ≡ width_of o i) →
      Wide o (set homes i (Some k)) more grown
  wide_put k more grown same in_one small fits new =
      record {
        for_members = λ j l p.
            elim (ℕ_discrete j i) [
              | yes e ↦ omega (arith, ap (width_of o) e, ap (λ (x : ℕ). volume_at more (home_at (set homes i (Some k)) x)) e, ap (volume_at more) (put_here homes i k here))
              | no away ↦ (let before = sym (put-unplaced homes i k here j away) ∙ p in
                  omega (arith, ap (volume_at more) (put_other homes i k here j away), same (home_at homes j) (in_one j l before), was.for_members j l before))
            ];
        for_others = λ j l p h lh.
            (let away : j ≡ i → ⊥ = λ e. clash (sym (put_placed homes i k here small) ∙ (ap (is_unplaced (set homes i (Some k))) (sym e) ∙ p)) in
            let before = sym (put-unplaced homes i k here j away) ∙ p in
            elim (dec_lt h opened) [
              | yes old ↦ omega (arith, same h old, was.for_others j l before h old)
              | no young ↦ omega (arith, new h (omega arith) lh, before_wide o i j (next.before_others j l before away))
            ]);
      }

module _ (o : Order) (limits : WithinLimits o) (widths : (j : ℕ) → j < o.tasks → 1 ≤ width_of o j) where
  pub stands_none : Stands o 0 nothing_placed
  unfolding is_unplaced
  stands_none =
      record {
        numbered = record {
          places = refl;
          count = omega (arith, all_wait (replicate most_tasks None) o.tasks waits);
          few = omega arith;
          in_one = λ j l p. clash (sym p ∙ waits j l);
          passes = λ j l p. clash (sym p ∙ waits j l);
        };
        laid = record {
          long = refl;
          volume_least = λ k l. absurd (omega arith);
          lowest = λ k l. absurd (omega arith);
          used_by = sym (sum_none (volume_at (replicate most_partitions zero_partition)));
          inside = omega arith;
          zero_past = λ k l. get_or_alike most_partitions k zero_partition;
        };
        wide = record { for_members = λ j l p. clash (sym p ∙ waits j l); for_others = λ j l p k lk. absurd (omega arith) };
      }
    where
      waits : (j : ℕ) → j < o.tasks → is_unplaced (replicate most_tasks None) j ≡ true
      waits j l = ap (λ (home : Option ℕ). is_none home) (get_or_alike most_tasks j None)

  module _ (placed : ℕ) (s : Placing) (was : Stands o placed s) (early : placed < o.tasks) (i : ℕ) (next : IsNext o s.homes o.tasks i) where
    here : i < length s.homes
    here = room o limits s.homes s.opened placed was.numbered early i next

    few : s.opened < unplaced
    few = omega (arith, was.numbered.few, limits.tasks.1)

    pub stands_accepted : (k : ℕ) → k < s.opened → accepts o s.homes i k ≡ true → Stands o (placed + 1) (put s i k)
    stands_accepted k l e =
        record {
          numbered = numbered_accepted o limits s.homes s.opened placed was.numbered early i next k l e;
          laid = was.laid;
          wide =
              wide_put o s.homes s.places s.opened was.wide i here next k s.places s.opened (λ h lh. refl) was.numbered.in_one (omega (arith, few))
              (was.wide.for_others i next.below next.waiting k l) (λ h a b. absurd (omega arith));
        }

    pub stands_opened : s.used + width_of o i ≤ o.processors → Stands o (placed + 1) (put (open_next s (width_of o i)) i s.opened)
    stands_opened fits =
        let new = volume_new o.processors s.places s.opened s.used was.laid few (width_of o i) in
        record {
          numbered = numbered_opened o limits s.homes s.opened placed was.numbered early i next;
          laid = laid_opened o.processors s.places s.opened s.used was.laid few (width_of o i) (widths i next.below) fits;
          wide =
              wide_put o s.homes s.places s.opened was.wide i here next s.opened
              (set s.places s.opened (record { volume = width_of o i; first = s.used }))
              (s.opened + 1)
              (λ h lh. ap volume_of (laid_same o.processors s.places s.opened s.used was.laid few (width_of o i) h (λ e. omega arith)))
              was.numbered.in_one few (omega (arith, new))
              (λ h a b. ap (volume_at (set s.places s.opened (record { volume = width_of o i; first = s.used }))) (omega arith) ∙ new);
        }
