-- Laws of the chains of records: from the last record back, each is put before the first of its group.
use Prim.Native.Nat.{ℕ, zero, suc, ◌-◌, ◌%◌, ◌≤◌, ◌<◌}
use mathlib.Core.Path.{◌≡◌, refl, sym, ap, ◌∙◌, subst}
use mathlib.Core.List.{List}
use native.Mathlib.Decide.{ℕ_discrete}
use native.Mathlib.Omega.{arith}
use lib.ListN.{length, get_or, set, replicate, length-set, length-replicate}
use lib.Seq.{get_or-set_same, get_or-set_other}
use Rattle.model.specs.declared.build.Release.{Release}
use Rattle.model.specs.Limits.{most_tasks, most_records}
use Rattle.stepper.specs.Lines.{record_task, NextOf}
use Rattle.course.specs.Ahead.{Grouped, LinedUp}

-- the records from i on are in their chains
pub record LinedFrom (group : ℕ → ℕ) (script : List Release) (i : ℕ) (first next : List ℕ) : Type 0 where
  pub first_places : length first ≡ most_tasks
  pub places : length next ≡ most_records
  pub first_at : (g : ℕ) → g < most_tasks → NextOf group script g i (get_or first g 0)
  pub next_at : (x : ℕ) → i ≤ x → x < length script → NextOf group script (group (record_task script x)) (suc x) (get_or next x 0)

all_alike : (z n i : ℕ) → i < n → get_or (replicate n z) i 0 ≡ z
all_alike z zero i below = absurd (omega arith)
all_alike z (suc n) zero below = refl
all_alike z (suc n) (suc i) below = all_alike z n i (omega arith)

module _ (group : ℕ → ℕ) (script : List Release) (few : length script ≤ most_records) where
  pub lined_none : (i : ℕ) (next : List ℕ) → i ≡ length script → length next ≡ most_records → LinedFrom group script i (replicate most_tasks 1024) next
  lined_none i next all places =
      record {
        first_places = length-replicate {A = ℕ} most_tasks 1024;
        places = places;
        first_at = λ g below. rw (all_alike 1024 most_tasks g below) (record {
          from = omega arith;
          upto = omega arith;
          there = λ l. absurd (omega arith);
          own = λ l. absurd (omega arith);
          between = λ x a b c d. omega arith;
        });
        next_at = λ x from below. absurd (omega arith);
      }

  pub lined_more : (i g : ℕ) (first next : List ℕ) → i < length script → g < most_tasks → group (record_task script i) ≡ g
      → LinedFrom group script (suc i) first next → LinedFrom group script i (set first g i) (set next i (get_or first g 0))
  lined_more i g first next there within own l =
      record {
        first_places = length-set first g i ∙ l.first_places;
        places = length-set next i (get_or first g 0) ∙ l.places;
        first_at = λ h below. first_at h below (ℕ_discrete h g);
        next_at = λ x from below. next_at x from below (ℕ_discrete x i);
      }
    where
      first_at : (h : ℕ) → h < most_tasks → Dec (h ≡ g) → NextOf group script h i (get_or (set first g i) h 0)
      first_at h below (yes q) =
          let here : NextOf group script g i i = record { from = omega arith; upto = omega arith; there = λ z. there; own = λ z. own; between = λ x a b c d. omega arith } in
          subst (λ (h : ℕ). NextOf group script h i (get_or (set first g i) h 0)) (sym q)
          (rw (get_or-set_same first g i 0 (rw l.first_places within)) here)
      first_at h below (no q) =
          let was = l.first_at h below in
          rw (get_or-set_other first g h i 0 q) (record {
            from = omega (arith, was.from);
            upto = was.upto;
            there = was.there;
            own = was.own;
            between = λ x a b c d. earlier x a b c d (ℕ_discrete x i);
          })
        where
          earlier : (x : ℕ) → i ≤ x → x < get_or first h 0 → x < length script → group (record_task script x) ≡ h → Dec (x ≡ i) → ⊥
          earlier x a b c d (yes e) = q (sym d ∙ ap (λ (y : ℕ). group (record_task script y)) e ∙ own)
          earlier x a b c d (no e) = (l.first_at h below).between x (omega (arith, e)) b c d

      next_at : (x : ℕ) → i ≤ x → x < length script → Dec (x ≡ i) → NextOf group script (group (record_task script x)) (suc x) (get_or (set next i (get_or first g 0)) x 0)
      next_at x from below (yes q) =
          subst (λ (x : ℕ). NextOf group script (group (record_task script x)) (suc x) (get_or (set next i (get_or first g 0)) x 0)) (sym q)
          (rw (get_or-set_same next i (get_or first g 0) 0 (omega (arith, l.places)), own) (l.first_at g within))
      next_at x from below (no q) = rw (get_or-set_other next i x (get_or first g 0) 0 q) (l.next_at x (omega (arith, q)) below)

  pub lined_all : (first next : List ℕ) → LinedFrom group script 0 first next → LinedUp group script first next
  lined_all first next l = record { first_places = l.first_places; places = l.places; first_at = l.first_at; next_at = λ i below. l.next_at i (omega arith) below }

module _ {records : ℕ} {keys groups : List ℕ} (so : Grouped records keys groups) where
  pub group_here : (i : ℕ) → i < records → get_or groups (get_or keys i 0 % 32) 0 ≡ so.group (record_task so.script i)
  group_here i below = let there : i < length so.script = omega (arith, so.count) in ap (λ (k : ℕ). get_or groups k 0) (so.key_task i there) ∙ so.group_at i there

  pub group_few : (i : ℕ) → i < records → get_or groups (get_or keys i 0 % 32) 0 < 32
  group_few i below = omega (arith, group_here i below, so.within i (omega (arith, so.count)))

  pub records_few : records ≤ 1024
  records_few = omega (arith, so.count, so.few)

  -- one record more, from the back
  pub lined_back : (i : ℕ) (first next : List ℕ) → 0 < i → i ≤ records → LinedFrom so.group so.script i first next
      → LinedFrom so.group so.script (i - 1) (set first (get_or groups (get_or keys (i - 1) 0 % 32) 0) (i - 1)) (set next (i - 1) (get_or first (get_or groups (get_or keys (i - 1) 0 % 32) 0) 0))
  lined_back i first next some few l =
      let e : i ≡ suc (i - 1) = omega arith in
      lined_more so.group so.script so.few (i - 1) (get_or groups (get_or keys (i - 1) 0 % 32) 0) first next (omega (arith, so.count)) (group_few (i - 1) (omega arith)) (sym (group_here (i - 1) (omega arith)))
      (subst (λ (x : ℕ). LinedFrom so.group so.script x first next) e l)
