-- Laws of the ranks that wait, and of a task's oldest record.
use Prim.Native.Nat.{ℕ, suc, ◌≤◌, ◌<◌}
use mathlib.Core.Path.{◌≡◌, refl, sym, ap, ◌∙◌, subst}
use mathlib.Core.List.{List}
use mathlib.Core.Logic.{◌⊎◌, inl, inr, ⊎_elim}
use native.Mathlib.Decide.{dec_lt}
use native.Mathlib.Omega.{arith}
use lib.Bits.{bit_or}
use lib.ListN.{length}
use Rattle.model.specs.declared.order.Order.{Order}
use Rattle.model.specs.declared.build.Build.{Build}
use Rattle.model.specs.declared.build.Release.{Release}
use Rattle.model.specs.Limits.{most_records, home_of}
use Rattle.stepper.specs.Ranks.{rank_bit}
use Rattle.stepper.specs.Lines.{record_task, record_joins, NextOf}
use Rattle.stepper.specs.Follow.{rank_of, Heads, Marks, ReleasedIn, LegalRun}
use Rattle.stepper.proofs.Ranks.{bit_most, bit_or_lem}
use Rattle.stepper.proofs.Lines.{joins_later}

-- in one of two sets
pub bit_either : (v w r : ℕ) → rank_bit (bit_or v w) r ≡ 1 → (rank_bit v r ≡ 1) ⊎ (rank_bit w r ≡ 1)
bit_either v w r e = go (dec_lt 0 (rank_bit v r))
  where
    go : Dec (0 < rank_bit v r) → (rank_bit v r ≡ 1) ⊎ (rank_bit w r ≡ 1)
    go (yes p) = inl (omega (arith, bit_most v r))
    go (no p) = inr (omega (arith, bit_or_lem v w r, bit_most w r))

pub bit_one : (v w r : ℕ) → rank_bit v r ≡ 1 → rank_bit (bit_or v w) r ≡ 1
bit_one v w r e = omega (arith, bit_or_lem v w r, bit_most w r)

pub bit_two : (v w r : ℕ) → rank_bit w r ≡ 1 → rank_bit (bit_or v w) r ≡ 1
bit_two v w r e = omega (arith, bit_or_lem v w r, bit_most v r)

-- a later tick
pub heads_later : {script : List Release} {t u k h : ℕ} → t ≤ u → Heads script t k h → Heads script u k h
heads_later up s = record { there = s.there; own = s.own; before = λ i l g e. omega (arith, s.before i l g e) }

module _ {o : Order} {b : Build} {script : List Release} (legal_run : LegalRun o b script) where
  -- the next of a task heads it, once its oldest has joined
  pub heads_next : (k t h r : ℕ) → Heads script t k h → record_joins script h < t → record_task script h ≡ k → NextOf (λ x. x) script k (suc h) r → Heads script t k r
  heads_next k t h r s now own n =
      record { there = n.there; own = λ l. n.own (omega (arith, legal_run.few_records)); before = λ i l g e. go i l g e (dec_lt i h) (dec_lt h i) }
    where
      go : (i : ℕ) → i < r → i < length script → record_task script i ≡ k → Dec (i < h) → Dec (h < i) → record_joins script i < t
      go i l g e (yes p) d = s.before i p g e
      go i l g e (no p) (yes q) = absurd (n.between i q l g e)
      go i l g e (no p) (no q) = let same : h ≡ i = omega arith in subst (λ (x : ℕ). record_joins script x < t) same now

  -- a record that joins no earlier than the tick stands at the head or after it
  heads_first : (t k h i : ℕ) → Heads script t k h → i < length script → record_task script i ≡ k → t ≤ record_joins script i → (h < most_records) × (record_joins script h ≤ record_joins script i)
  heads_first t k h i s there own late = go (dec_lt i h) (dec_lt h i)
    where
      go : Dec (i < h) → Dec (h < i) → (h < most_records) × (record_joins script h ≤ record_joins script i)
      go (yes q) d = absurd (omega (arith, s.before i q there own))
      go (no q) (yes r) = (omega (arith, legal_run.few_records), omega (arith, joins_later legal_run.legal h i r there (s.own (omega arith) ∙ sym own)))
      go (no q) (no r) = let same : h ≡ i = omega arith in (omega (arith, legal_run.few_records), omega (arith, ap (record_joins script) same))

  module _ (p : ℕ) (oldest : ℕ → ℕ) where
    -- what joins up to a later tick waits then
    pub marks_on : (t u w releases : ℕ) → t ≤ u → ((k : ℕ) → k < o.tasks → home_of b k ≡ p → Heads script t k (oldest k))
        → Marks o b script p oldest t w → ReleasedIn b script p t u releases → Marks o b script p oldest u (bit_or w releases)
    marks_on t u w releases up heads marks due = record { waits = waits; only_they = only_they }
      where
        waits : (k : ℕ) → k < o.tasks → home_of b k ≡ p → oldest k < most_records → record_joins script (oldest k) < u → rank_bit (bit_or w releases) (rank_of b k) ≡ 1
        waits k known home some soon = go (dec_lt (record_joins script (oldest k)) t)
          where
            there : oldest k < length script
            there = (heads k known home).there some

            own : record_task script (oldest k) ≡ k
            own = (heads k known home).own there

            go : Dec (record_joins script (oldest k) < t) → rank_bit (bit_or w releases) (rank_of b k) ≡ 1
            go (yes q) = bit_one w releases (rank_of b k) (marks.waits k known home some q)
            go (no q) = bit_two w releases (rank_of b k)
                (ap (λ (x : ℕ). rank_bit releases (rank_of b x)) (sym own) ∙ due.all (oldest k) there (ap (home_of b) own ∙ home) (omega arith) soon)

        only_they : (r : ℕ) → rank_bit (bit_or w releases) r ≡ 1
            → (k : ℕ) × (k < o.tasks) × (home_of b k ≡ p) × (rank_of b k ≡ r) × (oldest k < most_records) × (record_joins script (oldest k) < u)
        only_they r e = ⊎_elim old new (bit_either w releases r e)
          where
            old : rank_bit w r ≡ 1 → (k : ℕ) × (k < o.tasks) × (home_of b k ≡ p) × (rank_of b k ≡ r) × (oldest k < most_records) × (record_joins script (oldest k) < u)
            old q = let x = marks.only_they r q in (x.0, x.1, x.2, x.3, x.4, omega (arith, x.5))

            new : rank_bit releases r ≡ 1 → (k : ℕ) × (k < o.tasks) × (home_of b k ≡ p) × (rank_of b k ≡ r) × (oldest k < most_records) × (record_joins script (oldest k) < u)
            new q =
                let x = due.only r q in
                let k = record_task script x.0 in
                let known = legal_run.legal.known x.0 x.1 in
                let first = heads_first t k (oldest k) x.0 (heads k known x.2) x.1 refl x.3 in
                (k, known, x.2, x.5, first.0, omega (arith, first.1, x.4))
