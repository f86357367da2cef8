-- Laws of gathering: from a partition's first record ahead up to a tick.
use Prim.Native.Nat.{ℕ, suc, ◌/◌, ◌%◌, ◌^◌, ◌≤◌, ◌<◌}
use mathlib.Core.Path.{◌≡◌, sym, ap, ◌∙◌, subst}
use mathlib.Core.Bool.{true, false, ◌&&◌}
use mathlib.Core.List.{List}
use mathlib.Core.Logic.{⊎_elim}
use native.Mathlib.Decide.{dec_lt}
use native.Mathlib.Omega.{arith}
use lib.Bits.{bit_or}
use lib.Dec.{ltb}
use lib.ListN.{length, get_or}
use borrow.Author.Tests.{lt-ltb, ltb-true}
use Rattle.laws.proofs.Every.{clash, and_both, both_and}
use Rattle.model.specs.declared.build.Build.{Build}
use Rattle.model.specs.declared.build.Release.{Release}
use Rattle.model.specs.Limits.{most_records, home_of}
use Rattle.demand.specs.Priority.{members_of}
use Rattle.demand.proofs.Priority.{rank_less}
use Rattle.stepper.specs.Ranks.{rank_bit}
use Rattle.stepper.specs.Lines.{record_task, record_joins, NextOf}
use Rattle.stepper.specs.Follow.{rank_of}
use Rattle.stepper.proofs.Ranks.{bit_none, bit_own, bit_other}
use Rattle.stepper.proofs.Lines.{joins_rise}
use Rattle.stepper.proofs.Marks.{bit_either, bit_one, bit_two}
use Rattle.stepper.proofs.Ready.{key_joins}
use Rattle.course.specs.Ahead.{Gathers, GatheredSo}

-- the records of partition p from one to another are gathered
pub record GatheredTo (b : Build) (script : List Release) (p from until a ranks : ℕ) : Type 0 where
  pub upto : a ≤ most_records
  pub on : from ≤ a
  pub there : a < most_records → a < length script
  pub own : a < most_records → home_of b (record_task script a) ≡ p
  pub before : (i : ℕ) → i < a → i < length script → home_of b (record_task script i) ≡ p → record_joins script i < until
  pub all : (i : ℕ) → from ≤ i → i < a → i < length script → home_of b (record_task script i) ≡ p → rank_bit ranks (rank_of b (record_task script i)) ≡ 1
  pub only : (r : ℕ) → rank_bit ranks r ≡ 1 → (i : ℕ) × (from ≤ i) × (i < a) × (i < length script) × (home_of b (record_task script i) ≡ p) × (rank_of b (record_task script i) ≡ r)

module _ {keys ranks after : List ℕ} {from until : ℕ} (so : Gathers keys ranks after from until) where
  abbrev To : (a ranks : ℕ) → Type 0
  To = GatheredTo so.build so.script so.partition from until

  pub gathered_none : To from 0
  gathered_none =
      record {
        upto = so.ahead.upto;
        on = omega arith;
        there = so.ahead.there;
        own = so.ahead.own;
        before = λ i l g e. omega (arith, so.ahead.before i l g e, so.on);
        all = λ i a b. absurd (omega arith);
        only = λ r e. absurd (omega (arith, bit_none r));
      }

  -- the test by the record's key
  pub joins_before : (a : ℕ) → (a < most_records → a < length so.script) → (ltb a 1024 && ltb (get_or keys a 0 / 32) until) ≡ true → (a < length so.script) × (record_joins so.script a < until)
  joins_before a there e =
      let both = and_both (ltb a 1024) _ e in
      let here = there (ltb-true a 1024 both.0) in
      (here, omega (arith, ltb-true (get_or keys a 0 / 32) until both.1, key_joins so.lined.legal_run so.lined.laid.held a here))

  pub joins_not : (a : ℕ) → (a < most_records → a < length so.script) → (ltb a 1024 && ltb (get_or keys a 0 / 32) until) ≡ false → a < most_records → until ≤ record_joins so.script a
  joins_not a there e some = go (dec_lt (record_joins so.script a) until)
    where
      go : Dec (record_joins so.script a < until) → until ≤ record_joins so.script a
      go (yes q) = clash (sym e ∙ both_and _ _ (lt-ltb a 1024 some) (lt-ltb _ until (omega (arith, key_joins so.lined.legal_run so.lined.laid.held a (there some)))))
      go (no q) = omega arith

  -- a record's task, and its rank
  pub task_here : (a : ℕ) → a < length so.script → get_or keys a 0 % 32 ≡ record_task so.script a
  task_here a here = omega (arith, so.lined.laid.held.key a here, so.lined.legal_run.legal.known a here, so.lined.legal_run.few)

  pub rank_here : (a : ℕ) → a < length so.script → get_or ranks (get_or keys a 0 % 32) 0 ≡ rank_of so.build (record_task so.script a)
  rank_here a here = ap (λ (k : ℕ). get_or ranks k 0) (task_here a here) ∙ so.lined.rank_at (record_task so.script a) (so.lined.legal_run.legal.known a here)

  -- the next record stands further on
  pub goes_further : (a : ℕ) → a < length so.script → (suc a ≤ get_or after a 0) × (a < most_records)
  goes_further a here = ((so.lined.after_at a here).from, omega (arith, so.lined.legal_run.few_records))

  pub rank_few : (a : ℕ) → a < length so.script → get_or ranks (get_or keys a 0 % 32) 0 < 32
  rank_few a here =
      let k = record_task so.script a in
      let known = so.lined.legal_run.legal.known a here in
      omega (arith, rank_here a here, so.lined.legal_run.ranked k known, rank_less so.order (members_of so.build (home_of so.build k)) k known, so.lined.legal_run.few)

  pub gathered_more : (a set : ℕ) → To a set → a < length so.script → record_joins so.script a < until
      → To (get_or after a 0) (bit_or set (2 ^ rank_of so.build (record_task so.script a)))
  gathered_more a set was here soon =
      record {
        upto = n.upto;
        on = omega (arith, n.from, was.on);
        there = n.there;
        own = λ l. n.own l ∙ mine;
        before = λ i l g e. before i l g e (dec_lt i a) (dec_lt a i);
        all = λ i f l g e. all i f l g e (dec_lt i a) (dec_lt a i);
        only = λ s e. ⊎_elim (old s) (λ q. new s (bit_other r s q)) (bit_either set (2 ^ r) s e);
      }
    where
      r : ℕ
      r = rank_of so.build (record_task so.script a)

      mine : home_of so.build (record_task so.script a) ≡ so.partition
      mine = was.own (omega (arith, so.lined.legal_run.few_records))

      n : NextOf (home_of so.build) so.script (home_of so.build (record_task so.script a)) (suc a) (get_or after a 0)
      n = so.lined.after_at a here

      before : (i : ℕ) → i < get_or after a 0 → i < length so.script → home_of so.build (record_task so.script i) ≡ so.partition → Dec (i < a) → Dec (a < i) → record_joins so.script i < until
      before i l g e (yes q) d = was.before i q g e
      before i l g e (no q) (yes d) = absurd (n.between i d l g (e ∙ sym mine))
      before i l g e (no q) (no d) = let same : a ≡ i = omega arith in subst (λ (x : ℕ). record_joins so.script x < until) same soon

      all : (i : ℕ) → from ≤ i → i < get_or after a 0 → i < length so.script → home_of so.build (record_task so.script i) ≡ so.partition → Dec (i < a) → Dec (a < i)
          → rank_bit (bit_or set (2 ^ r)) (rank_of so.build (record_task so.script i)) ≡ 1
      all i f l g e (yes q) d = bit_one set (2 ^ r) _ (was.all i f q g e)
      all i f l g e (no q) (yes d) = absurd (n.between i d l g (e ∙ sym mine))
      all i f l g e (no q) (no d) =
          let same : a ≡ i = omega arith in
          subst (λ (x : ℕ). rank_bit (bit_or set (2 ^ r)) (rank_of so.build (record_task so.script x)) ≡ 1) same (bit_two set (2 ^ r) r (bit_own r))

      old : (s : ℕ) → rank_bit set s ≡ 1
          → (i : ℕ) × (from ≤ i) × (i < get_or after a 0) × (i < length so.script) × (home_of so.build (record_task so.script i) ≡ so.partition) × (rank_of so.build (record_task so.script i) ≡ s)
      old s e = let x = was.only s e in (x.0, x.1, omega (arith, x.2, n.from), x.3, x.4, x.5)

      new : (s : ℕ) → s ≡ r
          → (i : ℕ) × (from ≤ i) × (i < get_or after a 0) × (i < length so.script) × (home_of so.build (record_task so.script i) ≡ so.partition) × (rank_of so.build (record_task so.script i) ≡ s)
      new s e = (a, was.on, omega (arith, n.from), here, mine, sym e)

  -- up to the first record that joins no earlier
  pub gathered_all : (a set : ℕ) → To a set → (a < most_records → until ≤ record_joins so.script a) → GatheredSo so.build so.script so.partition so.tick until (record { ranks = set; ahead = a })
  gathered_all a set was late =
      record {
        due = record { all = λ i g e f l. was.all i (from_on i g e f (dec_lt i from)) (below i g l (dec_lt i a)) g e; only = only };
        rest = record { upto = was.upto; there = was.there; own = was.own; late = late; before = was.before };
      }
    where
      from_on : (i : ℕ) → i < length so.script → home_of so.build (record_task so.script i) ≡ so.partition → so.tick ≤ record_joins so.script i → Dec (i < from) → from ≤ i
      from_on i g e f (yes q) = absurd (omega (arith, so.ahead.before i q g e))
      from_on i g e f (no q) = omega arith

      below : (i : ℕ) → i < length so.script → record_joins so.script i < until → Dec (i < a) → i < a
      below i g l (yes q) = q
      below i g l (no q) = absurd (omega (arith, late (omega (arith, so.lined.legal_run.few_records)), joins_rise so.lined.legal_run.legal a i (omega arith) g))

      only : (r : ℕ) → rank_bit set r ≡ 1
          → (i : ℕ) × (i < length so.script) × (home_of so.build (record_task so.script i) ≡ so.partition) × (so.tick ≤ record_joins so.script i) × (record_joins so.script i < until) × (rank_of so.build (record_task so.script i) ≡ r)
      only r e =
          let x = was.only r e in
          let late' = so.ahead.late (omega (arith, x.1, x.3, so.lined.legal_run.few_records)) in
          (x.0, x.3, x.4, omega (arith, late', joins_rise so.lined.legal_run.legal from x.0 x.1 x.3), was.before x.0 x.2 x.3 x.4, x.5)
