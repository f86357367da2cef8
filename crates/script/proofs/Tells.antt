-- Each of 40 to 46 tests what it says, so a script's answer is the right one.
use Prim.Native.Nat.{ℕ, zero, suc, ◌+◌, ◌%◌, ◌≤◌, ◌<◌}
use mathlib.Core.Path.{◌≡◌, refl, sym, ap, ◌∙◌, subst}
use mathlib.Core.Bool.{Bool, true, false}
use mathlib.Core.List.{List}
use mathlib.Core.Logic.{◌⊎◌, inl, inr, ⊎_elim}
use native.Mathlib.Decide.{dec_lt}
use native.Mathlib.Nat.{eq-or-lt_of_le, le_of_suc-le-suc}
use native.Mathlib.Omega.{arith}
use lib.Dec.{leb, eqb}
use lib.ListN.{length}
use borrow.Author.Tests.{lt-ltb, ltb-true, eq-eqb, eqb-true, eqb-false, le-leb, leb-true}
use Rattle.laws.specs.Choice.{pick}
use Rattle.laws.proofs.Every.{and_both, both_and}
use Rattle.model.specs.declared.order.Order.{Order}
use Rattle.model.specs.declared.build.Release.{Release}
use Rattle.model.specs.Rules.{Tells, TestsTell, OneRightAnswer}
use Rattle.model.proofs.Rules.{tell_all, equal_tells, at_most_tells, in_range_tells, one_right_answer}
use Rattle.demand.specs.Releases.{period_of}
use Rattle.machine.specs.Pattern.{run_of, Before}
use Rattle.script.specs.Script.{release_at, spare_at, records_in, WholeRecords, whole_records, after_previous, in_order, earliest, far_enough, release_rules, script_rules}
use Rattle.script.specs.Claims.{OneScriptAnswer}
use Rattle.script.proofs.Keys.{before_true, true_before}

whole_tells : (s : List ℕ) → Tells (whole_records s)
unfolding records_in
whole_tells s = (forth, back)
  where
    forth : (whole_records s).test ≡ true → WholeRecords s
    forth e =
        let x = and_both _ _ e in
        let whole = eqb-true (length s % 6) 0 x.0 in
        let most = leb-true (length s) 6144 x.1 in
        record { whole = omega arith; few = omega arith }

    back : WholeRecords s → (whole_records s).test ≡ true
    back w =
        let whole = w.whole in
        let few = w.few in
        both_and _ _ (eq-eqb (length s % 6) 0 (omega arith)) (le-leb (length s) 6144 (omega arith))

order_tells : (f : ℕ → Release) (i : ℕ) → Tells (in_order f i)
unfolding after_previous
order_tells f zero = ((λ e j l. absurd (omega arith)), λ g. refl)
order_tells f (suc i) =
    ((λ e j l. let x : j ≡ i = omega arith in subst (λ (y : ℕ). Before (f y) (f (suc i))) (sym x) (before_true _ _ e)), λ g. true_before _ _ (g i refl))

-- the task's last record below i, and the tick from which it may be released again; or none, and tick 0
module _ (o : Order) (f : ℕ → Release) (task : ℕ) where
  record Last (i j : ℕ) : Type 0 where
    pub below : j < i
    pub own : (f j).task ≡ task
    pub none_between : (x : ℕ) → j < x → x < i → (f x).task ≡ task → ⊥

  abbrev Found : ℕ → ℕ → Type 0
  Found i from = ((j : ℕ) × Last i j × (from ≡ (f j).tick + period_of o task)) ⊎ (((x : ℕ) → x < i → (f x).task ≡ task → ⊥) × (from ≡ 0))

  last_or_none : (i : ℕ) → Found i (earliest o f task i)
  unfolding earliest
  last_or_none zero = inr ((λ x l. absurd (omega arith)), refl)
  last_or_none (suc i) = go (eqb (f i).task task) refl (last_or_none i)
    where
      other : (x : ℕ) → eqb (f i).task task ≡ false → x < suc i → (f x).task ≡ task → x < i
      other x e h q = ⊎_elim (λ (s : x ≡ i). (let own : (f i).task ≡ task = ap (λ (y : ℕ). (f y).task) (sym s) ∙ q in absurd (eqb-false _ _ e own))) (λ (l : x < i). l) (eq-or-lt_of_le (le_of_suc-le-suc h))

      go : (b : Bool) → eqb (f i).task task ≡ b → Found i (earliest o f task i) → Found (suc i) (pick b ((f i).tick + period_of o task) (earliest o f task i))
      go true e r = inl (i, record { below = omega arith; own = eqb-true _ _ e; none_between = λ x g h. absurd (omega arith) }, refl)
      go false e (inl r) =
          inl (r.0, record { below = omega (arith, r.1.below); own = r.1.own; none_between = λ x g h q. r.1.none_between x g (other x e h q) q }, r.2)
      go false e (inr r) = inr ((λ x h q. r.0 x (other x e h q) q), r.1)

module _ (o : Order) (f : ℕ → Release) (i : ℕ) where
  abbrev from : ℕ
  from = earliest o f (f i).task i

  gap_far : Found o f (f i).task i from → leb from (f i).tick ≡ true → (far_enough o f i).says
  gap_far (inl r) e j l = same (dec_lt r.0 j) (dec_lt j r.0)
    where
      same : Dec (r.0 < j) → Dec (j < r.0) → (f j).tick + period_of o (f i).task ≤ (f i).tick
      same (yes p) d = absurd (r.1.none_between j p l.earlier l.same_task)
      same (no p) (yes q) = absurd (l.none_between r.0 q r.1.below r.1.own)
      same (no p) (no q) = let x : r.0 ≡ j = omega arith in omega (arith, leb-true from (f i).tick e, r.2, ap (λ (y : ℕ). (f y).tick) x)
  gap_far (inr r) e j l = absurd (r.0 j l.earlier l.same_task)

  far_gap : Found o f (f i).task i from → (far_enough o f i).says → leb from (f i).tick ≡ true
  far_gap (inl r) far = le-leb from (f i).tick (omega (arith, r.2, far r.0 (record { earlier = r.1.below; same_task = r.1.own; none_between = r.1.none_between })))
  far_gap (inr r) far = le-leb from (f i).tick (omega (arith, r.1))

  pub gap_tells : Tells (far_enough o f i)
  gap_tells = let found = last_or_none o f (f i).task i in (gap_far found, far_gap found)

module _ (o : Order) (s : List ℕ) where
  record_tells : (i : ℕ) → TestsTell (release_rules o s i)
  unfolding TestsTell release_rules
  record_tells i =
      let r = release_at s i in (
        equal_tells (spare_at s i) 0,
        λ _. (
          (ltb-true r.task o.tasks, lt-ltb r.task o.tasks),
          λ _. (
            order_tells (release_at s) i,
            λ _. (
              in_range_tells 1 (run_of o r.task) r.duration,
              λ _. (gap_tells o (release_at s) i, λ _. tt),
            ),
          ),
        ),
      )

  -- 40 to 46 in turn
  pub script_tells : (places : ℕ) → TestsTell (script_rules o s places)
  unfolding TestsTell script_rules
  script_tells places = (whole_tells s, λ _. (at_most_tells (records_in s) places, λ _. tell_all (release_rules o s) (records_in s) (λ i l. record_tells i)))

pub one_script_answer : OneScriptAnswer
unfolding OneRightAnswer
one_script_answer o s places answer = one_right_answer (records_in s) (script_rules o s places) (script_tells o s places) answer
