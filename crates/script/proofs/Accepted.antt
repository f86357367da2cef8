-- 40 to 46 hold exactly of accepted scripts.
use mathlib.Core.Path.{◌≡◌, refl, sym, ap, subst}
use mathlib.Core.List.{List}
use Prim.Native.Nat.{ℕ, suc, ◌+◌, ◌≤◌, ◌<◌}
use native.Mathlib.Omega.{arith}
use lib.ListN.{length}
use borrow.Author.Tests.{le-leb, leb-true}
use Rattle.model.specs.declared.order.Order.{Order}
use Rattle.model.specs.declared.build.Release.{Release}
use Rattle.model.specs.Rules.{AllKept, InRange}
use Rattle.model.proofs.Rules.{kept_at, kept_all}
use Rattle.demand.specs.Releases.{period_of}
use Rattle.machine.specs.Pattern.{run_of, record_of, Before, LegalScript}
use Rattle.machine.proofs.Script.{rise_by_neighbours}
use Rattle.script.specs.Script.{release_at, spare_at, records_in, script_of, in_order, earliest, far_enough, release_rules, script_rules}
use Rattle.script.specs.Claims.{ScriptAccepted, RulesOfScripts}
use Rattle.script.proofs.Records.{script_length_lem, script_record, Far, far-earliest, earliest-far}
use Rattle.script.proofs.Tells.{gap_tells}

-- what 41 to 45 say of record i
record RecordRight (o : Order) (s : List ℕ) (i : ℕ) : Type 0 where
  pub spare : spare_at s i ≡ 0
  pub known : (release_at s i).task < o.tasks
  pub ordered : (in_order (release_at s) i).says
  pub lasts : InRange 1 (run_of o (release_at s i).task) (release_at s i).duration
  pub gap : (far_enough o (release_at s) i).says

module _ (o : Order) (s : List ℕ) where
  record_right : (i : ℕ) → AllKept (release_rules o s i) → RecordRight o s i
  unfolding release_rules AllKept
  record_right i all = record { spare = all.0; known = all.1.0; ordered = all.1.1.0; lasts = all.1.1.1.0; gap = all.1.1.1.1.0 }

  right_record : (i : ℕ) → RecordRight o s i → AllKept (release_rules o s i)
  unfolding release_rules AllKept
  right_record i r = (r.spare, (r.known, (r.ordered, (r.lasts, (r.gap, tt)))))

  -- 45 as the test has it
  gap_test : (i : ℕ) → (far_enough o (release_at s) i).says → earliest o (release_at s) (release_at s i).task i ≤ (release_at s i).tick
  gap_test i far = leb-true _ _ ((gap_tells o (release_at s) i).1 far)

  test_gap : (i : ℕ) → earliest o (release_at s) (release_at s i).task i ≤ (release_at s i).tick → (far_enough o (release_at s) i).says
  test_gap i l = (gap_tells o (release_at s) i).0 (le-leb _ _ l)

  -- a record of the script, in what is known of the record of the bytes, and back
  to_list : (P : Release → Type 0) (i : ℕ) → i < length (script_of s) → P (release_at s i) → P (record_of (script_of s) i)
  to_list P i l p = let m : i < records_in s = omega (arith, script_length_lem s) in subst P (sym (script_record s i m)) p

  from_list : (P : Release → Type 0) (i : ℕ) → i < records_in s → P (record_of (script_of s) i) → P (release_at s i)
  from_list P i l p = subst P (script_record s i l) p

  right_legal : ((i : ℕ) → i < records_in s → RecordRight o s i) → LegalScript o (script_of s)
  right_legal right =
      record {
        known = λ i l. to_list (λ r. r.task < o.tasks) i l (right i (small i l)).known;
        rise = rise_by_neighbours (script_of s) next;
        durations = λ i l. to_list (λ r. InRange 1 (run_of o r.task) r.duration) i l (right i (small i l)).lasts;
        apart = apart;
      }
    where
      small : (i : ℕ) → i < length (script_of s) → i < records_in s
      small i l = omega (arith, script_length_lem s)

      next : (i : ℕ) → suc i < length (script_of s) → Before (record_of (script_of s) i) (record_of (script_of s) (suc i))
      next i l =
          to_list (λ r. Before r (record_of (script_of s) (suc i))) i (omega arith)
          (to_list (λ r. Before (release_at s i) r) (suc i) l ((right (suc i) (small (suc i) l)).ordered i refl))

      apart : (i j : ℕ) → i < j → j < length (script_of s) → (record_of (script_of s) i).task ≡ (record_of (script_of s) j).task
          → (record_of (script_of s) i).tick + period_of o (record_of (script_of s) i).task ≤ (record_of (script_of s) j).tick
      apart i j l m =
          to_list (λ r. r.task ≡ (record_of (script_of s) j).task → r.tick + period_of o r.task ≤ (record_of (script_of s) j).tick) i (omega arith)
          (to_list (λ r. (release_at s i).task ≡ r.task → (release_at s i).tick + period_of o (release_at s i).task ≤ r.tick) j m far)
        where
          far : (release_at s i).task ≡ (release_at s j).task → (release_at s i).tick + period_of o (release_at s i).task ≤ (release_at s j).tick
          far e =
              let gaps = earliest-far o (release_at s) (release_at s j).task j (λ y k. gap_test y (right y (omega (arith, small j m))).gap) i l e in
              omega (arith, gaps, gap_test j (right j (small j m)).gap, ap (period_of o) e)

  legal_right : LegalScript o (script_of s) → ((i : ℕ) → i < records_in s → spare_at s i ≡ 0) → (i : ℕ) → i < records_in s → RecordRight o s i
  legal_right legal spares i l =
      record {
        spare = spares i l;
        known = from_list (λ r. r.task < o.tasks) i l (legal.known i (listed i l));
        ordered = λ j e.
            from_list (λ r. Before r (release_at s i)) j (omega arith)
            (from_list (λ r. Before (record_of (script_of s) j) r) i l (legal.rise j i (omega arith) (listed i l)));
        lasts = from_list (λ r. InRange 1 (run_of o r.task) r.duration) i l (legal.durations i (listed i l));
        gap = test_gap i (far-earliest o (release_at s) i i far);
      }
    where
      listed : (i : ℕ) → i < records_in s → i < length (script_of s)
      listed i l = omega (arith, script_length_lem s)

      far : Far o (release_at s) i i
      far x k =
          from_list (λ r. r.task ≡ (release_at s i).task → r.tick + period_of o r.task ≤ (release_at s i).tick) x (omega arith)
          (from_list (λ r. (record_of (script_of s) x).task ≡ r.task → (record_of (script_of s) x).tick + period_of o (record_of (script_of s) x).task ≤ r.tick) i l (legal.apart x i k (listed i l)))

  pub rules_accepted : (places : ℕ) → AllKept (script_rules o s places) → ScriptAccepted o s places
  unfolding script_rules AllKept
  rules_accepted places all =
      let each : (i : ℕ) → i < records_in s → RecordRight o s i = λ i l. record_right i (kept_at (release_rules o s) (records_in s) i l all.1.1) in
      record { whole = all.0.whole; few = all.0.few; room = all.1.0; spares = λ i l. (each i l).spare; legal = right_legal each }

  pub accepted_rules : (places : ℕ) → ScriptAccepted o s places → AllKept (script_rules o s places)
  unfolding script_rules AllKept
  accepted_rules places a =
      (record { whole = a.whole; few = a.few }, (a.room, kept_all (release_rules o s) (records_in s) (λ i l. right_record i (legal_right a.legal a.spares i l))))

pub rules_of_scripts : RulesOfScripts
rules_of_scripts o s places = (rules_accepted o s places, accepted_rules o s places)
