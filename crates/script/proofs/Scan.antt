-- The judge's scan of the records: what it holds after the records below i, and a record more.
use Rattle.std.specs.Prelude.{Ok}
use mathlib.Core.Path.{◌≡◌, refl, sym, ap, ◌∙◌}
use mathlib.Core.List.{List}
use mathlib.Core.Logic.{⊎_elim}
use Prim.Native.Nat.{ℕ, ◌+◌, ◌/◌, ◌%◌, ◌<◌}
use native.Mathlib.Nat.{eq-or-lt_of_le}
use native.Mathlib.Omega.{arith}
use lib.ListN.{length, get_or, set, replicate, length-set}
use lib.Seq.{get_or-set_same, get_or-set_other}
use Rattle.laws.specs.Joined.{joined}
use Rattle.model.specs.declared.order.Order.{Order}
use Rattle.model.specs.Limits.{most_tasks, most_records}
use Rattle.model.specs.Rules.{first_broken}
use Rattle.model.proofs.Rules.{AllPass, done_pass, scan_none, scan_more}
use Rattle.demand.specs.Releases.{period_of}
use Rattle.machine.specs.Pattern.{run_of}
use Rattle.script.specs.declared.ReleaseTaken.{ReleaseTaken}
use Rattle.script.specs.Script.{release_at, release_rules}
use Rattle.script.specs.Judged.{TakesRelease, ToldOf, HeldBelow, release_key, least_key}
use Rattle.script.proofs.Records.{task_small, EarliestKept, kept_none, kept_more}
use Rattle.script.proofs.Keys.{task_in_key, tick_in_key, least_none, least_more}

-- the list with x at place i, where the places below i hold f
set_next : (f : ℕ → ℕ) (xs : List ℕ) (i x : ℕ) → i < length xs → x ≡ f i → ((j : ℕ) → j < i → get_or xs j 0 ≡ f j) → (j : ℕ) → j < i + 1 → get_or (set xs i x) j 0 ≡ f j
set_next f xs i x below is earlier j l =
    ⊎_elim
    (λ (e : j ≡ i). ap (λ (k : ℕ). get_or (set xs i x) k 0) e ∙ (get_or-set_same xs i x 0 below ∙ (is ∙ ap f (sym e))))
    (λ (m : j < i). get_or-set_other xs i j x 0 (λ e. omega (arith, e)) ∙ earlier j m)
    (eq-or-lt_of_le {n = j} {m = i} (omega arith))

pub record JudgedBelow (o : Order) (s : List ℕ) (i : ℕ) (kept : List ℕ) (least : ℕ) (keys durations : List ℕ) : Type 0 where
  pub passes : AllPass (joined (release_rules o s) i)
  pub earliest_kept : EarliestKept o (release_at s) kept i
  pub least_is : least ≡ least_key (release_at s) i
  pub held : HeldBelow s i keys durations

module _ (o : Order) (s : List ℕ) where
  pub judged_none : (keys durations : List ℕ) → length keys ≡ most_records → length durations ≡ most_records → JudgedBelow o s 0 (replicate most_tasks 0) 0 keys durations
  judged_none keys durations k d =
      record {
        passes = scan_none (release_rules o s);
        earliest_kept = kept_none o (release_at s);
        least_is = sym (least_none (release_at s));
        held = record { sizes = (k, d); keys_are = λ x l. absurd (omega arith); durations_are = λ x l. absurd (omega arith) };
      }

  module _ (i : ℕ) (kept : List ℕ) (least : ℕ) (keys durations : List ℕ) (below : JudgedBelow o s i kept least keys durations) (taken : ReleaseTaken) (takes : TakesRelease s i taken) where
    task_is : taken.key % 32 ≡ (release_at s i).task
    task_is = ap (◌% 32) takes.key_is ∙ task_in_key s i

    tick_is : taken.key / 32 ≡ (release_at s i).tick
    tick_is = ap (◌/ 32) takes.key_is ∙ tick_in_key s i

    pub judged_told : ToldOf o s i taken o.tasks (run_of o (taken.key % 32)) least (get_or kept (taken.key % 32) 0)
    judged_told =
        record {
          takes = takes;
          tasks_are = refl;
          most_is = ap (run_of o) task_is;
          least_is = below.least_is;
          from_is = ap (λ (k : ℕ). get_or kept k 0) task_is ∙ below.earliest_kept.each (release_at s i).task (task_small s i);
        }

    pub judged_more : {count : ℕ} → i < most_records → first_broken 0 (release_rules o s i) ≡ Ok count
        → JudgedBelow o s (i + 1) (set kept (taken.key % 32) (taken.key / 32 + period_of o (taken.key % 32))) (taken.key + 1) (set keys i taken.key) (set durations i taken.duration)
    judged_more few right =
        record {
          passes = scan_more (release_rules o s) i below.passes (done_pass 0 (release_rules o s i) right);
          earliest_kept = rw (task_is, tick_is) (kept_more o (release_at s) i (task_small s i) below.earliest_kept);
          least_is = ap (◌+ 1) takes.key_is ∙ sym (least_more (release_at s) i);
          held =
              record {
                sizes = (simp length-set below.held.sizes.0, simp length-set below.held.sizes.1);
                keys_are = set_next (λ x. release_key (release_at s x)) keys i taken.key (omega (arith, below.held.sizes.0)) takes.key_is below.held.keys_are;
                durations_are = set_next (λ x. (release_at s x).duration) durations i taken.duration (omega (arith, below.held.sizes.1)) takes.duration_is below.held.durations_are;
              };
        }
