-- The opened partitions tried in turn: none so far takes the task, and nothing has changed.
use Rattle.std.specs.Prelude.{Some, None, Result, Ok, Err}
use mathlib.Core.Path.{◌≡◌, refl, sym, ap, ◌∙◌, subst}
use mathlib.Core.Bool.{false}
use Prim.Native.Nat.{ℕ, ◌+◌, ◌≤◌, ◌<◌}
use native.Mathlib.Decide.{ℕ_discrete}
use native.Mathlib.Omega.{arith}
use lib.ListN.{set}
use Rattle.search.proofs.First.{first_found, first_missing}
use Rattle.demand.proofs.Largest.{at_one}
use Rattle.asked.specs.declared.rows.Rows.{Rows}
use Rattle.asked.specs.Rows.{deadline_at}
use Rattle.roster.specs.Keys.{key_of}
use Rattle.roster.specs.Lined.{PartFrom}
use Rattle.roster.proofs.Lining.{part_next}
use Rattle.turns.specs.Turns.{home_at}
use Rattle.fitting.specs.Steps.{accepts}
use Rattle.placing.specs.declared.TaskLine.{TaskLine}
use Rattle.placing.specs.Known.{Known, Trying, TryingIn, TriedIn, Lowest}

module _ (table : Rows) (before : TaskLine) (task : ℕ) where
  pub record Sought (line : TaskLine) (first partition : ℕ) : Type 0 where
    pub kept : line ≡ before
    pub members : PartFrom before.keys before.placed first partition
    pub none : (so : Trying table before task) → (k : ℕ) → k < partition → accepts so.order so.homes task k ≡ false

  pub sought_none : Sought before 0 0
  sought_none = record { kept = refl; members = record { upto = omega arith; earlier = λ r l. absurd (omega arith); later = λ r a l. omega arith }; none = λ so k l. absurd (omega arith) }

  -- what is to be tried next
  abbrev pub trying_in : (first partition key : ℕ) (so : Trying table before task) → PartFrom before.keys before.placed first partition → partition < 32
      → key ≡ key_of partition (deadline_at table task) task → TryingIn table before first key
  trying_in first partition key so members few e =
      record {
        task = task;
        partition = partition;
        few = few;
        trying = so;
        key_is = e ∙ ap (λ (d : ℕ). key_of partition d task) (so.rows.each task so.known_task).deadline;
        members = members;
      }

  module _ (line : TaskLine) (first partition key : ℕ) (was : Sought line first partition) (few : partition < 32) (e : key ≡ key_of partition (deadline_at table task) task) where
    pub next_trying : Trying table before task → TryingIn table line first key
    next_trying so = subst (λ (x : TaskLine). TryingIn table x first key) (sym was.kept) (trying_in first partition key so was.members few e)

    module _ (r : Result (Unit {0}) ℕ) (after : TaskLine) (tried : (so : TryingIn table line first key) → TriedIn table line first key so r after) where
      is : (so : Trying table before task) → TriedIn table before first key (trying_in first partition key so was.members few e) r after
      is so = subst (λ (x : TaskLine). (y : TryingIn table x first key) → TriedIn table x first key y r after) was.kept tried (trying_in first partition key so was.members few e)

      -- this one takes it
      pub found_here : (opened : ℕ) → partition < opened → r ≡ Ok tt → (so : Trying table before task) → Lowest table before task so opened (Some partition) after
      found_here opened l t so =
          record {
            answer = sym (first_found (accepts so.order so.homes task) opened partition (record { below = l; holds = (is so).takes t; earlier = was.none so }));
            same_line = (is so).same_line;
            taken = λ k f. subst (λ (x : ℕ). Known so.order (set so.homes task (Some x)) after.results) (at_one partition k f) ((is so).taken t);
            refused = λ f. absurd (cc f);
          }

      -- it does not
      pub not_here : Trying table before task → {size : ℕ} → r ≡ Err size → Sought after (first + size) (partition + 1)
      not_here some {size} f =
          record {
            kept = (is some).refused size f;
            members = subst (λ (s : ℕ). PartFrom before.keys before.placed (first + s) (partition + 1)) (sym ((is some).members size f)) (part_next some.order some.limits _ (home_at some.homes) before.keys before.placed some.in_line first partition was.members);
            none = λ so k l. elim (ℕ_discrete k partition) [
              | yes same ↦ ap (accepts so.order so.homes task) same ∙ (is so).refuses size f
              | no other ↦ was.none so k (omega (arith, other))
            ];
          }

  pub found_nowhere : (line : TaskLine) (first partition opened : ℕ) → Sought line first partition → opened ≤ partition → (so : Trying table before task) → Lowest table before task so opened None line
  found_nowhere line first partition opened was le so =
      record {
        answer = sym (first_missing (accepts so.order so.homes task) opened (λ k l. was.none so k (omega arith)));
        same_line = (ap (λ (x : TaskLine). x.keys) was.kept, ap (λ (x : TaskLine). x.placed) was.kept);
        taken = λ k f. absurd (cc f);
        refused = λ f. was.kept;
      }
