-- 7 to 10 of one task, and task by task: they hold exactly where each task is in range; and what that says of its cost.
use Rattle.std.specs.Prelude.{Ok, Err}
use mathlib.Core.Path.{◌≡◌}
use mathlib.Core.List.{List}
use Prim.Native.Nat.{ℕ, ◌+◌, ◌<◌}
use Rattle.laws.specs.Joined.{joined}
use Rattle.model.specs.Kinds.{Task, Order, Refusal}
use Rattle.model.specs.Limits.{task_of}
use Rattle.model.specs.Rules.{Rule, first_broken, AllKept, TestsTell, task_rules, range_rules, TaskInRange, Sized}
use Rattle.model.proofs.Rules.{AllPass, done_pass, kept_at, kept_all, scan_none, scan_more, scan_stop, tell_all, in_range_tells}

pub kept_range : (processors : ℕ) (t : Task) (i : ℕ) → AllKept (task_rules processors t i) → TaskInRange processors t
unfolding AllKept
kept_range processors t i all = record { width_in = all.0; period_in = all.1.0; deadline_in = all.1.1.0; cost_in = all.1.1.1.0 }

pub range_kept : (processors : ℕ) (t : Task) (i : ℕ) → TaskInRange processors t → AllKept (task_rules processors t i)
unfolding AllKept
range_kept processors t i r = (r.width_in, (r.period_in, (r.deadline_in, (r.cost_in, tt))))

pub task_tells : (processors : ℕ) (t : Task) (i : ℕ) → TestsTell (task_rules processors t i)
unfolding TestsTell
task_tells processors t i =
    (in_range_tells _ _ _, λ _. (in_range_tells _ _ _, λ _. (in_range_tells _ _ _, λ _. (in_range_tells _ _ _, λ _. tt))))

module _ (o : Order) where
  abbrev each : ℕ → List Rule
  each i = task_rules o.processors (task_of o i) i

  -- the tasks below i
  abbrev pub InTurn : ℕ → Type 0
  InTurn i = AllPass (joined each i)

  pub range_none : InTurn 0
  range_none = scan_none each

  pub range_more : (i : ℕ) {count : ℕ} → InTurn i → first_broken 0 (each i) ≡ Ok count → InTurn (i + 1)
  range_more i all e = scan_more each i all (done_pass 0 (each i) e)

  pub range_stop : (i : ℕ) {refusal : Refusal} → i < o.tasks → InTurn i → first_broken 0 (each i) ≡ Err refusal → first_broken 0 (range_rules o) ≡ Err refusal
  unfolding range_rules
  range_stop i {refusal} below all e = scan_stop each 0 o.tasks i refusal below all e

  pub range_tells : TestsTell (range_rules o)
  unfolding range_rules
  range_tells = tell_all each o.tasks (λ i l. task_tells o.processors (task_of o i) i)

  pub range_at : AllKept (range_rules o) → (i : ℕ) → i < o.tasks → TaskInRange o.processors (task_of o i)
  unfolding range_rules
  range_at all i below = kept_range o.processors (task_of o i) i (kept_at each o.tasks i below all)

  pub range_all : ((i : ℕ) → i < o.tasks → TaskInRange o.processors (task_of o i)) → AllKept (range_rules o)
  unfolding range_rules
  range_all ranges = kept_all each o.tasks (λ i l. range_kept o.processors (task_of o i) i (ranges i l))

pub sized : (processors : ℕ) (t : Task) → TaskInRange processors t → Sized t
sized processors t r =
    record {
      cost-least = r.cost_in.0;
      cost_most = r.cost_in.1;
      deadline_most = r.deadline_in.1;
      period_least = r.period_in.0;
      period_most = r.period_in.1;
    }
