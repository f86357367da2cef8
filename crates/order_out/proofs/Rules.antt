-- Laws of the writer's rules: tasks in range fit their fields, the parts in turn, and that each test tells.
use Rattle.std.specs.Prelude.{Ok, Err}
use mathlib.Core.Path.{◌≡◌, sym}
use mathlib.Core.Bool.{true}
use Prim.Native.Nat.{ℕ, ◌≤◌}
use native.Mathlib.Omega.{arith}
use lib.ListN.{length}
use lib.Dec.{eqb}
use borrow.Author.Tests.{eq-eqb, eqb-true}
use Rattle.laws.specs.Choice.{within}
use Rattle.laws.proofs.Choice.{both}
use Rattle.bits.specs.Layout.{FitIn}
use Rattle.model.specs.declared.order.Task.{Task}
use Rattle.model.specs.declared.order.Order.{Order}
use Rattle.model.specs.declared.answer.Refusal.{Refusal}
use Rattle.model.specs.Limits.{most_tasks, most_processors, task_of, cost}
use Rattle.model.specs.Layouts.{task_record, order_length}
use Rattle.model.specs.Rules.{first_broken, TestsTell, Tells, range_rules, room_rules, TaskInRange}
use Rattle.model.proofs.Rules.{AllPass, done_pass, pass_kept, pass_on, stop, any_count, in_range_tells, tell_append, room_tells}
use Rattle.model.proofs.Ranges.{range_at, range_tells}
use Rattle.order.specs.Order.{task_numbers}
use Rattle.order_out.specs.Write.{written_rules, TaskColumns, one_length, column_order, write_rules, write_answer, OrderFits}

-- tasks in range fit their fields
pub range_fits : (processors : ℕ) (t : Task) → processors ≤ most_processors → TaskInRange processors t → FitIn (task_record 1) (task_numbers t 0)
unfolding cost
range_fits processors t few r =
    let period = r.period_in in
    let deadline = r.deadline_in in
    (omega (arith, r.width_in), (omega arith, (omega arith, (omega (arith, r.cost_in), (omega arith, tt)))))

pub order_fits : (o : Order) → o.processors ≤ most_processors → o.tasks ≤ most_tasks → AllPass (range_rules o) → OrderFits o
order_fits o few tasks all =
    record {
      processors = omega arith;
      tasks = tasks;
      each = λ i below. range_fits o.processors (task_of o i) few (range_at o (pass_kept (range_rules o) (range_tells o) all) i below);
    }

-- the branches of an order written, once 3 and 4 hold
module _ (o : Order) (room : ℕ) (processors : within 1 most_processors o.processors ≡ true) (tasks : within 1 most_tasks o.tasks ≡ true) where
  abbrev size : ℕ
  size = order_length 1 o.tasks

  pub written_stop : {refusal : Refusal} → first_broken 0 (range_rules o) ≡ Err refusal → first_broken size (written_rules o room) ≡ Err refusal
  unfolding written_rules first_broken
  written_stop {refusal} e = rw (processors, tasks) (stop size (range_rules o) _ refusal (any_count 0 size (range_rules o) refusal e))

  pub written_on : {count : ℕ} → first_broken 0 (range_rules o) ≡ Ok count → first_broken size (written_rules o room) ≡ first_broken size (room_rules size room)
  unfolding written_rules first_broken
  written_on e = rw (processors, tasks) (pass_on size (range_rules o) _ (done_pass 0 (range_rules o) e))

pub written_tells : (o : Order) (room : ℕ) → TestsTell (written_rules o room)
unfolding written_rules TestsTell
written_tells o room = (in_range_tells _ _ _, λ _. (in_range_tells _ _ _, λ _. tell_append (range_rules o) _ (range_tells o) (λ _. room_tells (order_length 1 o.tasks) room)))

-- 13
pub same_tells : (c : TaskColumns) → Tells (one_length c)
same_tells c = (
  λ e.
      let one = both (eqb (length c.widths) (length c.periods)) _ e in
      let two = both (eqb (length c.widths) (length c.deadlines)) _ one.1 in
      record { periods_same = sym (eqb-true _ _ one.0); deadlines_same = sym (eqb-true _ _ two.0); runs_same = sym (eqb-true _ _ two.1) },
  λ same. rw (eq-eqb _ _ (sym same.periods_same), eq-eqb _ _ (sym same.deadlines_same)) (eq-eqb _ _ (sym same.runs_same)),
)

pub write_on : (processors : ℕ) (c : TaskColumns) (room : ℕ) → (one_length c).test ≡ true →
    write_answer processors c room ≡ first_broken (order_length 1 (column_order processors c).tasks) (written_rules (column_order processors c) room)
unfolding write_answer write_rules first_broken
write_on processors c room e = rw e

pub write_tells : (processors : ℕ) (c : TaskColumns) (room : ℕ) → TestsTell (write_rules processors c room)
unfolding write_rules TestsTell
write_tells processors c room = (same_tells c, λ _. written_tells (column_order processors c) room)
