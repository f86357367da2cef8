-- What an accepted reading says: its answer, its order, and that the order is within the limits.
use Rattle.std.specs.Prelude.{Ok, Err}
use mathlib.Core.Path.{◌≡◌, refl, sym, ◌∙◌}
use mathlib.Core.List.{List}
use Prim.Native.Nat.{ℕ, ◌<◌}
use lib.ListN.{length}
use Rattle.laws.proofs.Filled.{length-filled, filled_past}
use Rattle.model.specs.declared.order.Order.{Order}
use Rattle.model.specs.Kinds.{Answer}
use Rattle.model.specs.Limits.{most_tasks, zero_task}
use Rattle.model.specs.Rules.{first_broken, range_rules, WithinLimits}
use Rattle.model.proofs.Rules.{AllPass, done_pass, pass_front, pass_rest, pass_kept}
use Rattle.model.proofs.Ranges.{range_at, range_tells}
use Rattle.order.specs.Order.{header_of, task_at, task_spare_at, order_at, header_rules, spare_rules, layout_rules, order_rules, reading_of, read_order}
use Rattle.order.proofs.Rules.{HeaderSound, header_sound, spare_at_lem}

answer_of : (a : Answer) (o : Order) → (reading_of a o).answer ≡ a
answer_of (Ok count) o = refl
answer_of (Err cause) o = refl

pub read_answer : (s : List ℕ) → (read_order s).answer ≡ first_broken 0 (order_rules s)
unfolding read_order
read_answer s = answer_of (first_broken 0 (order_rules s)) (order_at s)

module _ (s : List ℕ) {count : ℕ} (done : (read_order s).answer ≡ Ok count) where
  pub read_rules : AllPass (order_rules s)
  read_rules = done_pass 0 (order_rules s) (sym (read_answer s) ∙ done)

  pub read_order_lem : (read_order s).order ≡ order_at s
  unfolding read_order
  read_order_lem = rw (sym (read_answer s) ∙ done)

module _ (s : List ℕ) (rules : AllPass (order_rules s)) where
  layout_passes : AllPass (layout_rules s)
  unfolding order_rules
  layout_passes = pass_front (layout_rules s) _ rules

  pub header_holds : HeaderSound (length s) (header_of s)
  unfolding layout_rules
  header_holds = header_sound (length s) (header_of s) (pass_front (header_rules (length s) (header_of s)) (spare_rules s (header_of s).tasks) layout_passes)

  pub spares_hold : (i : ℕ) → i < (header_of s).tasks → task_spare_at s i ≡ 0
  unfolding layout_rules
  spares_hold = spare_at_lem s (header_of s).tasks (pass_rest (header_rules (length s) (header_of s)) _ layout_passes)

  pub within_limits : WithinLimits (order_at s)
  unfolding order_at order_rules
  within_limits =
      record {
        processors = header_holds.processors;
        tasks = header_holds.tasks;
        places = length-filled (task_at s) _ most_tasks (header_of s).tasks header_holds.tasks.1;
        each = range_at (order_at s) (pass_kept (range_rules (order_at s)) (range_tells (order_at s)) (pass_rest (layout_rules s) _ rules));
        zero_past = λ i past. filled_past (task_at s) zero_task most_tasks (header_of s).tasks i past;
      }
