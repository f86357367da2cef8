-- 50, 51 and 52 test what they say; and the rules hold just of a text of an order within the limits.
use mathlib.Core.Path.{◌≡◌, refl, sym, subst}
use mathlib.Core.Bool.{true}
use mathlib.Core.List.{List}
use Prim.Native.Nat.{ℕ, ◌≤◌, ◌<◌}
use native.Mathlib.Omega.{arith}
use lib.Dec.{ltb}
use borrow.Author.Tests.{lt-ltb, ltb-true}
use Rattle.laws.proofs.Choice.{both}
use Rattle.laws.proofs.Filled.{length-filled, filled_past}
use Rattle.model.specs.declared.order.Task.{Task}
use Rattle.model.specs.declared.order.Order.{Order}
use Rattle.model.specs.Limits.{most_tasks, most_processors, zero_task, task_of}
use Rattle.model.specs.Layouts.{order_length}
use Rattle.model.specs.Rules.{AllKept, Tells, TestsTell, range_rules, room_rules, TaskInRange, WithinLimits}
use Rattle.model.proofs.Rules.{tell_append, tell_all, at_most_tells, kept_append, kept_front, kept_rest, kept_at, kept_all}
use Rattle.model.proofs.Ranges.{range_at, range_all}
use Rattle.order_out.specs.Write.{written_rules}
use Rattle.order_out.proofs.Rules.{written_tells}
use Rattle.form.specs.Lines.{IsLine, is_line, NumbersFit, line_task}
use Rattle.form.specs.Text.{IsText, typed_line, finished_lines, line_count, typed_task, text_order}
use Rattle.form.proofs.Lines.{line_true, true_line, line_task_lem, line_once, fit_true, true_fit}
use Rattle.form.proofs.Text.{text_finished, text_lines, text_typed, text_is, text_order_lem}
use Rattle.form.proofs.Written.{small_task}
use Rattle.text.specs.Read.{Shaped, shaped, typed_fits, line_rules, text_rules, read_text_rules}
use Rattle.text_facts.specs.Claims.{Typed}

module _ (text : List ℕ) (i : ℕ) where
  shaped_tells : Tells (shaped text i)
  unfolding shaped
  shaped_tells = (
    (λ e. let r = both (ltb i (finished_lines text)) (is_line (typed_line text i)) e in
        record { finished = ltb-true i (finished_lines text) r.0; task = line_task (typed_line text i); line = line_true (typed_line text i) r.1 }),
    (λ s. rw (lt-ltb i (finished_lines text) s.finished) (true_line s.line)),
  )

  shaped_line : (shaped text i).test ≡ true → IsLine (typed_line text i) (typed_task text i)
  unfolding shaped
  shaped_line e = line_true (typed_line text i) (both (ltb i (finished_lines text)) (is_line (typed_line text i)) e).1

  -- of a line of the right shape
  fits_tells : (shaped text i).test ≡ true → Tells (typed_fits text i)
  unfolding typed_fits
  fits_tells shape = (
    (λ e t line. subst NumbersFit (sym (line_task_lem line)) (fit_true (typed_task text i) e)),
    (λ says. true_fit (typed_task text i) (says (typed_task text i) (shaped_line shape))),
  )

  pub line_tells : TestsTell (line_rules text i)
  unfolding line_rules TestsTell
  line_tells = (shaped_tells, λ shape. (fits_tells shape, λ _. tt))

pub text_tells : (text : List ℕ) → TestsTell (text_rules text)
unfolding text_rules TestsTell
text_tells text = (at_most_tells (line_count text) most_tasks, λ _. tell_all (line_rules text) (line_count text) (λ i _. line_tells text i))

pub read_text_tells : (processors : ℕ) (text : List ℕ) (room : ℕ) → TestsTell (read_text_rules processors text room)
unfolding read_text_rules
read_text_tells processors text room = tell_append (text_rules text) _ (text_tells text) (λ _. written_tells (text_order processors text) room)

-- a task in range has no number over the most that may be typed
fits_range : (processors : ℕ) (t : Task) → processors ≤ most_processors → TaskInRange processors t → NumbersFit t
fits_range processors t few inside =
    let small = small_task processors t few inside in
    record { width = omega (arith, small.width); period = omega (arith, small.period); deadline = omega (arith, small.deadline); run = omega (arith, small.run) }

-- the rules hold: the order that is typed is within the limits, and there is room
module _ (processors : ℕ) (text : List ℕ) (room : ℕ) (kept : AllKept (read_text_rules processors text room)) where
  abbrev o : Order
  o = text_order processors text

  text_kept : AllKept (text_rules text)
  unfolding read_text_rules
  text_kept = kept_front (text_rules text) (written_rules o room) kept

  written_kept : AllKept (written_rules o room)
  unfolding read_text_rules
  written_kept = kept_rest (text_rules text) (written_rules o room) kept

  few_lines : line_count text ≤ most_tasks
  unfolding text_rules AllKept
  few_lines = text_kept.0

  shaped_at : (i : ℕ) → i < line_count text → Shaped text i
  unfolding text_rules AllKept line_rules shaped
  shaped_at i below = (kept_at (line_rules text) (line_count text) i below text_kept.1).0

  is_text : IsText text o
  is_text = text_is text (λ i below. (shaped_at i below).finished) processors (λ i below. true_line (shaped_at i below).line)

  limits : WithinLimits o
  unfolding written_rules AllKept text_order
  limits =
      record {
        processors = written_kept.0;
        tasks = written_kept.1.0;
        places = length-filled (typed_task text) zero_task most_tasks (line_count text) few_lines;
        each = range_at o (kept_front (range_rules o) _ written_kept.1.1);
        zero_past = filled_past (typed_task text) zero_task most_tasks (line_count text);
      }

  beside : o.processors ≡ processors
  unfolding text_order
  beside = refl

  pub kept_typed : Typed processors text o
  kept_typed = record { typed = is_text; beside = beside; limits = limits }

  pub kept_room : order_length 1 (line_count text) ≤ room
  unfolding written_rules room_rules AllKept text_order
  kept_room = (kept_rest (range_rules o) (room_rules (order_length 1 (line_count text)) room) written_kept.1.1).0

-- such an order is typed, and there is room: the rules hold
module _ (processors : ℕ) (text : List ℕ) (order : Order) (is : Typed processors text order) where
  pub typed_order : text_order processors text ≡ order
  typed_order = text_order_lem processors text order is.typed is.beside is.limits.places is.limits.tasks.1 is.limits.zero_past

  line_kept : (i : ℕ) → i < order.tasks → AllKept (line_rules text i)
  unfolding line_rules AllKept shaped typed_fits
  line_kept i below =
      let line = text_typed is.typed i below in
      let fits = fits_range order.processors (task_of order i) is.limits.processors.1 (is.limits.each i below) in (
        record { finished = subst (i <◌) (sym (text_finished is.typed)) below; task = task_of order i; line = line },
        ((λ t other. subst NumbersFit (line_once (typed_line text i) (task_of order i) t line other) fits), tt),
      )

  lines_kept : AllKept (text_rules text)
  unfolding text_rules AllKept
  lines_kept = rw (text_lines is.typed) (is.limits.tasks.1, kept_all (line_rules text) order.tasks line_kept)

  order_kept : (room : ℕ) → order_length 1 order.tasks ≤ room → AllKept (written_rules order room)
  unfolding written_rules room_rules AllKept
  order_kept room fits = (is.limits.processors, (is.limits.tasks, kept_append (range_rules order) _ (range_all order is.limits.each) (fits, tt)))

  pub typed_kept : (room : ℕ) → order_length 1 order.tasks ≤ room → AllKept (read_text_rules processors text room)
  unfolding read_text_rules
  typed_kept room fits = kept_append (text_rules text) (written_rules (text_order processors text) room) lines_kept (rw typed_order (order_kept room fits))
