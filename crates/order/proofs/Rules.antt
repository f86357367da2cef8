-- Laws of the order's rules: the scan of the spare bits, what an accepted header says, the parts in turn, and that each test tells.
use Rattle.std.specs.Prelude.{Ok, Err}
use mathlib.Core.Path.{◌≡◌, ◌∙◌}
use mathlib.Core.List.{List}
use Prim.Native.Nat.{ℕ, ◌+◌, ◌≤◌, ◌<◌}
use lib.ListN.{length}
use borrow.Author.Tests.{eq-eqb, ne_eqb, eqb-true}
use Rattle.bits.specs.Layout.{bytes_in, numbers_at}
use Rattle.bits.proofs.Field.{field_lt}
use Rattle.model.specs.declared.answer.Refusal.{Refusal}
use Rattle.model.specs.declared.order.Task.{Task}
use Rattle.model.specs.declared.order.Order.{Order}
use Rattle.model.specs.Kinds.{Answer}
use Rattle.model.specs.declared.answer.Refusal.TheVariants.{OfOrder}
use Rattle.model.specs.declared.answer.OrderCause.TheVariants.{TaskSpare}
use Rattle.model.specs.Limits.{most_tasks, most_processors}
use Rattle.model.specs.Layouts.{order_header, order_length}
use Rattle.model.specs.Rules.{Fact, first_broken, given, AllKept, TestsTell, InRange, equal, range_rules}
use Rattle.model.proofs.Rules.{AllPass, scan_none, scan_more, scan_stop, done_pass, pass_done, pass_append, pass_kept, pass_on, stop, given_done, given_refused, refused_given, done_given, scan_at, tell_append, tell_all, tell_one, each_rule, equal_tells, at_most_tells, in_range_tells}
use Rattle.model.proofs.Ranges.{range_tells}
use Rattle.order.specs.declared.Header.{Header}
use Rattle.order.specs.Order.{header_of, task_at, task_spare_at, task_spare_rules, task_read, order_at, header_rules, spare_rules, layout_rules, order_rules, refused_reading, read_order, table_read, order_read}

-- the scan of the tasks' spare bits
module _ (s : List ℕ) where
  abbrev spare : ℕ → Fact
  spare i = equal (task_spare_at s i) 0

  abbrev refusal : ℕ → Refusal
  refusal i = OfOrder (TaskSpare i)

  -- a task's record read
  pub task_done : (i : ℕ) → task_spare_at s i ≡ 0 → task_read s i ≡ Ok (task_at s i)
  unfolding first_broken
  task_done i e = given_done (task_at s i) {count = 0} _ (rw (eq-eqb _ _ e))

  pub task_stops : (i : ℕ) → (task_spare_at s i ≡ 0 → ⊥) → task_read s i ≡ Err (refusal i)
  unfolding first_broken
  task_stops i e = given_refused (task_at s i) _ (rw (ne_eqb _ _ e))

  pub spare_none : AllPass (spare_rules s 0)
  unfolding spare_rules
  spare_none = scan_none (task_spare_rules s)

  pub spare_more : (i : ℕ) {task : Task} → AllPass (spare_rules s i) → task_read s i ≡ Ok task → AllPass (spare_rules s (i + 1))
  unfolding spare_rules
  spare_more i all e = scan_more (task_spare_rules s) i all (done_pass 0 _ (done_given (task_at s i) _ e).1)

  pub spare_stop : (tasks i : ℕ) {refusal : Refusal} → i < tasks → AllPass (spare_rules s i) → task_read s i ≡ Err refusal → table_read s tasks ≡ Err refusal
  unfolding spare_rules
  spare_stop tasks i {refusal} below all e = given_refused _ _ (scan_stop (task_spare_rules s) 0 tasks i refusal below all (refused_given (task_at s i) _ e))

  pub spare_at_lem : (tasks : ℕ) → AllPass (spare_rules s tasks) → (i : ℕ) → i < tasks → task_spare_at s i ≡ 0
  unfolding spare_rules AllPass
  spare_at_lem tasks all i below = eqb-true _ _ (scan_at (each_rule spare refusal) tasks i below all).0

  spare_tells : (tasks : ℕ) → TestsTell (spare_rules s tasks)
  unfolding spare_rules
  spare_tells tasks = tell_all (each_rule spare refusal) tasks (λ i l. tell_one (spare i) (refusal i) (equal_tells _ _))

-- what an accepted header says
pub record HeaderSound (size : ℕ) (header : Header) : Type 0 where
  pub long : bytes_in order_header ≤ size
  pub version : header.version ≡ 1
  pub processors : InRange 1 most_processors header.processors
  pub tasks : InRange 1 most_tasks header.tasks
  pub size_right : size ≡ order_length 1 header.tasks
  pub spare : header.spare ≡ 0

header_tells : (size : ℕ) (header : Header) → TestsTell (header_rules size header)
unfolding header_rules TestsTell
header_tells size header = search (at_most_tells, equal_tells, in_range_tells) depth 7

pub header_sound : (size : ℕ) (header : Header) → AllPass (header_rules size header) → HeaderSound size header
unfolding header_rules AllKept
header_sound size header all =
    let k = pass_kept (header_rules size header) (header_tells size header) all in
    record { long = k.0; version = k.1.0; processors = k.1.1.0; tasks = k.1.1.1.0; size_right = k.1.1.1.1.0; spare = k.1.1.1.1.1.0 }

-- the reader's branches: the header's judgement, the table, and the judgement of the tasks
module _ (s : List ℕ) where
  abbrev header_answer : Answer
  header_answer = first_broken 0 (header_rules (length s) (header_of s))

  abbrev spare_answer : Answer
  spare_answer = first_broken 0 (spare_rules s (header_of s).tasks)

  pub header_stops : {refusal : Refusal} → given (tt {0}) header_answer ≡ Err refusal → order_read s ≡ Err refusal
  unfolding order_rules layout_rules
  header_stops {refusal} e =
      let header = stop 0 (header_rules (length s) (header_of s)) (spare_rules s (header_of s).tasks) refusal (refused_given (tt {0}) header_answer e) in
      given_refused (order_at s) _ (stop 0 (layout_rules s) (range_rules (order_at s)) refusal header)

  module _ {unit : Unit {0}} (accepted : given (tt {0}) header_answer ≡ Ok unit) where
    header_passes : AllPass (header_rules (length s) (header_of s))
    header_passes = done_pass 0 _ (done_given (tt {0}) header_answer accepted).1

    pub tasks_few : (header_of s).tasks ≤ most_tasks
    tasks_few = (header_sound (length s) (header_of s) header_passes).tasks.1

    pub table_stops : {refusal : Refusal} → table_read s (header_of s).tasks ≡ Err refusal → order_read s ≡ Err refusal
    unfolding order_rules layout_rules
    table_stops {refusal} e =
        let header = pass_on 0 (header_rules (length s) (header_of s)) (spare_rules s (header_of s).tasks) header_passes in
        let spare = refused_given _ spare_answer e in
        given_refused (order_at s) _ (stop 0 (layout_rules s) (range_rules (order_at s)) refusal (header ∙ spare))

    module _ {table : List Task} (taken : table_read s (header_of s).tasks ≡ Ok table) where
      pub table_taken : record { processors = (header_of s).processors; tasks = (header_of s).tasks; table = table } ≡ order_at s
      unfolding order_at
      table_taken = rw (done_given _ spare_answer taken).2

      layout_passes : AllPass (layout_rules s)
      unfolding layout_rules
      layout_passes = pass_append _ _ header_passes (done_pass 0 _ (done_given _ spare_answer taken).1)

      range_left : first_broken 0 (order_rules s) ≡ first_broken 0 (range_rules (order_at s))
      unfolding order_rules
      range_left = pass_on 0 (layout_rules s) (range_rules (order_at s)) layout_passes

      pub range_stops : {refusal : Refusal} → given (tt {0}) (first_broken 0 (range_rules (order_at s))) ≡ Err refusal → order_read s ≡ Err refusal
      range_stops e = given_refused (order_at s) _ (range_left ∙ refused_given (tt {0}) _ e)

      pub read_done : {judged : Unit {0}} → given (tt {0}) (first_broken 0 (range_rules (order_at s))) ≡ Ok judged → order_read s ≡ Ok (order_at s)
      read_done e = given_done (order_at s) _ (range_left ∙ (done_given (tt {0}) _ e).1)

  -- the reading of what was read, and of what was refused
  pub reading_done : {read : Order} → order_read s ≡ Ok read → record { answer = Ok 0; order = read } ≡ read_order s
  unfolding read_order
  reading_done e =
      let done = done_given (order_at s) _ e in
      let answer = pass_done 0 (order_rules s) (done_pass 0 (order_rules s) done.1) in
      rw (answer, done.2)

  pub reading_refused : {refusal : Refusal} → order_read s ≡ Err refusal → refused_reading refusal ≡ read_order s
  unfolding read_order
  reading_refused e = rw (refused_given (order_at s) _ e)

  pub order_tells : TestsTell (order_rules s)
  unfolding order_rules layout_rules
  order_tells =
      tell_append (layout_rules s) _ (tell_append _ _ (header_tells (length s) (header_of s)) (λ _. spare_tells s (header_of s).tasks)) (λ _. range_tells (order_at s))

-- n is a field of 6 bits
pub tasks_small : (s : List ℕ) → (header_of s).tasks < 64
unfolding header_of numbers_at
tasks_small s = field_lt s 11 6
