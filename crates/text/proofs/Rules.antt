-- The rules of reading a text in turn: 52, then line by line 50 and 51, then the writer's.
use Rattle.std.specs.Prelude.{Err}
use mathlib.Core.Path.{◌≡◌, sym, ap, ◌∙◌, subst}
use lib.ListN.{length}
use mathlib.Core.List.{List}
use Prim.Native.Nat.{ℕ, ◌≤◌, ◌<◌}
use borrow.Author.Tests.{le-leb, lt-leb}
use Rattle.laws.specs.Joined.{joined, filled}
use Rattle.model.specs.declared.order.Task.{Task}
use Rattle.model.specs.declared.order.Order.{Order}
use Rattle.model.specs.Kinds.{Answer}
use Rattle.model.specs.declared.answer.Refusal.{Refusal}
use Rattle.model.specs.declared.answer.Refusal.TheVariants.{OfText}
use Rattle.model.specs.declared.answer.TextCause.TheVariants.{LineCount}
use Rattle.model.specs.Limits.{most_tasks, zero_task}
use Rattle.model.specs.Layouts.{order_length}
use Rattle.model.specs.Rules.{Rule, first_broken}
use Rattle.model.proofs.Rules.{AllPass, pass_on, stop, any_count}
use Rattle.order_out.specs.Write.{written_rules, WritesOrder}
use Rattle.form.specs.Text.{line_count, typed_task, text_order}
use Rattle.text.specs.Read.{line_rules, text_rules, read_text_rules, read_text_answer, ReadsText}

module _ (processors : ℕ) (text : List ℕ) (room : ℕ) where
  pub text_many : most_tasks < line_count text → read_text_answer processors text room ≡ Err (OfText LineCount)
  unfolding read_text_answer read_text_rules text_rules first_broken
  text_many many = rw (lt-leb (line_count text) most_tasks many)

  abbrev lines : List Rule
  lines = joined (line_rules text) (line_count text)

  module _ (few : line_count text ≤ most_tasks) where
    pub text_stops : (refusal : Refusal) → first_broken 0 (joined (line_rules text) (line_count text)) ≡ Err refusal → read_text_answer processors text room ≡ Err refusal
    unfolding read_text_answer read_text_rules text_rules first_broken
    text_stops refusal refused = rw (le-leb (line_count text) most_tasks few) (stop (order_length 1 (line_count text)) lines (written_rules (text_order processors text) room) refusal (any_count 0 (order_length 1 (line_count text)) lines refusal refused))

    pub text_goes_on : AllPass (joined (line_rules text) (line_count text)) → read_text_answer processors text room ≡ first_broken (order_length 1 (line_count text)) (written_rules (text_order processors text) room)
    unfolding read_text_answer read_text_rules text_rules first_broken
    text_goes_on all = rw (le-leb (line_count text) most_tasks few) (pass_on (order_length 1 (line_count text)) lines (written_rules (text_order processors text) room) all)

-- the lines as an order, written
pub order_written : (processors : ℕ) (text output : List ℕ) (lines : ℕ) (table : List Task) (answer : Answer) (after : List ℕ)
    → lines ≡ line_count text → lines ≤ most_tasks → AllPass (joined (line_rules text) lines) → table ≡ filled (typed_task text) zero_task most_tasks lines
    → WritesOrder (record { processors = processors; tasks = lines; table = table }) output answer after → ReadsText processors text output answer after
unfolding text_order
order_written processors text output lines table answer after counted few all filled-so w =
    let made : ℕ → List Task → Order = λ n tasks. record { processors = processors; tasks = n; table = tasks } in
    let same : made lines table ≡ text_order processors text = ap (made lines) filled-so ∙ ap (λ (n : ℕ). made n (filled (typed_task text) zero_task most_tasks n)) counted in
    let written = subst (λ (o : Order). WritesOrder o output answer after) same w in
    record {
      answered = written.answered ∙ sym (text_goes_on processors text (length output) (subst (λ (n : ℕ). n ≤ most_tasks) counted few) (subst (λ (n : ℕ). AllPass (joined (line_rules text) n)) counted all));
      written = written.written;
    }
