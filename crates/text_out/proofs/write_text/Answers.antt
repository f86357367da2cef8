use Rattle.std.specs.Prelude.{Ok, Result}
use Prim.Native.Nat.{ℕ, ◌≤◌}
use mathlib.Core.Path.{◌≡◌, sym, ap, ◌∙◌, subst}
use mathlib.Core.List.{List, ◌++◌}
use native.Mathlib.Omega.{arith}
use lib.ListN.{length, drop}
use Rattle.model.specs.declared.order.Order.{Order}
use Rattle.model.specs.declared.answer.Refusal.{Refusal}
use Rattle.model.specs.Answer.{output_after}
use Rattle.model.specs.Limits.{most_tasks}
use Rattle.model.specs.Rules.{first_broken}
use Rattle.model.proofs.Rules.{AllPass, done_pass, done_given, refused_given, handed_on}
use Rattle.model.proofs.Output.{after_done, after_refused}
use Rattle.order.specs.Order.{order_at, order_rules, order_read}
use Rattle.order.proofs.Reading.{within_limits}
use Rattle.form.specs.Written.{order_text}
use Rattle.text_out.specs.Write.{text_of}
use Rattle.text_out.proofs.Rules.{text_refused, text_short, text_done}
use Rattle.text_out.proofs.write_text.Goals as goal

-- the rules passed, and the order, where it is accepted
module _ (S : List ℕ) (found : Result Order Refusal) (is_read : found ≡ order_read S) (read : Order) (done : found ≡ Ok read) where
  given-so : (count : ℕ) × (first_broken 0 (order_rules S) ≡ Ok count) × (read ≡ order_at S)
  given-so = done_given (order_at S) (first_broken 0 (order_rules S)) (sym is_read ∙ done)

  passed : AllPass (order_rules S)
  passed = done_pass 0 (order_rules S) given-so.1

  order_same : read ≡ order_at S
  order_same = given-so.2

  tasks-few : read.tasks ≤ most_tasks
  tasks-few = subst (λ (o : Order). o.tasks ≤ most_tasks) (sym order_same) (within_limits S passed).tasks.1

  -- its text, where the bytes of it are counted
  text_same : order_text read ≡ text_of S
  text_same = ap order_text order_same

  size_same : {size : ℕ} → size ≡ length (order_text read) → size ≡ length (text_of S)
  size_same counted = counted ∙ ap length text_same

pub returns-in_err-read : goal.returns-in_err-read
returns-in_err-read c =
    let S = c.args.order.now in
    let out = c.args.out.now in
    let refused = refused_given (order_at S) (first_broken 0 (order_rules S)) (sym c.read.ensures ∙ c.in_err-read.was) in
    let passed-on = handed_on c.from_residual.result c.from_residual.ensures.1 in
    rw passed-on (record { answered = sym (text_refused S (length out) refused); written = sym (after_refused _ _ out) })

pub text_bytes-size-requires : goal.text_bytes-size-requires
text_bytes-size-requires c = tasks-few c.args.order.now _ c.read.ensures _ c.in_ok-read.was

pub returns-then-out-size : goal.returns-then-out-size
returns-then-out-size c =
    let S = c.args.order.now in
    let out = c.args.out.now in
    let same = size_same S _ c.read.ensures _ c.in_ok-read.was c.text_bytes-size.ensures.counted in
    record {
      answered = sym (text_short S (length out) (passed S _ c.read.ensures _ c.in_ok-read.was) (rw same at c.if-out-size.true));
      written = sym (after_refused _ _ out);
    }

pub put_lines-requires-clause-few : goal.put_lines-requires-clause-few
put_lines-requires-clause-few c = tasks-few c.args.order.now _ c.read.ensures _ c.in_ok-read.was

pub put_lines-requires-clause-room : goal.put_lines-requires-clause-room
put_lines-requires-clause-room c = record { fits = omega (arith, c.text_bytes-size.ensures.counted, c.if-out-size.false) }

pub returns : goal.returns
returns c =
    let S = c.args.order.now in
    let out = c.args.out.now in
    let text = text_of S in
    let same = size_same S _ c.read.ensures _ c.in_ok-read.was c.text_bytes-size.ensures.counted in
    record {
      answered = ap Ok same ∙ sym (text_done S (length out) (passed S _ c.read.ensures _ c.in_ok-read.was) (rw same at c.if-out-size.false));
      written = c.put_lines.ensures ∙ ap (λ (x : List ℕ). x ++ drop (length x) out) (text_same S _ c.read.ensures _ c.in_ok-read.was) ∙ sym (after_done (length text) text out) ∙ ap (λ (n : ℕ). output_after (Ok n) text out) (sym same);
    }
