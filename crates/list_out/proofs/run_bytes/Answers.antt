use mathlib.Core.Path.{sym, ap, ◌∙◌}
use Prim.Native.Nat.{ℕ}
use native.Mathlib.Omega.{arith}
use lib.ListN.{length, length-append}
use Rattle.list_form.specs.ListText.{item_text}
use Rattle.list_out.specs.Parts.{comma_at}
use Rattle.list_out.proofs.Parts.{no_run, one_run, run_at}
use Rattle.list_out.proofs.run_bytes.Goals as goal

pub returns-then-not-begins_run-clause-counted : goal.returns-then-not-begins_run-clause-counted
returns-then-not-begins_run-clause-counted c =
    let a = c.args in
    sym (ap length (no_run a.at a.set a.processor (sym c.begins_run.ensures ∙ c.if-not-begins_run.true)))

pub returns-clause-counted : goal.returns-clause-counted
returns-clause-counted c =
    let a = c.args in
    let begins = sym c.begins_run.ensures ∙ c.if-not-begins_run.false in
    let item = c.item_bytes.ensures.counted ∙ ap (λ (last : ℕ). length (item_text (record { first = a.processor; last = last }))) c.run_end-last.ensures in
    let text = ap length (one_run a.at a.set a.processor begins) ∙ length-append (comma_at a.at) (item_text (run_at a.set a.processor)) in
    omega (arith, c.comma_bytes.ensures.counted, item, text)
