use Rattle.std.specs.Prelude.{Ok}
use mathlib.Core.Path.{sym, ap, ◌∙◌}
use Prim.Native.Nat.{ℕ}
use native.Mathlib.Omega.{arith}
use lib.ListN.{length}
use Rattle.model.specs.Answer.{output_after}
use Rattle.model.proofs.Output.{after_done, after_refused}
use Rattle.list_form.specs.ListText.{list_text}
use Rattle.list_out.proofs.Rules.{list_short, list_done}
use Rattle.list_out.proofs.write_list.Goals as goal

pub returns-then-out-size : goal.returns-then-out-size
returns-then-out-size c =
    let a = c.args in
    record {
      answered = sym (list_short a.set (length a.out.now) (rw c.list_bytes-size.ensures.counted at c.if-out-size.true));
      written = sym (after_refused _ _ a.out.now);
    }

pub put_list-requires : goal.put_list-requires
put_list-requires c = record { fits = omega (arith, c.list_bytes-size.ensures.counted, c.if-out-size.false) }

pub returns : goal.returns
returns c =
    let a = c.args in
    let size = c.list_bytes-size.ensures.counted in
    let text = list_text a.set in
    record {
      answered = ap Ok size ∙ sym (list_done a.set (length a.out.now) (rw size at c.if-out-size.false));
      written = c.put_list.ensures ∙ sym (after_done (length text) text a.out.now) ∙ ap (λ (n : ℕ). output_after (Ok n) text a.out.now) (sym size);
    }
