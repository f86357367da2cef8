use mathlib.Core.Path.{sym, ap, ◌∙◌}
use Prim.Native.Nat.{ℕ, ◌+◌}
use Rattle.text.proofs.Lines.{byte_is, count_is}
use Rattle.text.proofs.count_lines.Goals as goal

pub returns : goal.returns
returns c =
    let lines = c.finished_lines in
    ap (λ (n : ℕ). lines.result + n) (c.from.ensures ∙ byte_is c.is_unfinished.result) ∙ sym (count_is c.args.text.now lines.result c.is_unfinished.result lines.ensures.counted (sym c.is_unfinished.ensures))
