use mathlib.Core.Path.{◌≡◌}
use Prim.Native.Nat.{◌≤◌}
use Rattle.laws.specs.Joined.{joined, filled}
use Rattle.model.specs.Limits.{most_tasks, zero_task}
use Rattle.model.proofs.Rules.{AllPass}
use Rattle.form.specs.Text.{typed_task}
use Rattle.text.specs.Read.{line_rules}
use Rattle.text.proofs.Lines.{LineBegins}
use Rattle.text.proofs.take_lines.Given as goal

abbrev pub invariant-loop-i : goal.invariant-loop-i
invariant-loop-i l = (l.i ≤ l.lines) × LineBegins l.text l.i l.reader.at × AllPass (joined (line_rules l.text) l.i) × (l.table ≡ filled (typed_task l.text) zero_task most_tasks l.i) × (l.reader.text.now ≡ l.text)
