use mathlib.Core.Path.{◌≡◌}
use Prim.Native.Nat.{◌≤◌}
use Rattle.put.specs.Put.{PutsAt}
use Rattle.text_out.proofs.Lines.{lines_of}
use Rattle.text_out.proofs.put_lines.Given as goal

abbrev pub invariant-loop-line : goal.invariant-loop-line
invariant-loop-line l =
    (l.output.bytes.ghost_name ≡ l.initial.output.bytes.ghost_name) × (l.line ≤ l.order.tasks)
    × PutsAt 0 (lines_of l.order.table l.line) l.fn.out l.output.at l.output.bytes.now
