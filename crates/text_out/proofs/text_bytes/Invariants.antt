use mathlib.Core.Path.{◌≡◌}
use Prim.Native.Nat.{◌*◌, ◌≤◌}
use lib.ListN.{length}
use Rattle.text_out.proofs.Lines.{lines_of}
use Rattle.text_out.proofs.text_bytes.Given as goal

abbrev pub invariant-loop-i : goal.invariant-loop-i
invariant-loop-i l = (l.i ≤ l.order.tasks) × (l.bytes ≡ length (lines_of l.order.table l.i)) × (l.bytes ≤ 53 * l.i)
