use mathlib.Core.Path.{◌≡◌}
use Prim.Native.Nat.{◌+◌, ◌*◌, ◌≤◌}
use lib.ListN.{length}
use Rattle.list_form.specs.ListText.{list_text}
use Rattle.list_out.proofs.Parts.{rest_text}
use Rattle.list_out.proofs.list_bytes.Given as goal

abbrev pub invariant-loop-processor : goal.invariant-loop-processor
invariant-loop-processor l = (l.bytes ≤ 22 * l.processor) × (l.bytes + length (rest_text l.bytes l.set l.processor) ≡ length (list_text l.set))
