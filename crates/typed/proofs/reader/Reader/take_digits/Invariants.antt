use mathlib.Core.Path.{◌≡◌}
use Prim.Native.Nat.{◌-◌}
use lib.ListN.{length}
use Rattle.typed.proofs.Digits.{Taking}
use Rattle.typed.proofs.reader.Reader.take_digits.Given as goal

abbrev pub invariant-loop-next : goal.invariant-loop-next
invariant-loop-next l = (l.self ≡ l.fn.self) × Taking l.fn.self.text.now l.fn.self.at l.value l.next

abbrev pub decreases-loop-next : goal.decreases-loop-next
decreases-loop-next l = length l.text - l.next
