use Prim.Native.Nat.{◌-◌, ◌≤◌}
use mathlib.Core.Path.{◌≡◌}
use lib.ListN.{length}
use Rattle.put.proofs.Put.{DigitsFrom}
use Rattle.put.proofs.Output.put_digits.Given as goal

abbrev pub invariant-loop-place : goal.invariant-loop-place
invariant-loop-place l =
    (l.fn.self.at ≤ l.place) × (l.self.bytes.ghost_name ≡ l.fn.self.bytes.ghost_name) × (length l.self.bytes.now ≡ length l.fn.self.bytes.now)
    × DigitsFrom l.fn.self.at l.digits l.number l.fn.self.bytes.now l.self.bytes.now l.left (l.place - l.fn.self.at)
