use native.Mathlib.Omega.{arith}
use Prim.Native.Nat.{◌-◌, ◌/◌, ◌^◌}
use lib.Count.{trailing_le}
use Rattle.sets.specs.Sets.{IsSet}
use Rattle.list_out.proofs.Runs.{run_end_word}
use Rattle.list_out.proofs.run_end.Goals as goal

pub overflow_add-result : goal.overflow_add-result
overflow_add-result c = omega (arith, c.requires, trailing_le 64 (2 ^ 64 - 1 - c.args.set / 2 ^ c.args.first / 2))

pub returns : goal.returns
returns c = let is_set : IsSet c.args.set = omega (arith, c.ranges.set) in run_end_word _ _ is_set
