use mathlib.Core.Path.{◌≡◌, subst}
use native.Mathlib.Omega.{arith}
use Prim.Native.Nat.{ℕ, ◌-◌, ◌^◌, ◌<◌}
use lib.Count.{count_leading_zeros, leading_le, leading_length}
use Rattle.sets.specs.Sets.{IsSet}
use Rattle.list_out.proofs.above_all.Goals as goal

pub overflow_sub-result : goal.overflow_sub-result
overflow_sub-result c = omega (arith, leading_le 64 c.args.set)

pub returns-clause-above : goal.returns-clause-above
returns-clause-above c =
    let set = c.args.set in
    let is_set : IsSet set = omega (arith, c.ranges.set) in
    let size = leading_length 64 set is_set in
    let all : size.0 ≡ 64 - count_leading_zeros 64 set = omega (arith, size.1) in
    subst (λ (n : ℕ). set < 2 ^ n) all size.2
