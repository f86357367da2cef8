use mathlib.Core.Path.{◌≡◌}
use native.Mathlib.Omega.{arith}
use Rattle.bits.specs.Layout.{numbers_at}
use Rattle.order.specs.Order.{header_of}
use Rattle.order.proofs.read_header.Goals as goal

pub returns : goal.returns
unfolding header_of numbers_at
returns c =
    let at-two : c.take.new.self.at ≡ 4 = omega arith in
    let at-three : c.take-2.new.self.at ≡ 11 = omega arith in
    let at-four : c.take-3.new.self.at ≡ 17 = omega arith in
    cc
