use borrow.Author.Rules.{rules}
use native.Mathlib.Omega.{arith}
use Rattle.script.proofs.Numbers.{three_bytes_are}
use Rattle.script.proofs.three_bytes.Goals as goal

pub returns : goal.returns
returns c =
    let a = c.args in
    let three = three_bytes_are a.script.now a.from (omega arith) (omega arith) (omega arith) in
    search rules
