use borrow.Author.Tests.{lt-ltb, le-ltb}
use Prim.Native.Nat.{ℕ, ◌-◌}
use mathlib.Core.Path.{sym, ap, ◌∙◌}
use mathlib.Core.Bool.{Bool}
use lib.ListN.{get_or}
use Rattle.laws.specs.Choice.{pick}
use Rattle.trial.specs.Known.{of_rank}
use Rattle.inspect_tests.proofs.last_above.Goals as goal

pub returns-then-rank-gt0 : goal.returns-then-rank-gt0
returns-then-rank-gt0 c =
    let a = c.args in
    ap (λ (x : ℕ). get_or a.lasts.now x 0) c.number_in.ensures
    ∙ sym (ap (λ (x : Bool). pick x (of_rank a.keys.now a.lasts.now (a.rank - 1)) 0) (lt-ltb 0 a.rank c.if-rank-gt0.true))

pub returns : goal.returns
returns c =
    let a = c.args in
    sym (ap (λ (x : Bool). pick x (of_rank a.keys.now a.lasts.now (a.rank - 1)) 0) (le-ltb 0 a.rank c.if-rank-gt0.false))
