use native.Mathlib.Omega.{arith}
use mathlib.Core.Path.{subst}
use Prim.Native.Nat.{ℕ, ◌+◌}
use Rattle.asked.proofs.RowLaws.{fit_fewer}
use Rattle.verdict.specs.Tested.{TestedAs}
use Rattle.trial.proofs.Heads.{blocking_in_most}
use Rattle.trial.proofs.test_rank.Goals as goal

pub test-requires : goal.test-requires
test-requires c =
    let a = c.args in (
      fit_fewer a.rows.now a.count (a.rank + 1) (omega (arith, c.requires.0)) c.requires.1,
      omega (arith, c.blocking-blocked.ensures, blocking_in_most a.rows.now a.count c.requires.1 a.rank),
      c.head_start-from.ensures.0,
      c.head_start-from.ensures.1,
    )

pub returns : goal.returns
returns c =
    let a = c.args in
    subst (λ (x : ℕ). TestedAs a.rows.now a.rank x c.test.result) c.blocking-blocked.ensures c.test.ensures
