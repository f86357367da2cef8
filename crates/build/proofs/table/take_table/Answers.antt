use mathlib.Core.Path.{ap, ◌∙◌}
use Prim.Native.Nat.{◌+◌, ◌*◌, ◌<◌}
use native.Mathlib.Nat.{le_antisymm}
use native.Mathlib.Omega.{arith}
use lib.Dec.{eqb}
use lib.ListN.{replicate}
use Rattle.laws.proofs.Joined.{filled_none, filled_more}
use Rattle.build.proofs.Records.{every_none, every_next}
use Rattle.build.proofs.table.take_table.Goals as goal

pub loop-i-init : goal.loop-i-init
loop-i-init g c = (every_none _, ap (replicate g.row.N) c.zero-table.ensures ∙ filled_none _ g.R.Records.zero_kind g.row.N)

pub loop-i-preserved : goal.loop-i-preserved
loop-i-preserved g c =
    let s = c.args.build.now in
    let from = c.args.from in
    let i = c.loop-i.i in
    let below : i < g.row.N = omega (arith, c.requires.room) in (
      cc (every_next (λ k. eqb (g.R.Records.spare_in s (from + g.R.Records.BYTES * k)) 0) i, c.BYTES.ensures, c.take-taken.ensures.spare),
      cc (filled_more (λ k. g.R.Records.thing_in s (from + g.R.Records.BYTES * k)) g.R.Records.zero_kind g.row.N i below, c.BYTES.ensures, c.take-taken.ensures.thing),
    )

pub returns-clause-clear : goal.returns-clause-clear
returns-clause-clear g c = c.loop-i.invariant.0 ∙ rw (le_antisymm c.loop-i.auto.i-end c.loop-i-test.false)

pub returns-clause-table : goal.returns-clause-table
returns-clause-table g c = c.loop-i.invariant.1 ∙ rw (le_antisymm c.loop-i.auto.i-end c.loop-i-test.false)
