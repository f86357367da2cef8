use Rattle.std.proofs.Common.{◌≡◌, ◌+◌, ◌*◌, eqb}
use Rattle.laws.specs.Every.{every}
use Rattle.laws.specs.Joined.{filled}
use Rattle.build.proofs.table.take_table.Given as goal

abbrev pub invariant-loop-i : goal.invariant-loop-i
invariant-loop-i g l =
    (l.clear ≡ every (λ i. eqb (g.R.Records.spare_in l.build (l.from + g.R.Records.BYTES * i)) 0) l.i)
    × (l.table ≡ filled (λ i. g.R.Records.thing_in l.build (l.from + g.R.Records.BYTES * i)) g.R.Records.zero_kind g.row.N l.i)
