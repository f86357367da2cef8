use Rattle.std.proofs.Common.{◌≡◌, ◌++◌, ◌*◌, drop, take}
use Rattle.std.specs.List.{flat_map}
use Rattle.bits.proofs.record.put_records.Given as goal

abbrev pub invariant-loop-i : goal.invariant-loop-i
invariant-loop-i g l = l.out ≡ flat_map g.R.Record.record_bytes (take l.i l.things) ++ drop (g.R.Record.BYTES * l.i) l.initial.out
