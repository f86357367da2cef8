use Rattle.std.proofs.Common.{◌≡◌}
use Rattle.asked.specs.Lines.{line_in}
use Rattle.asked.proofs.lines.line_below.Given as goal

abbrev pub invariant-loop-r : goal.invariant-loop-r
invariant-loop-r l = line_in l.rows l.r l.w l.reach ≡ record { rest = l.rest; slope = l.slope }
