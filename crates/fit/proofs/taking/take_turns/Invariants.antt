use mathlib.Core.Path.{◌≡◌}
use Rattle.model.specs.Rules.{WithinLimits}
use Rattle.fit.proofs.Loop.{Between}
use Rattle.fit.proofs.taking.take_turns.Given as goal

abbrev pub invariant-loop : goal.invariant-loop
invariant-loop l = (limits : WithinLimits l.order) × Between l.order limits l.placing l.line × (l.line.placed ≡ l.counter)
