use mathlib.Core.Path.{sym, ap, ◌∙◌}
use Rattle.sets.specs.Sets.{span}
use Rattle.sets.proofs.Shifted.{span_none, ones_span}
use Rattle.sets.proofs.span.Goals as goal

pub returns-then-count-eq0 : goal.returns-then-count-eq0
returns-then-count-eq0 c = span_none _ ∙ ap (span _) (sym c.if-count-eq0.true)

pub returns : goal.returns
returns c = ones_span _ _ c.requires
