use mathlib.Core.Path.{sym, ap, ◌∙◌}
use Rattle.typed.specs.declared.Kind.{Kind}
use Rattle.typed.specs.declared.Kind.TheVariants.{LineFeed}
use Rattle.typed.proofs.ByKind.{is_kind, kind_tells}
use Rattle.typed.proofs.is_line_feed.Goals as goal

pub returns : goal.returns
returns c = c.eq.ensures ∙ ap (λ (kind : Kind). is_kind kind LineFeed) c.kind_of.ensures ∙ sym (kind_tells c.args.byte).feed_is
