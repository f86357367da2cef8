use mathlib.Core.Path.{sym, ap, ◌∙◌}
use lib.ListN.{get_or}
use Rattle.typed.specs.declared.Kind.{Kind}
use Rattle.typed.specs.declared.Kind.TheVariants.{Mark}
use Rattle.typed.proofs.ByKind.{is_kind, kind_tells}
use Rattle.typed.proofs.reader.Reader.is_at_mark.Goals as goal

pub returns : goal.returns
returns c = let reader = c.args.self.now in c.eq.ensures ∙ ap (λ (kind : Kind). is_kind kind Mark) c.kind.ensures ∙ sym (kind_tells (get_or reader.text.now reader.at 0)).mark_is
