use mathlib.Core.Path.{ap, ◌∙◌}
use lib.ListN.{get_or}
use Rattle.typed.specs.declared.Kind.{Kind}
use Rattle.typed.specs.Kinds.{kind_of}
use Rattle.typed.proofs.ByKind.{is_kind, end_told}
use Rattle.typed.proofs.reader.Reader.is_at_end.Goals as goal

pub returns : goal.returns
returns c =
    let reader = c.args.self.now in
    c.eq.ensures ∙ ap (λ (kind : Kind). is_kind kind c.kind-2.result) c.kind.ensures ∙ ap (is_kind (kind_of (get_or reader.text.now reader.at 0))) c.kind-2.ensures
    ∙ end_told (get_or reader.text.now reader.at 0) c.args.end
