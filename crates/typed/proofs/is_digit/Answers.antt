use mathlib.Core.Path.{sym, ap, ◌∙◌}
use Rattle.typed.specs.declared.Kind.{Kind}
use Rattle.typed.specs.declared.Kind.TheVariants.{Digit}
use Rattle.typed.proofs.ByKind.{is_kind, kind_tells}
use Rattle.typed.proofs.is_digit.Goals as goal

pub returns : goal.returns
returns c = c.eq.ensures ∙ ap (λ (kind : Kind). is_kind kind Digit) c.kind_of.ensures ∙ sym (kind_tells c.args.byte).digit_is
