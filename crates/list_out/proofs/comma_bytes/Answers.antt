use mathlib.Core.Path.{◌≡◌, refl, ◌∙◌}
use mathlib.Core.Bool.{Bool, true, false}
use mathlib.Core.List.{[], ◌∷◌}
use mir.Val.{bool_byte}
use lib.ListN.{length}
use Rattle.laws.specs.Choice.{pick}
use Rattle.form.specs.Bytes.{comma}
use Rattle.list_out.proofs.comma_bytes.Goals as goal

-- a test as the number that it is taken as
one_or_none : (test : Bool) → bool_byte test ≡ length (pick test (comma ∷ []) [])
one_or_none true = refl
one_or_none false = refl

pub returns-clause-counted : goal.returns-clause-counted
returns-clause-counted c = c.from.ensures ∙ one_or_none _
