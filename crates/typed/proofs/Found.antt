-- What is said of what is found, where something is found and where nothing is.
use mathlib.Core.Path.{subst}
use Rattle.std.specs.Prelude.{Some, None}
use Rattle.std.specs.Option.{ForSome}
use Rattle.std.proofs.lemmas.Option.{none-some, same_Some}

module _ {A : Type 0} (says : A → Type 0) where
  pub of_some : (x : A) → says x → ForSome (Some x) says
  of_some x said = λ y e. subst says (same_Some x y e) said

  pub of_none : ForSome None says
  of_none = λ y e. absurd (none-some y e)
