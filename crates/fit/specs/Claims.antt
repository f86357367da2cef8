-- What the build of first fit says, in the document's words: claims, proved in proofs/Claims.antt.
use Rattle.std.specs.Prelude.{◌≡◌, ℕ, ◌≤◌, ◌<◌, Ok, Err}
use Rattle.model.specs.declared.order.Order.{Order}
use Rattle.model.specs.declared.build.Build.{Build}
use Rattle.model.specs.declared.answer.Refusal.{Refusal}
use Rattle.model.specs.declared.answer.Refusal.TheVariants.{OfCall}
use Rattle.model.specs.declared.answer.CallCause.TheVariants.{FirstFit}
use Rattle.model.specs.Limits.{zero_member, member_of, home_of}
use Rattle.model.specs.Rules.{WithinLimits}
use Rattle.build.specs.Build.{FieldsFit}
use Rattle.demand.specs.Priority.{members_of, rank}
use Rattle.demand.specs.Test.{verdict}
use Rattle.turns.specs.Turns.{home_at}
use Rattle.fitting.specs.declared.Placing.{Placing}
use Rattle.fitting.specs.Claims.{Placed, RefusedIn}
use Rattle.fit.specs.Recorded.{fitted_of, build_in}

-- the build of an order: every task placed, with its final rank and its worst response
pub record Built (o : Order) (b : Build) : Type 0 where
  pub processors : b.processors ≡ o.processors
  pub tasks : b.tasks ≡ o.tasks
  pub placed : (s : Placing) × (((i : ℕ) → i < o.tasks → home_of b i ≡ home_at s.homes i) × Placed o s.homes b.places b.partitions)
  pub ranks : (i : ℕ) → i < o.tasks → (member_of b i).rank ≡ rank o (members_of b (home_of b i)) i
  pub responses : (i : ℕ) → i < o.tasks → verdict o (members_of b (home_of b i)) i ≡ Ok (member_of b i).response
  pub zero_past : (i : ℕ) → o.tasks ≤ i → member_of b i ≡ zero_member

-- "The build records the final ranks and worst responses."
abbrev pub FittedIsBuilt : Type 0
FittedIsBuilt = (o : Order) (b : Build) → WithinLimits o → fitted_of o ≡ Ok b → Built o b

-- "Else refuse, naming that task.": it is one of the order's
abbrev pub FittedIsRefused : Type 0
FittedIsRefused =
    (o : Order) (cause : Refusal) → WithinLimits o → fitted_of o ≡ Err cause →
    (s : Placing) × ((i : ℕ) × (cause ≡ OfCall (FirstFit i)) × RefusedIn o s i)

-- and such a task is refused, whoever asks
abbrev pub RefusedIsFitted : Type 0
RefusedIsFitted = (o : Order) (s : Placing) (i : ℕ) → WithinLimits o → RefusedIn o s i → fitted_of o ≡ Err (OfCall (FirstFit i))

-- "M 7, n 6, partition count p 7" and so on: every number of the build fits its field
abbrev pub FittedFitsFields : Type 0
FittedFitsFields = (o : Order) → WithinLimits o → FieldsFit (build_in (fitted_of o))
