-- Of which kind the refusals of rules are.
use Rattle.std.specs.Prelude.{Err}
use mathlib.Core.Path.{◌≡◌, sym, subst}
use mathlib.Core.Bool.{Bool, true, false}
use mathlib.Core.List.{List, [], ◌∷◌, ◌++◌}
use mathlib.Core.Logic.{⊎_elim}
use Prim.Native.Nat.{ℕ, zero, suc}
use Rattle.laws.specs.Choice.{pick}
use Rattle.laws.specs.Joined.{joined}
use Rattle.model.specs.Kinds.{Refusal}
use Rattle.model.specs.Rules.{Rule, first_broken, FirstOffence}
use Rattle.model.proofs.Rules.{never}

-- each rule's refusal is of a kind
unfoldable pub EachRefuses : (Refusal → Type 0) → List Rule → Type 0
EachRefuses kind [] = Unit
EachRefuses kind (r ∷ rules) = kind r.refusal × EachRefuses kind rules

module _ (kind : Refusal → Type 0) where
  pub each_append : (a b : List Rule) → EachRefuses kind a → EachRefuses kind b → EachRefuses kind (a ++ b)
  unfolding EachRefuses
  each_append [] b p q = q
  each_append (r ∷ a) b p q = (p.0, each_append a b p.1 q)

  pub each_joined : (f : ℕ → List Rule) (n : ℕ) → ((i : ℕ) → EachRefuses kind (f i)) → EachRefuses kind (joined f n)
  unfolding joined EachRefuses
  each_joined f zero each = tt
  each_joined f (suc n) each = each_append (joined f n) (f n) (each_joined f n each) (each n)

  pub refused_by : (count : ℕ) (rules : List Rule) (refusal : Refusal) → EachRefuses kind rules → first_broken count rules ≡ Err refusal → kind refusal
  unfolding first_broken EachRefuses
  refused_by count [] refusal each e = never (sym e)
  refused_by count (r ∷ rules) refusal each e = go (λ f. refused_by count rules refusal each.1 f) r.fact.test e
    where
      go : (first_broken count rules ≡ Err refusal → kind refusal) → (b : Bool) → pick b (first_broken count rules) (Err r.refusal) ≡ Err refusal → kind refusal
      go rest true f = rest f
      go rest false f = subst kind (cc f) each.0

  pub offence_of : (rules : List Rule) (refusal : Refusal) → EachRefuses kind rules → FirstOffence rules refusal → kind refusal
  unfolding EachRefuses FirstOffence
  offence_of [] refusal each offence = absurd offence
  offence_of (r ∷ rules) refusal each offence =
      ⊎_elim
      (λ (first : (r.fact.says → ⊥) × (r.refusal ≡ refusal)). subst kind first.1 each.0)
      (λ (later : r.fact.says × FirstOffence rules refusal). offence_of rules refusal each.1 later.1)
      offence
