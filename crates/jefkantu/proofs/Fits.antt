-- An answer of rules in turn fits the word, where the place of each rule's refusal does.
use Rattle.std.specs.Prelude.{Err}
use mathlib.Core.Path.{◌≡◌, refl, subst}
use mathlib.Core.Bool.{Bool, true, false}
use mathlib.Core.List.{List, [], ◌∷◌, ◌++◌, append-nil}
use Prim.Native.Nat.{ℕ, zero, suc, ◌<◌}
use native.Mathlib.Omega.{arith}
use Rattle.laws.specs.Choice.{pick}
use Rattle.laws.specs.Joined.{joined}
use Rattle.model.specs.Answer.{cause_place, answer_place, answer_count}
use Rattle.model.specs.Rules.{Rule, first_broken}
use Rattle.model.proofs.Rules.{AllPass}
use Rattle.jefkantu.specs.Word.{FitsWord}

-- the place of each rule's refusal fits
unfoldable pub PlacesFit : List Rule → Type 0
PlacesFit [] = Unit
PlacesFit (r ∷ rules) = (cause_place r.refusal < 65_536) × PlacesFit rules

pub places_append : (a b : List Rule) → PlacesFit a → PlacesFit b → PlacesFit (a ++ b)
unfolding PlacesFit
places_append [] b p q = q
places_append (r ∷ a) b p q = (p.0, places_append a b p.1 q)

pub places_joined : (f : ℕ → List Rule) (n : ℕ) → ((i : ℕ) → i < n → PlacesFit (f i)) → PlacesFit (joined f n)
unfolding PlacesFit joined
places_joined f zero each = tt
places_joined f (suc n) each = places_append (joined f n) (f n) (places_joined f n (λ i l. each i (omega arith))) (each n (omega arith))

-- an answer of rules in turn fits the word, where those after the first part fit once the first part holds
module _ (count : ℕ) where
  pub answer_fits : (a b : List Rule) → PlacesFit a → (AllPass a → FitsWord (first_broken count b)) → FitsWord (first_broken count (a ++ b))
  unfolding PlacesFit first_broken AllPass answer_place answer_count
  answer_fits [] b places rest = rest tt
  answer_fits (r ∷ a) b places rest = go (λ (h : r.fact.test ≡ true). answer_fits a b places.1 (λ all. rest (h, all))) r.fact.test refl
    where
      go : (r.fact.test ≡ true → FitsWord (first_broken count (a ++ b))) → (h : Bool) → r.fact.test ≡ h → FitsWord (pick h (first_broken count (a ++ b)) (Err r.refusal))
      go on true e = on e
      go on false e = record { place = places.0; count = omega arith }

  pub done_fits : count < 4_294_967_296 → FitsWord (first_broken count [])
  unfolding first_broken answer_place answer_count
  done_fits few = record { place = omega arith; count = few }

pub alone_fits : (count : ℕ) (rules : List Rule) → PlacesFit rules → count < 4_294_967_296 → FitsWord (first_broken count rules)
alone_fits count rules places few = subst (λ (r : List Rule). FitsWord (first_broken count r)) (append-nil rules) (answer_fits count rules [] places (λ all. done_fits count few))
