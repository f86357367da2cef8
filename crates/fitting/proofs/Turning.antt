-- Laws of the turns: each goes on with one task more placed, or refuses the task whose turn it is; n turns place all.
use Rattle.std.specs.Prelude.{Ok, Err, Option, Some, None}
use mathlib.Core.Path.{◌≡◌, refl, sym, ap, ◌∙◌, subst}
use mathlib.Core.Bool.{false}
use Prim.Native.Nat.{ℕ, zero, suc, ◌+◌, ◌-◌, ◌≤◌, ◌<◌}
use native.Mathlib.Decide.{dec_le}
use native.Mathlib.Numerals.{add-one}
use native.Mathlib.Omega.{arith}
use borrow.Author.Tests.{le-leb, lt-leb}
use Rattle.laws.proofs.Every.{clash}
use Rattle.search.proofs.First.{Firstly, first_missing}
use Rattle.model.specs.Rules.{WithinLimits}
use Rattle.turns.specs.Turns.{width_of, next_task}
use Rattle.turns.specs.Claims.{IsNext}
use Rattle.turns.proofs.Turns.{next_is, is_next, none_next}
use Rattle.fitting.specs.Kinds.{Order, Refusal, Placing}
use Rattle.fitting.specs.Steps.{nothing_placed, put, open_next, Outcome, going_on, refusing, told, accepts, lowest_accepting, opening, settled, after_turn, turn_taken, unless_refused, turns_taken, first_fit}
use Rattle.fitting.specs.Claims.{RefusedIn}
use Rattle.fitting.specs.Standing.{Stands}
use Rattle.fitting.proofs.Put.{one_waits}
use Rattle.fitting.proofs.Accepts.{lowest_says}
use Rattle.fitting.proofs.Standing.{stands_accepted, stands_opened}

-- an answer that goes on is of an outcome that does
pub told_on : (outcome : Outcome) (t : Placing) → told outcome ≡ Ok t → outcome ≡ going_on t
told_on (Ok s) t e = let same : s ≡ t = cc e in ap going_on same
told_on (Err at) t e = absurd (cc e)

module _ (o : Order) where
  pub steps_none : (s : Placing) → turns_taken o 0 s ≡ going_on s
  unfolding turns_taken
  steps_none s = refl

  pub steps_on : (k : ℕ) (s t : Placing) → turn_taken o s ≡ going_on t → turns_taken o (suc k) s ≡ turns_taken o k t
  unfolding turns_taken unless_refused
  steps_on k s t e = ap (λ (outcome : Outcome). unless_refused outcome (turns_taken o k)) e

  pub steps_stop : (k i : ℕ) (s t : Placing) → turn_taken o s ≡ refusing t i → turns_taken o (suc k) s ≡ refusing t i
  unfolding turns_taken unless_refused
  steps_stop k i s t e = ap (λ (outcome : Outcome). unless_refused outcome (turns_taken o k)) e

  -- a refusal ends the steps
  pub steps_end : (k : ℕ) (s : Placing) (cause : Refusal) → told (turn_taken o s) ≡ Err cause → told (turns_taken o (suc k) s) ≡ Err cause
  unfolding turns_taken unless_refused
  steps_end k s cause = go (turn_taken o s)
    where
      go : (outcome : Outcome) → told outcome ≡ Err cause → told (unless_refused outcome (turns_taken o k)) ≡ Err cause
      go (Ok t) e = absurd (cc e)
      go (Err at) e = e

  pub step-idle : (s : Placing) → next_task o s.homes o.tasks ≡ None → turn_taken o s ≡ going_on s
  unfolding turn_taken
  step-idle s e = ap (after_turn o s) e

  pub opening_new : (s : Placing) (i : ℕ) → width_of o i ≤ o.processors - s.used → opening o s i ≡ going_on (put (open_next s (width_of o i)) i s.opened)
  unfolding opening
  opening_new s i l = rw (le-leb (width_of o i) (o.processors - s.used) l)

  pub opening_none : (s : Placing) (i : ℕ) → o.processors - s.used < width_of o i → opening o s i ≡ refusing s i
  unfolding opening
  opening_none s i l = rw (lt-leb (width_of o i) (o.processors - s.used) l)

  module _ (s : Placing) (i : ℕ) (turn : next_task o s.homes o.tasks ≡ Some i) where
    -- a step is the turn of the next task, settled
    pub step_next : turn_taken o s ≡ settled o s i (lowest_accepting o s i)
    unfolding turn_taken
    step_next = ap (after_turn o s) turn

    pub step-put : (k : ℕ) → lowest_accepting o s i ≡ Some k → turn_taken o s ≡ going_on (put s i k)
    step-put k e = step_next ∙ rw e

    pub step_open : lowest_accepting o s i ≡ None → width_of o i ≤ o.processors - s.used → turn_taken o s ≡ going_on (put (open_next s (width_of o i)) i s.opened)
    step_open e l = step_next ∙ (ap (settled o s i) e ∙ opening_new s i l)

    pub step_refuse : lowest_accepting o s i ≡ None → o.processors - s.used < width_of o i → turn_taken o s ≡ refusing s i
    step_refuse e l = step_next ∙ (ap (settled o s i) e ∙ opening_none s i l)

  -- one step more at the end
  pub steps_more : (k : ℕ) (r s t : Placing) → turns_taken o k r ≡ going_on s → turn_taken o s ≡ going_on t → turns_taken o (suc k) r ≡ going_on t
  unfolding turns_taken unless_refused
  steps_more zero r s t e f = let same : r ≡ s = cc e in steps_on 0 r t (ap (turn_taken o) same ∙ f)
  steps_more (suc k) r s t e f = go (λ (x : Placing) (p : turns_taken o k x ≡ going_on s). steps_more k x s t p f) (turn_taken o r) e
    where
      go : ((x : Placing) → turns_taken o k x ≡ going_on s → turns_taken o (suc k) x ≡ going_on t) → (outcome : Outcome) →
          unless_refused outcome (turns_taken o k) ≡ going_on s → unless_refused outcome (turns_taken o (suc k)) ≡ going_on t
      go ih (Ok u) q = ih u q
      go ih (Err at) q = absurd (cc q)

  -- a refusal after so many turns is that of all turns
  turns_then : (k rest i : ℕ) (r s : Placing) → turns_taken o k r ≡ going_on s → turn_taken o s ≡ refusing s i → turns_taken o (k + suc rest) r ≡ refusing s i
  unfolding turns_taken unless_refused
  turns_then zero rest i r s e f =
      let same : r ≡ s = cc e in
      let first : 0 + suc rest ≡ suc rest = omega arith in
      ap (λ (x : ℕ). turns_taken o x r) first ∙ steps_stop rest i r s (ap (turn_taken o) same ∙ f)
  turns_then (suc k) rest i r s e f =
      let more : suc k + suc rest ≡ suc (k + suc rest) = omega arith in
      ap (λ (x : ℕ). turns_taken o x r) more ∙ go (λ (x : Placing) (p : turns_taken o k x ≡ going_on s). turns_then k rest i x s p f) (turn_taken o r) e
    where
      go : ((x : Placing) → turns_taken o k x ≡ going_on s → turns_taken o (k + suc rest) x ≡ refusing s i) → (outcome : Outcome) →
          unless_refused outcome (turns_taken o k) ≡ going_on s → unless_refused outcome (turns_taken o (k + suc rest)) ≡ refusing s i
      go ih (Ok u) q = ih u q
      go ih (Err at) q = absurd (cc q)

module _ (o : Order) (limits : WithinLimits o) where
  pub widths : (j : ℕ) → j < o.tasks → 1 ≤ width_of o j
  widths j l = (limits.each j l).width_in.0

  pub refused_says : (s : Placing) (i : ℕ) → RefusedIn o s i → first_fit o ≡ refusing s i
  unfolding first_fit lowest_accepting
  refused_says s i is =
      let k = is.reached.0 in
      let few = is.reached.1 in
      let turn = is_next o s.homes o.tasks i is.next in
      let none = first_missing (accepts o s.homes i) s.opened is.not_taken in
      let stop = step_refuse o s i turn none (omega (arith, is.too_few, widths i is.next.below)) in
      let all : o.tasks ≡ k + suc (o.tasks - (k + 1)) = omega arith in
      ap (λ (x : ℕ). turns_taken o x nothing_placed) all ∙ turns_then o k (o.tasks - (k + 1)) i nothing_placed s is.reached.2 stop

  -- what a turn does to a placing with tasks that wait
  pub data StepCases (placed : ℕ) (s : Placing) : Type 0 where
    went_on : (t : Placing) → Stands o (placed + 1) t → turn_taken o s ≡ going_on t → StepCases placed s
    refused : (i : ℕ) → IsNext o s.homes o.tasks i → ((k : ℕ) → k < s.opened → accepts o s.homes i k ≡ false) →
        o.processors < s.used + width_of o i → turn_taken o s ≡ refusing s i → StepCases placed s

  pub step_cases : (placed : ℕ) (s : Placing) → Stands o placed s → placed < o.tasks → StepCases placed s
  step_cases placed s was early = by_turn (next_task o s.homes o.tasks) refl
    where
      by_place : (i : ℕ) → next_task o s.homes o.tasks ≡ Some i → (f : Option ℕ) → lowest_accepting o s i ≡ f → Firstly (accepts o s.homes i) s.opened f → StepCases placed s
      by_place i turn (Some k) e is =
          went_on (put s i k) (stands_accepted o limits widths placed s was early i (next_is o s.homes o.tasks i turn) k is.below is.holds) (step-put o s i turn k e)
      by_place i turn None e none =
          let next = next_is o s.homes o.tasks i turn in
          elim (dec_le (width_of o i) (o.processors - s.used)) [
            | yes fits ↦
                went_on (put (open_next s (width_of o i)) i s.opened)
                (stands_opened o limits widths placed s was early i next (omega (arith, was.laid.inside)))
                (step_open o s i turn e fits)
            | no short ↦ refused i next none (omega arith) (step_refuse o s i turn e (omega arith))
          ]

      by_turn : (f : Option ℕ) → next_task o s.homes o.tasks ≡ f → StepCases placed s
      by_turn (Some i) turn = by_place i turn (lowest_accepting o s i) refl (lowest_says o s i)
      by_turn None turn =
          let one = one_waits s.homes o.tasks (omega (arith, was.numbered.count)) in
          clash (sym (none_next o s.homes o.tasks turn one.0 one.1) ∙ one.2)

  -- what so many steps end in
  pub data Ends (left : ℕ) (s : Placing) : Type 0 where
    all_placed : (t : Placing) → Stands o o.tasks t → turns_taken o left s ≡ going_on t → Ends left s
    one_refused : (t : Placing) (i : ℕ) → RefusedIn o t i → turns_taken o left s ≡ refusing t i → Ends left s

  pub ends : (left placed : ℕ) (s : Placing) → placed + left ≡ o.tasks → Stands o placed s → turns_taken o placed nothing_placed ≡ going_on s → Ends left s
  ends zero placed s all was reached = all_placed s (subst (λ (k : ℕ). Stands o k s) (omega arith) was) (steps_none o s)
  ends (suc left) placed s all was reached = go (step_cases placed s was (omega arith)) (λ (t : Placing) (p : Stands o (placed + 1) t) (r : turns_taken o (placed + 1) nothing_placed ≡ going_on t). ends left (placed + 1) t (omega arith) p r)
    where
      follow : (t : Placing) → turn_taken o s ≡ going_on t → Ends left t → Ends (suc left) s
      follow t e (all_placed u is p) = all_placed u is (steps_on o left s t e ∙ p)
      follow t e (one_refused u i is p) = one_refused u i is (steps_on o left s t e ∙ p)

      go : StepCases placed s → ((t : Placing) → Stands o (placed + 1) t → turns_taken o (placed + 1) nothing_placed ≡ going_on t → Ends left t) → Ends (suc left) s
      go (went_on t is e) ih = follow t e (ih t is (ap (λ (k : ℕ). turns_taken o k nothing_placed) (add-one placed) ∙ steps_more o placed nothing_placed s t reached e))
      go (refused i next none short e) ih =
          one_refused s i
          (record { reached = (placed, omega arith, reached); next = next; not_taken = none; used_by = was.laid.used_by; too_few = short })
          (steps_stop o left i s s e)
