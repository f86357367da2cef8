-- The build that first fit records: its ranks and responses are those of the placing that it was recorded from.
use Rattle.std.specs.Prelude.{Result, Ok, Err}
use mathlib.Core.Path.{◌≡◌, refl, sym, ap, ap₂, ◌∙◌, subst}
use mathlib.Core.List.{List}
use mathlib.Core.Logic.{◌⊎◌, inl, inr}
use Prim.Native.Nat.{ℕ, ◌≤◌, ◌<◌}
use lib.Dec.{eqb}
use Rattle.laws.specs.Joined.{filled}
use Rattle.laws.proofs.Filled.{filled_in, filled_past}
use Rattle.model.specs.declared.order.Order.{Order}
use Rattle.model.specs.declared.build.Member.{Member}
use Rattle.model.specs.declared.build.Build.{Build}
use Rattle.model.specs.declared.answer.Refusal.{Refusal}
use Rattle.model.specs.declared.answer.Refusal.TheVariants.{OfCall}
use Rattle.model.specs.declared.answer.CallCause.TheVariants.{FirstFit}
use Rattle.model.specs.Limits.{most_tasks, zero_member, member_of, home_of}
use Rattle.model.specs.Rules.{WithinLimits}
use Rattle.demand.specs.Priority.{members_of}
use Rattle.demand.specs.Test.{response_of}
use Rattle.demand.proofs.Membership.{rank_same, verdict_same}
use Rattle.turns.specs.Turns.{home_at}
use Rattle.fitting.specs.declared.Placing.{Placing}
use Rattle.fitting.specs.Steps.{Outcome, going_on, refusing, told, living_in, first_fit}
use Rattle.fitting.specs.Claims.{Placed, RefusedIn}
use Rattle.fitting.proofs.Claims.{refuses, one_of_two, first_fit_places}
use Rattle.fitting.proofs.Turning.{refused_says}
use Rattle.fit.specs.Recorded.{recorded_as, build_of, recorded, fitted_of}
use Rattle.fit.specs.Claims.{Built, FittedIsBuilt, FittedIsRefused, RefusedIsFitted}

module _ (o : Order) where
  -- a build of a placing, by its fields
  pub member_in : (s : Placing) (i : ℕ) → i < o.tasks → member_of (build_of o s) i ≡ recorded_as o s.homes i
  unfolding build_of
  member_in s i l = filled_in (recorded_as o s.homes) zero_member most_tasks o.tasks i l

  pub member_past : (s : Placing) (i : ℕ) → o.tasks ≤ i → member_of (build_of o s) i ≡ zero_member
  unfolding build_of
  member_past s i l = filled_past (recorded_as o s.homes) zero_member most_tasks o.tasks i l

  pub fitted_done : (s : Placing) → first_fit o ≡ going_on s → fitted_of o ≡ Ok (build_of o s)
  unfolding fitted_of recorded
  fitted_done s e = ap (λ (x : Outcome). recorded o (told x)) e

  pub fitted_refused : (s : Placing) (i : ℕ) → first_fit o ≡ refusing s i → fitted_of o ≡ Err (OfCall (FirstFit i))
  unfolding fitted_of recorded
  fitted_refused s i e = ap (λ (x : Outcome). recorded o (told x)) e

  -- by the answer of the turns
  module _ (r : Result Placing Refusal) (is : r ≡ told (first_fit o)) where
    pub recorded_refused : (cause : Refusal) → r ≡ Err cause → Err cause ≡ fitted_of o
    unfolding fitted_of recorded
    recorded_refused cause e = ap (recorded o) (sym e ∙ is)

    pub recorded_done : (s : Placing) (members : List Member) → r ≡ Ok s → members ≡ filled (recorded_as o s.homes) zero_member most_tasks o.tasks
        → Ok (record { processors = o.processors; tasks = o.tasks; partitions = s.opened; places = s.places; members = members }) ≡ fitted_of o
    unfolding fitted_of recorded build_of
    recorded_done s members e f =
        ap (λ (xs : List Member). Ok (record { processors = o.processors; tasks = o.tasks; partitions = s.opened; places = s.places; members = xs })) f
        ∙ ap (recorded o) (sym e ∙ is)

module _ (o : Order) (limits : WithinLimits o) where
  -- the build of a placing of all tasks
  pub built : (s : Placing) → first_fit o ≡ going_on s → Built o (build_of o s)
  unfolding build_of recorded_as living_in members_of
  built s e =
      record {
        processors = refl;
        tasks = refl;
        placed = (s, (home, all));
        ranks = λ i l. ap (λ (x : Member). x.rank) (member_in o s i l) ∙ sym (rank_same o (members_of b (home_of b i)) (living_in s.homes (home_at s.homes i)) i (same i l));
        responses = λ i l.
            (let passes = all.passes i l in
            let worst : (member_of b i).response ≡ passes.0 = ap (λ (x : Member). x.response) (member_in o s i l) ∙ ap response_of passes.1 in
            verdict_same o (members_of b (home_of b i)) (living_in s.homes (home_at s.homes i)) i (same i l) ∙ passes.1 ∙ ap Ok (sym worst));
        zero_past = λ i l. member_past o s i l;
      }
    where
      b : Build
      b = build_of o s

      home : (i : ℕ) → i < o.tasks → home_of b i ≡ home_at s.homes i
      home i l = ap (λ (x : Member). x.partition) (member_in o s i l)

      same : (i : ℕ) → i < o.tasks → (j : ℕ) → j < o.tasks → members_of b (home_of b i) j ≡ living_in s.homes (home_at s.homes i) j
      same i l j m = ap₂ (λ (x y : ℕ). eqb x y) (home j m) (home i l)

      all : Placed o s.homes s.places s.opened
      all = first_fit_places o s limits e

pub fitted_is_built : FittedIsBuilt
fitted_is_built o b limits e = go (one_of_two o limits)
  where
    go : ((s : Placing) × (first_fit o ≡ going_on s)) ⊎ ((s : Placing) × ((i : ℕ) × (first_fit o ≡ refusing s i))) → Built o b
    go (inl (s, f)) = let same : build_of o s ≡ b = cc (sym (fitted_done o s f) ∙ e) in subst (Built o) same (built o limits s f)
    go (inr (s, (i, f))) = absurd (cc (sym e ∙ fitted_refused o s i f))

pub fitted_is_refused : FittedIsRefused
fitted_is_refused o cause limits e = go (one_of_two o limits)
  where
    go : ((s : Placing) × (first_fit o ≡ going_on s)) ⊎ ((s : Placing) × ((i : ℕ) × (first_fit o ≡ refusing s i))) →
        (s : Placing) × ((i : ℕ) × (cause ≡ OfCall (FirstFit i)) × RefusedIn o s i)
    go (inl (s, f)) = absurd (cc (sym (fitted_done o s f) ∙ e))
    go (inr (s, (i, f))) = (s, (i, cc (sym e ∙ fitted_refused o s i f), refuses o limits s i f))

pub refused_is_fitted : RefusedIsFitted
refused_is_fitted o s i limits is = fitted_refused o s i (refused_says o limits s i is)
