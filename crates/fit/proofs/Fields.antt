-- The numbers of the build fit their fields.
use Rattle.std.specs.Prelude.{Result}
use mathlib.Core.Path.{◌≡◌, sym, subst}
use mathlib.Core.Logic.{◌⊎◌, inl, inr}
use Prim.Native.Nat.{ℕ, ◌<◌}
use native.Mathlib.Omega.{arith}
use Rattle.model.specs.declared.order.Order.{Order}
use Rattle.model.specs.declared.answer.Refusal.{Refusal}
use Rattle.model.specs.declared.build.Build.{Build}
use Rattle.model.specs.Limits.{empty_build, member_of, home_of}
use Rattle.model.specs.Processors.{volume_of}
use Rattle.model.specs.Rules.{WithinLimits}
use Rattle.build.specs.Build.{FieldsFit}
use Rattle.demand.specs.Priority.{members_of}
use Rattle.demand.proofs.Priority.{rank_less}
use Rattle.demand.proofs.Meaning.{every_verdict_means}
use Rattle.fitting.specs.declared.Placing.{Placing}
use Rattle.fitting.specs.Steps.{going_on, refusing, first_fit}
use Rattle.fitting.proofs.Claims.{one_of_two}
use Rattle.fit.specs.Recorded.{fitted_of, build_of, build_in}
use Rattle.fit.specs.Claims.{Built, FittedFitsFields}
use Rattle.fit.proofs.Built.{built, fitted_done, fitted_refused}

pub built_fits : (o : Order) (b : Build) → WithinLimits o → Built o b → FieldsFit b
unfolding volume_of
built_fits o b limits is =
    record {
      processors = omega (arith, is.processors, limits.processors);
      tasks = omega (arith, is.tasks, limits.tasks);
      partitions = omega (arith, is.placed.1.1.few, limits.tasks);
      each_place = λ p l.
          (let place = is.placed.1.1.inside p l in
          (omega (arith, place, limits.processors), (omega (arith, place, is.placed.1.1.volume_least p l, limits.processors), (omega arith, tt))));
      each_member = λ i l.
          (let mine : i < o.tasks = omega (arith, is.tasks) in
          let task = limits.each i mine in
          let passing = ((every_verdict_means o (members_of b (home_of b i)) i limits mine).passes (member_of b i).response).0 (is.responses i mine) in (
            omega (arith, is.placed.1.0 i mine, is.placed.1.1.in_one i mine, is.placed.1.1.few, limits.tasks),
            (
              omega (arith, is.ranks i mine, rank_less o (members_of b (home_of b i)) i mine, limits.tasks),
              (omega (arith, passing.in_time_lem, task.deadline_in.1, task.period_in.1), (omega arith, tt)),
            ),
          ));
    }

-- so do those of an empty one
empty_fits : FieldsFit empty_build
empty_fits =
    record {
      processors = omega arith;
      tasks = omega arith;
      partitions = omega arith;
      each_place = λ p l. absurd (omega arith);
      each_member = λ i l. absurd (omega arith);
    }

pub fitted_fits_fields : FittedFitsFields
fitted_fits_fields o limits = go (one_of_two o limits)
  where
    go : ((s : Placing) × (first_fit o ≡ going_on s)) ⊎ ((s : Placing) × ((i : ℕ) × (first_fit o ≡ refusing s i))) → FieldsFit (build_in (fitted_of o))
    go (inl (s, e)) = subst (λ (x : Result Build Refusal). FieldsFit (build_in x)) (sym (fitted_done o s e)) (built_fits o (build_of o s) limits (built o limits s e))
    go (inr (s, (i, e))) = subst (λ (x : Result Build Refusal). FieldsFit (build_in x)) (sym (fitted_refused o s i e)) empty_fits
