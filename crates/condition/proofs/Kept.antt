-- Condition 3, proved: from the check's rules to the machine's and the theory's premises.
use Prim.Native.Nat.{ℕ, ◌<◌}
use mathlib.Core.Path.{◌≡◌, refl, sym}
use native.Mathlib.Decide.{dec_lt}
use native.Mathlib.Omega.{arith}
use Rattle.model.specs.declared.order.Order.{Order}
use Rattle.model.specs.declared.build.Build.{Build}
use Rattle.model.specs.Limits.{place_of, home_of}
use Rattle.model.specs.Processors.{processor_of, OfPartition}
use Rattle.order.specs.Order.{order_at}
use Rattle.build.specs.Build.{build_at}
use Rattle.demand.specs.Priority.{members_of}
use Rattle.machine.specs.Step.{Pattern}
use Rattle.machine.specs.Pattern.{LegalPattern}
use Rattle.machine.specs.Box.{Finishes}
use Rattle.machine.specs.Claims.{WideAndApart}
use Rattle.machine.proofs.Box.{runs_own_jobs, occupies_own, serves_one, occupies_width}
use Rattle.machine.proofs.Isolation.{home_member}
use Rattle.busy.proofs.Passing.{passing_is_in_time}
use Rattle.inspect.specs.Claims.{AcceptedBuild}
use Rattle.inspect.proofs.Claims.{done_accepts}
use Rattle.condition.specs.Kept.{OnEnough, Kept, AcceptedIsKept}

module _ (o : Order) (b : Build) (accepted : AcceptedBuild o b) where
  -- rule 24, of two partitions in either order
  meets : (p q x : ℕ) → p < b.partitions → q < b.partitions → OfPartition (place_of b p) x → OfPartition (place_of b q) x → p ≡ q
  meets p q x under under' h g = go (dec_lt p q) (dec_lt q p)
    where
      go : Dec (p < q) → Dec (q < p) → p ≡ q
      go (yes l) d = absurd ((accepted.places q under').apart p l (x, h, g))
      go (no l) (yes m) = absurd ((accepted.places p under).apart q m (x, g, h))
      go (no l) (no m) = omega arith

  wide_and_apart : WideAndApart o b
  wide_and_apart =
      record {
        wide = λ task known. (accepted.widths task known).wide;
        apart = λ one other x l m h g. meets (home_of b one) (home_of b other) x (accepted.widths one l).there (accepted.widths other m).there h g;
      }

  on_enough : (releases : Pattern) (task : ℕ) → task < o.tasks → OnEnough o b releases task
  unfolding processor_of
  on_enough releases task known =
      record {
        enough = λ k below. (occupies_width o b task k below).0;
        different = λ k l under under' e. omega arith;
        of_its_own = λ x on. occupies_own o b wide_and_apart task x known on;
        below-M = λ x on. (accepted.places (home_of b task) (accepted.widths task known).there).inside x (occupies_own o b wide_and_apart task x known on);
      }

  kept : (releases : Pattern) → LegalPattern o releases → Kept o b releases
  unfolding Finishes
  kept releases legal =
      record {
        one_job = serves_one o b wide_and_apart releases;
        own_partition = λ tick task release runs.
            (let own = runs_own_jobs o b releases tick task release runs in
            (sym own.its_partition, on_enough releases task own.known));
        in_time_lem = λ task release some.
            (let known = legal.known release task some in
            let f = passing_is_in_time o (members_of b (home_of b task)) task _ accepted.limits known (home_member b (home_of b task) task refl) (accepted.passing task known) releases legal release some in
            record { finish = f.finish; finishes = f.finishes; by_deadline = omega (arith, f.in_deadline); within-response = omega (arith, f.in_response) });
      }

pub accepted_is_kept : AcceptedIsKept
accepted_is_kept order build done releases legal = kept (order_at order) (build_at build) (done_accepts order build done) releases legal
