-- The pattern is legal, and all of it comes by the tick at which its last job starts.
use Prim.Native.Nat.{ℕ, suc, ◌+◌, ◌*◌, ◌≤◌, ◌<◌}
use mathlib.Core.Path.{◌≡◌, refl}
use mathlib.Core.Bool.{Bool, true, false, ◌||◌}
use native.Mathlib.Omega.{arith}
use lib.Dec.{eqb}
use borrow.Author.Tests.{eqb-true}
use Rattle.laws.specs.Choice.{pick}
use Rattle.laws.proofs.Every.{clash}
use Rattle.model.specs.declared.order.Order.{Order}
use Rattle.demand.specs.Priority.{Members, higher}
use Rattle.demand.specs.Releases.{period_of}
use Rattle.demand.specs.Test.{start_demand}
use Rattle.demand.proofs.Demands.{job_of}
use Rattle.demand.proofs.FirstMet.{met_one}
use Rattle.comings.specs.Listed.{ComeBefore}
use Rattle.comings.proofs.Script.{script_is_pattern, legal_as_script}
use Rattle.comings.proofs.Comings.{comings_make_scripts}
use Rattle.critical.specs.Pattern.{blocks, begin, comes_from, comes_up_to, critical_comings, critical_pattern}
use Rattle.critical.specs.Claims.{IsMember, JobInWindow, CriticalIsLegal}
use Rattle.critical.proofs.Counts.{own_from, own_up_to, higher_from, higher-up_to}

module _ (o : Order) (member : Members) (i q w : ℕ) (of : IsMember o member i) (job : JobInWindow o member i q w) where
  -- a job of the window starts at its release or later
  pub not_before_release : q * period_of o i ≤ w
  not_before_release =
      let j = job_of o member i of.limits of.known job.size q job.window job.inside in
      omega (arith, j.release, met_one (start_demand o member i q) 0 j.at w j.is job.starts)

  come_before : ComeBefore o (critical_comings o member i q w) (suc (begin o member i + w))
  unfolding comes_from comes_up_to
  come_before = record { some = λ k known part. some k (eqb k i) (higher o member i k) (blocks o member i k) refl refl refl part; early = λ k known part. early k (eqb k i) (higher o member i k) }
    where
      some : (k : ℕ) (own above it : Bool) → eqb k i ≡ own → higher o member i k ≡ above → blocks o member i k ≡ it → (own || (above || it)) ≡ true
          → comes_from o member i q w k ≤ comes_up_to o member i q w k
      some k true above it e e' e'' part = rw (eqb-true k i e) (omega (arith, own_from o member i q w of, own_up_to o member i q w of))
      some k false true it e e' e'' part = omega (arith, higher_from o member i q w of k e', higher-up_to o member i q w of k e')
      some k false false true e e' e'' part = rw e'' (omega arith)
      some k false false false e e' e'' part = clash part

      early : (k : ℕ) (own above : Bool) → pick own (begin o member i + q * period_of o i) (pick above (begin o member i + w) 0) < suc (begin o member i + w)
      early k true above = omega (arith, not_before_release)
      early k false true = omega arith
      early k false false = omega arith

pub critical_is_legal : CriticalIsLegal
critical_is_legal o member i q w of job =
    let script = comings_make_scripts o (critical_comings o member i q w) (suc (begin o member i + w)) of.limits (come_before o member i q w of job) in
    record {
      pattern = script.legal;
      script = legal_as_script o (critical_pattern o member i q w) (suc (begin o member i + w)) script.legal;
      ends = script.ends;
      same = script_is_pattern (critical_pattern o member i q w) (suc (begin o member i + w)) script.ends;
    }
