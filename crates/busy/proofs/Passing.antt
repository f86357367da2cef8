-- From the response test's verdict to every job of the machine.
use Prim.Native.Nat.{ℕ, ◌+◌, ◌*◌, ◌≤◌, ◌<◌}
use mathlib.Core.Path.{◌≡◌, refl}
use mathlib.Core.Bool.{true}
use native.Mathlib.Omega.{arith}
use Rattle.model.specs.declared.order.Order.{Order}
use Rattle.model.specs.Limits.{home_of}
use Rattle.model.specs.Rules.{WithinLimits}
use Rattle.demand.specs.Priority.{Members, members_of, higher}
use Rattle.demand.specs.Releases.{period_of, cost_of}
use Rattle.demand.specs.Test.{blocking, higher_work, start_demand}
use Rattle.demand.specs.Meaning.{IsWindow, IsStart, IsPassing}
use Rattle.demand.specs.Over.{window_over}
use Rattle.demand.proofs.Demands.{window_over_lem}
use Rattle.demand.proofs.Meaning.{every_verdict_means}
use Rattle.machine.specs.Step.{Pattern, Ends}
use Rattle.machine.specs.Pattern.{LegalPattern, record_of, pattern_of}
use Rattle.machine.proofs.Work.{theirs, theirs_of, serves}
use Rattle.machine.proofs.Once.{pending}
use Rattle.machine.proofs.Isolation.{home_member}
use Rattle.machine.proofs.Script.{legal_script_is_legal, record_released}
use Rattle.busy.specs.Window.{Tested}
use Rattle.busy.specs.Passing.{FinishesInTime, PassingIsInTime, RecordsAreInTime}
use Rattle.busy.proofs.Window.{busy_window}
use Rattle.busy.proofs.Arrivals.{most, members_legal, short, arrivals}
use Rattle.busy.proofs.Service.{carried, service}
use Rattle.busy.proofs.Ends.{ends_in_time}

module _ (o : Order) (member : Members) (i : ℕ) (limits : WithinLimits o) (known : i < o.tasks) where
  -- every job of a window of this size has a start that keeps to a response
  abbrev pub StartsWithin : (size response : ℕ) → Type 0
  StartsWithin size response = (q : ℕ) → q * period_of o i < size → (w : ℕ) × (IsStart o member i q w) × (w + cost_of o i ≤ q * period_of o i + response)

  -- the response test's words are the theory's
  tested : (size response : ℕ) → IsWindow o member i size → StartsWithin size response
      → Tested (higher o member i) i o.tasks (blocking o member i) (most o) (period_of o i) (cost_of o i) 0 response
  unfolding window_over higher_work start_demand
  tested size response window starts =
      record {
        window = size;
        from_1 = window.from;
        closes = omega (arith, window.met, window_over_lem o member i limits known size window.from);
        starts = λ q inside. (let r = starts q (omega arith) in (r.0, omega (arith, r.1.met), r.2));
      }

  module _ (mine : member i ≡ true) (releases : Pattern) (legal : LegalPattern o releases) where
    theirs_legal : LegalPattern o (theirs o member releases)
    theirs_legal = members_legal o member releases legal

    theirs_short : (t k : ℕ) → theirs o member releases t k ≤ cost_of o k
    theirs_short = short o limits (theirs o member releases) theirs_legal

    -- every job finishes within a response that all starts keep to
    pub finishes_within : (size response : ℕ) → IsWindow o member i size → StartsWithin size response → (a : ℕ) → 0 < releases a i
        → (finish : ℕ) × (a < finish) × (finish ≤ a + response) × Ends o member releases i a finish
    finishes_within size response window starts a job =
        let here : 0 < theirs o member releases a i = omega (arith, theirs_of o member releases a i mine) in
        ends_in_time o member releases i a here (theirs_short a i)
        (busy_window (higher o member i) i o.tasks (blocking o member i) (most o) (period_of o i) (cost_of o i) 0 response
        (theirs o member releases) (pending o member releases) (serves o member releases) (carried o member releases i) (λ x. x)
        (service o member releases i known theirs_short) (arrivals o limits (theirs o member releases) theirs_legal i) (tested size response window starts) a here)

    in_time_lem : (response : ℕ) → IsPassing o member i response → (a : ℕ) → 0 < releases a i → FinishesInTime o member releases i a response
    in_time_lem response p a job =
        let f = finishes_within p.size response p.window starts a job in
        record {
          finish = f.0;
          finishes = f.3;
          after = f.1;
          in_response = f.2;
          in_deadline = omega (arith, f.2, p.in_time_lem);
        }
      where
        starts : StartsWithin p.size response
        starts q inside = let r = p.each q inside in (r.1.start, r.1.start_is, omega (arith, r.1.response_is, r.2))

pub passing_is_in_time : PassingIsInTime
passing_is_in_time o member i response limits known mine verdict_is releases legal =
    in_time_lem o member i limits known mine releases legal response (((every_verdict_means o member i limits known).passes response).0 verdict_is)

pub records_are_in_time : RecordsAreInTime
records_are_in_time o b script limits legal i response below verdict_is =
    let task = (record_of script i).task in
    passing_is_in_time o (members_of b (home_of b task)) task response limits (legal.known i below) (home_member b (home_of b task) task refl) verdict_is
    (pattern_of script) (legal_script_is_legal o script legal).legal (record_of script i).tick (record_released o script legal i below)
