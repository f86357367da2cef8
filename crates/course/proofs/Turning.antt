-- On to the next event.
use Prim.Native.Nat.{ℕ, suc, ◌+◌, ◌-◌, ◌≤◌, ◌<◌}
use mathlib.Core.Path.{◌≡◌, refl, sym, ap, ◌∙◌, subst}
use mathlib.Core.Bool.{true}
use mathlib.Core.List.{List}
use native.Mathlib.Decide.{dec_lt}
use native.Mathlib.Numerals.{add-one}
use native.Mathlib.Omega.{arith}
use lib.Bits.{bit_or}
use lib.ListN.{length}
use borrow.Author.Tests.{lt-ltb, le-ltb, ltb-true}
use Rattle.model.specs.declared.order.Order.{Order}
use Rattle.model.specs.declared.build.Build.{Build}
use Rattle.model.specs.declared.build.Release.{Release}
use Rattle.model.specs.Limits.{most_records, home_of}
use Rattle.demand.specs.Priority.{members_of}
use Rattle.machine.specs.Step.{Running, free, runs}
use Rattle.machine.specs.Pattern.{record_of, pattern_of}
use Rattle.machine.specs.Box.{Finishes}
use Rattle.machine.proofs.View.{running_before}
use Rattle.machine.proofs.Quiet.{runs_unbroken}
use Rattle.machine.proofs.Once.{runs_own}
use Rattle.machine.proofs.Isolation.{member_home}
use Rattle.machine.proofs.Script.{joins_at_lem}
use Rattle.machine.proofs.Box.{finishes_once}
use Rattle.finish.specs.Finish.{finish_of}
use Rattle.finish.specs.Claims.{Short, FinishesAt, latest}
use Rattle.finish.proofs.Finish.{every_job_finishes}
use Rattle.stepper.specs.declared.Machine.{Machine}
use Rattle.stepper.specs.Lines.{record_task, record_joins}
use Rattle.stepper.specs.Follow.{ShowsRunning, Follows, StartsOne, ReleasedIn, LegalRun, Ready}
use Rattle.stepper.proofs.Lines.{joins_rise}
use Rattle.stepper.proofs.Ready.{key_joins}
use Rattle.course.specs.declared.turns.Gathered.{Gathered}
use Rattle.course.specs.Ahead.{Gathers, GatheredSo}
use Rattle.course.specs.Course.{goes_on, event_of, Turns, Turned}
use Rattle.course.proofs.Passing.{passes_running, passes_free}

-- what runs, by its record
pub record RunsRecord (o : Order) (b : Build) (script : List Release) (p : ℕ) (m : Machine) : Type 0 where
  pub there : m.job < length script
  pub home : home_of b (record_task script m.job) ≡ p
  pub finishes : m.tick + m.left ≡ finish_of o b script m.job
  pub in_time_lem : m.tick + m.left ≤ latest

module _ {o : Order} {b : Build} {script : List Release} (legal_run : LegalRun o b script) (short : Short script) (p : ℕ) (m : Machine) (follows : Follows o b script p m) where
  abbrev running : Running
  running = running_before o (members_of b p) (pattern_of script) m.tick

  -- "It runs unbroken for its own length": its finish tick is known
  pub runs_record : (k a l : ℕ) → running ≡ runs k a l → RunsRecord o b script p m
  unfolding Finishes
  runs_record k a l e =
      let was = subst (ShowsRunning script m) e follows.runs_so in
      let home = member_home b p k (runs_own o (members_of b p) (pattern_of script) m.tick k a l e).0 in
      let ends : running_before o (members_of b p) (pattern_of script) (m.tick + l) ≡ runs k a 0 = runs_unbroken o (members_of b p) (pattern_of script) m.tick l k a l e (omega arith) ∙ ap (runs k a) (omega arith) in
      let here : home_of b (record_task script m.job) ≡ p = ap (home_of b) was.2 ∙ home in
      let at : FinishesAt o b script m.job (m.tick + l) =
      subst (λ (q : ℕ). running_before o (members_of b q) (pattern_of script) (m.tick + l) ≡ runs (record_task script m.job) (record_of script m.job).tick 0) (sym here)
      (ends ∙ ap (λ (x : ℕ). runs x a 0) (sym was.2) ∙ ap (λ (x : ℕ). runs (record_task script m.job) x 0) (sym was.3 ∙ joins_at_lem (record_of script m.job))) in
      let every = every_job_finishes o b script legal_run.legal short m.job was.1 in
      let one = finishes_once o b (pattern_of script) (record_task script m.job) (record_of script m.job).tick (m.tick + l) (finish_of o b script m.job) at every.finishes in
      record { there = was.1; home = here; finishes = omega (arith, was.0, one); in_time_lem = omega (arith, was.0, one, every.in_time_lem) }

  -- a record at work is what runs
  pub job_runs : m.job < most_records → RunsRecord o b script p m
  job_runs some = go running refl
    where
      go : (r : Running) → running ≡ r → RunsRecord o b script p m
      go free e = absurd (omega (arith, (subst (ShowsRunning script m) e follows.runs_so).0))
      go (runs k a l) e = runs_record k a l e

  -- the sum of tick and time left is a 32-bit number
  pub ends_soon : m.tick ≤ latest + 1 → m.tick + m.left < 4_294_967_296
  ends_soon soon = go running refl
    where
      go : (r : Running) → running ≡ r → m.tick + m.left < 4_294_967_296
      go free e = omega (arith, (subst (ShowsRunning script m) e follows.runs_so).1)
      go (runs k a l) e = omega (arith, (runs_record k a l e).in_time_lem)

module _ {m : Machine} {keys durations ranks next after : List ℕ} (so : Turns m keys durations ranks next after) (event : ℕ) (is-event : event ≡ event_of m keys) where
  abbrev state : Running
  state = running_before so.order (members_of so.build so.partition) (pattern_of so.script) m.tick

  -- the event is the end of what runs, or the next joining
  event_runs : (k a l : ℕ) → state ≡ runs k a l → event ≡ m.tick + l
  unfolding event_of
  event_runs k a l e =
      let was = subst (ShowsRunning so.script m) e so.so_far.follows.runs_so in
      is-event ∙ rw (lt-ltb m.job most_records (omega (arith, was.1, so.lined.legal_run.few_records))) (ap (m.tick +◌) was.0)

  is_ahead : state ≡ free → goes_on m ≡ true → m.ahead < most_records
  unfolding goes_on
  is_ahead e on =
      let was = subst (ShowsRunning so.script m) e so.so_far.follows.runs_so in
      ltb-true m.ahead most_records (rw (le-ltb m.job most_records (omega (arith, was.0))) at on)

  event_free : state ≡ free → m.ahead < most_records → event ≡ record_joins so.script m.ahead
  unfolding event_of
  event_free e some =
      let was = subst (ShowsRunning so.script m) e so.so_far.follows.runs_so in
      is-event ∙ rw (le-ltb m.job most_records (omega (arith, was.0))) (key_joins so.lined.legal_run so.lined.laid.held m.ahead (so.so_far.ahead.there some))

  -- no record of the partition joins between the tick and that
  joined_later : m.ahead < most_records → (i : ℕ) → i < length so.script → home_of so.build (record_task so.script i) ≡ so.partition → m.tick ≤ record_joins so.script i
      → record_joins so.script m.ahead ≤ record_joins so.script i
  joined_later some i there home late = go (dec_lt i m.ahead)
    where
      go : Dec (i < m.ahead) → record_joins so.script m.ahead ≤ record_joins so.script i
      go (yes q) = absurd (omega (arith, so.so_far.ahead.before i q there home))
      go (no q) = joins_rise so.lined.legal_run.legal m.ahead i (omega arith) there

  module _ (on : goes_on m ≡ true) where
    pub event_later : m.tick ≤ event
    event_later = go state refl
      where
        go : (r : Running) → state ≡ r → m.tick ≤ event
        go free e = let some = is_ahead e on in omega (arith, event_free e some, so.so_far.ahead.late some)
        go (runs k a l) e = omega (arith, event_runs k a l e)

    pub event_soon : event ≤ latest
    event_soon = go state refl
      where
        go : (r : Running) → state ≡ r → event ≤ latest
        go free e =
            let some = is_ahead e on in
            omega (arith, event_free e some, joins_at_lem (record_of so.script m.ahead), so.short.early m.ahead (so.so_far.ahead.there some))
        go (runs k a l) e =
            omega (arith, event_runs k a l e, (runs_record so.lined.legal_run so.short so.partition m so.so_far.follows k a l e).in_time_lem, (subst (ShowsRunning so.script m) e so.so_far.follows.runs_so).0)

    abbrev pub gathers_before : Gathers keys ranks after m.ahead event
    gathers_before =
        record {
          order = so.order;
          build = so.build;
          script = so.script;
          partition = so.partition;
          tick = m.tick;
          durations = durations;
          next = next;
          lined = so.lined;
          ahead = so.so_far.ahead;
          on = event_later;
        }

    abbrev pub gathers_due : (before : Gathered) → GatheredSo so.build so.script so.partition m.tick event before → Gathers keys ranks after before.ahead (event + 1)
    gathers_due before is =
        record {
          order = so.order;
          build = so.build;
          script = so.script;
          partition = so.partition;
          tick = event;
          durations = durations;
          next = next;
          lined = so.lined;
          ahead = is.rest;
          on = omega arith;
        }

    -- up to the event
    pub passes_so : (before : Gathered) → GatheredSo so.build so.script so.partition m.tick event before → (ahead : ℕ)
        → Follows so.order so.build so.script so.partition (record { tick = event; waiting = bit_or m.waiting before.ranks; oldest = m.oldest; ahead = ahead; job = m.job; left = 0 })
    passes_so before is ahead = go state refl
      where
        Then : ℕ → Type 0
        Then tick = Follows so.order so.build so.script so.partition (record { tick = tick; waiting = bit_or m.waiting before.ranks; oldest = m.oldest; ahead = ahead; job = m.job; left = 0 })

        go : (r : Running) → state ≡ r → Then event
        go free e =
            let some = is_ahead e on in
            let at = event_free e some in
            let same : m.tick + (event - m.tick) ≡ event = omega (arith, event_later) in
            subst Then same
            (passes_free so.lined.legal_run so.partition m so.so_far.follows (event - m.tick) before.ranks ahead e
            (λ i there home late. omega (arith, at, joined_later some i there home late))
            (subst (λ (u : ℕ). ReleasedIn so.build so.script so.partition m.tick u before.ranks) (sym same) is.due))
        go (runs k a l) e =
            subst Then (sym (event_runs k a l e))
            (passes_running so.lined.legal_run so.partition m so.so_far.follows k a l before.ranks ahead e
            (subst (λ (u : ℕ). ReleasedIn so.build so.script so.partition m.tick u before.ranks) (event_runs k a l e) is.due))

    -- the machine at the event
    abbrev pub arrived : (before due : Gathered) → Machine
    arrived before due = record { tick = event; waiting = bit_or m.waiting before.ranks; oldest = m.oldest; ahead = due.ahead; job = m.job; left = 0 }

    module _ (before due : Gathered) (is : GatheredSo so.build so.script so.partition m.tick event before)
        (is_due : GatheredSo so.build so.script so.partition event (event + 1) due) where
      abbrev pub ready : Ready (arrived before due) due.ranks keys durations next
      ready =
          record {
            order = so.order;
            build = so.build;
            script = so.script;
            partition = so.partition;
            legal_run = so.lined.legal_run;
            laid = so.lined.laid;
            follows = passes_so before is due.ahead;
            due = subst (λ (u : ℕ). ReleasedIn so.build so.script so.partition event u due.ranks) (add-one event) is_due.due;
            soon = omega (arith, event_soon);
          }

      pub turned : (r : Machine) → Follows so.order so.build so.script so.partition r → StartsOne so.order so.build so.script so.partition (arrived before due) r
          → r.tick ≡ suc event → r.ahead ≡ due.ahead → Turned so.order so.build so.script so.partition m r
      turned r follows starts tick ahead =
          record {
            so_far = record {
              follows = follows;
              ahead = rw (tick, ahead, ← add-one event) is_due.rest;
              soon = omega (arith, event_soon);
            };
            starts = starts;
            later = omega (arith, event_later);
          }

    -- from what the two gatherings ensure
    module _ (before due : Gathered) (first : (g : Gathers keys ranks after m.ahead event) → GatheredSo g.build g.script g.partition g.tick event before)
        (then : (g : Gathers keys ranks after before.ahead (event + 1)) → GatheredSo g.build g.script g.partition g.tick (event + 1) due) where
      pub is_before : GatheredSo so.build so.script so.partition m.tick event before
      is_before = first gathers_before

      pub is_due : GatheredSo so.build so.script so.partition event (event + 1) due
      is_due = then (gathers_due before is_before)

      abbrev pub ready_so : Ready (arrived before due) due.ranks keys durations next
      ready_so = ready before due is_before is_due

      pub turned_so : (r : Machine) → ((so' : Ready (arrived before due) due.ranks keys durations next)
          → Follows so'.order so'.build so'.script so'.partition r × StartsOne so'.order so'.build so'.script so'.partition (arrived before due) r)
          → r.tick ≡ suc event → r.ahead ≡ due.ahead → Turned so.order so.build so.script so.partition m r
      turned_so r ticks tick ahead = let x = ticks ready_so in turned before due is_before is_due r x.0 x.1 tick ahead
