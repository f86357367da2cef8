-- The finish ticks of a partition's records, written as its jobs start.
use Prim.Native.Nat.{ℕ, ◌+◌, ◌≤◌, ◌<◌}
use mathlib.Core.Path.{◌≡◌, refl, sym, ◌∙◌, subst}
use mathlib.Core.Bool.{false}
use mathlib.Core.List.{List}
use mathlib.Core.Logic.{⊎_elim}
use native.Mathlib.Decide.{dec_lt, ℕ_discrete}
use native.Mathlib.Omega.{arith}
use lib.Dec.{ltb}
use lib.ListN.{length, get_or, set, length-set}
use lib.Seq.{get_or-set_same, get_or-set_other}
use borrow.Author.Tests.{lt-ltb, le-ltb}
use Rattle.laws.specs.Choice.{pick}
use Rattle.laws.proofs.Every.{clash}
use Rattle.model.specs.declared.order.Order.{Order}
use Rattle.model.specs.declared.build.Build.{Build}
use Rattle.model.specs.declared.build.Release.{Release}
use Rattle.model.specs.Limits.{most_records, home_of}
use Rattle.demand.specs.Priority.{members_of}
use Rattle.machine.specs.Step.{Job, Running, free, runs}
use Rattle.machine.specs.Pattern.{pattern_of}
use Rattle.machine.proofs.View.{running_before}
use Rattle.machine.proofs.Quiet.{at_rest}
use Rattle.finish.specs.Finish.{finish_of}
use Rattle.finish.specs.Claims.{Short}
use Rattle.stepper.specs.declared.Machine.{Machine}
use Rattle.stepper.specs.Lines.{record_task, JobsInLine}
use Rattle.stepper.specs.Follow.{oldest_of, ShowsRunning, LegalRun}
use Rattle.course.specs.Course.{goes_on, noted, Courses, Turns, Turned, Begins, FinishesNoted}
use Rattle.course.proofs.Turning.{RunsRecord, job_runs}

-- what has started of partition p is written, and nothing but its own records
pub record NotedSo (o : Order) (b : Build) (script : List Release) (p : ℕ) (m : Machine) (out then : List ℕ) : Type 0 where
  pub places : length then ≡ length out
  pub started : (i : ℕ) → i < length script → home_of b (record_task script i) ≡ p → i < oldest_of b m (record_task script i) → get_or then i 0 ≡ finish_of o b script i
  pub others : (i : ℕ) → (i < length script → home_of b (record_task script i) ≡ p → ⊥) → get_or then i 0 ≡ get_or out i 0

module _ {o : Order} {b : Build} {script : List Release} (legal_run : LegalRun o b script) (short : Short script) (p : ℕ) where
  pub noted_none : (m : Machine) (out : List ℕ)
      → ((i : ℕ) → i < length script → home_of b (record_task script i) ≡ p → i < oldest_of b m (record_task script i) → ⊥) → NotedSo o b script p m out out
  noted_none m out none = record { places = refl; started = λ i there home below. absurd (none i there home below); others = λ i not. refl }

  -- a turn and its note
  pub noted_more : (m r : Machine) (out then : List ℕ) → length script ≤ length out → NotedSo o b script p m out then → Turned o b script p m r → NotedSo o b script p r out (noted r then)
  unfolding noted
  noted_more m r out then room was turn = go (dec_lt r.job most_records)
    where
      go : Dec (r.job < most_records) → NotedSo o b script p r out (pick (ltb r.job most_records) (set then r.job (r.tick + r.left)) then)
      go (no q) =
          rw (le-ltb r.job most_records (omega arith)) (record {
            places = was.places;
            started = λ i there home below. ⊎_elim (was.started i there home) (λ e. absurd (omega (arith, legal_run.few_records))) (turn.starts (record_task script i) i (legal_run.legal.known i there) home there refl below);
            others = was.others;
          })
      go (yes q) =
          rw (lt-ltb r.job most_records q) (record {
            places = length-set then r.job (r.tick + r.left) ∙ was.places;
            started = λ i there home below. started i there home below (ℕ_discrete i r.job);
            others = λ i not. get_or-set_other then r.job i (r.tick + r.left) 0 (λ e. not (rw e run.there) (rw e run.home)) ∙ was.others i not;
          })
        where
          run : RunsRecord o b script p r
          run = job_runs legal_run short p r turn.so_far.follows q

          started : (i : ℕ) → i < length script → home_of b (record_task script i) ≡ p → i < oldest_of b r (record_task script i) → Dec (i ≡ r.job) → get_or (set then r.job (r.tick + r.left)) i 0 ≡ finish_of o b script i
          started i there home below (yes e) =
              subst (λ (x : ℕ). get_or (set then r.job (r.tick + r.left)) x 0 ≡ finish_of o b script x) (sym e)
              (get_or-set_same then r.job (r.tick + r.left) 0 (omega (arith, run.there, was.places)) ∙ run.finishes)
          started i there home below (no n) =
              get_or-set_other then r.job i (r.tick + r.left) 0 n
              ∙ ⊎_elim (was.started i there home) (λ e. absurd (n e)) (turn.starts (record_task script i) i (legal_run.legal.known i there) home there refl below)

  -- at the end all have started
  pub noted_all : (m : Machine) (out then : List ℕ) → Courses o b script p m → goes_on m ≡ false → NotedSo o b script p m out then → FinishesNoted o b script p out then
  unfolding goes_on
  noted_all m out then so_far over was = record { places = was.places; own = λ i there home. was.started i there home (all i there home); others = was.others }
    where
      job_none : m.job < most_records → ⊥
      job_none some = clash (sym over ∙ rw (lt-ltb m.job most_records some))

      ahead_none : most_records ≤ m.ahead
      ahead_none = go (dec_lt m.ahead most_records) (dec_lt m.job most_records)
        where
          go : Dec (m.ahead < most_records) → Dec (m.job < most_records) → most_records ≤ m.ahead
          go (no q) d = omega arith
          go (yes q) (yes d) = absurd (job_none d)
          go (yes q) (no d) = clash (sym over ∙ rw (le-ltb m.job most_records (omega arith), lt-ltb m.ahead most_records q))

      rest : running_before o (members_of b p) (pattern_of script) m.tick ≡ free
      rest = go (running_before o (members_of b p) (pattern_of script) m.tick) refl
        where
          go : (r : Running) → running_before o (members_of b p) (pattern_of script) m.tick ≡ r → running_before o (members_of b p) (pattern_of script) m.tick ≡ free
          go free e = e
          go (runs k a l) e = absurd (job_none (omega (arith, (subst (ShowsRunning script m) e so_far.follows.runs_so).1, legal_run.few_records)))

      all : (i : ℕ) → i < length script → home_of b (record_task script i) ≡ p → i < oldest_of b m (record_task script i)
      all i there home = go (dec_lt i (oldest_of b m (record_task script i)))
        where
          known : record_task script i < o.tasks
          known = legal_run.legal.known i there

          go : Dec (i < oldest_of b m (record_task script i)) → i < oldest_of b m (record_task script i)
          go (yes q) = q
          go (no q) =
              let none = at_rest o (members_of b p) (pattern_of script) m.tick rest (record_task script i) known in
              let late = subst (λ (js : List Job). JobsInLine script (record_task script i) (oldest_of b m (record_task script i)) js m.tick) none (so_far.follows.line (record_task script i) known home) i (omega arith) there refl in
              absurd (omega (arith, late, so_far.ahead.before i (omega (arith, ahead_none, legal_run.few_records)) there home))

-- a machine in its course has the arrays of the first
abbrev pub turns_now : {start : Machine} {keys durations ranks next after : List ℕ} {places : ℕ} (so : Begins start keys durations ranks next after places) (m : Machine)
    → Courses so.turns.order so.turns.build so.turns.script so.turns.partition m → Turns m keys durations ranks next after
turns_now so m so_far =
    record { order = so.turns.order; build = so.turns.build; script = so.turns.script; partition = so.turns.partition; lined = so.turns.lined; short = so.turns.short; so_far = so_far }
