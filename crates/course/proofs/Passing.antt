-- Up to its next event a partition's state only gains what joins: what runs runs on, or it is at rest.
use Prim.Native.Nat.{ℕ, zero, suc, ◌+◌, ◌-◌, ◌≤◌, ◌<◌}
use mathlib.Core.Path.{◌≡◌, refl, sym, ap, ◌∙◌, subst}
use mathlib.Core.List.{List, ◌++◌}
use native.Mathlib.Nat.{add-suc, add-zero}
use native.Mathlib.Omega.{arith}
use lib.Bits.{bit_or}
use lib.ListN.{length}
use Rattle.model.specs.declared.order.Order.{Order}
use Rattle.model.specs.declared.build.Build.{Build}
use Rattle.model.specs.declared.build.Release.{Release}
use Rattle.model.specs.Limits.{home_of}
use Rattle.demand.specs.Priority.{members_of}
use Rattle.machine.specs.Step.{Job, Running, free, runs, State, ended, lowered, released, joining}
use Rattle.machine.specs.Pattern.{pattern_of}
use Rattle.machine.specs.Claims.{Lasts}
use Rattle.machine.proofs.View.{goes_on_lem, begins, rests, waiting_before, running_before, joined_by, ViewAt, view}
use Rattle.machine.proofs.Work.{theirs_of}
use Rattle.machine.proofs.Quiet.{runs_unbroken, quiet_ticks}
use Rattle.machine.proofs.Isolation.{home_member, member_home}
use Rattle.stepper.specs.declared.Machine.{Machine}
use Rattle.stepper.specs.Lines.{record_task, record_joins, JobsInLine}
use Rattle.stepper.specs.Follow.{oldest_of, Heads, ShowsRunning, Follows, ReleasedIn, LegalRun}
use Rattle.stepper.proofs.Lines.{line_joined, line_quiet, released_none}
use Rattle.stepper.proofs.Marks.{heads_later, marks_on}

not_ended : (k a l : ℕ) → ended (runs k a (suc l)) ≡ free → ⊥
unfolding ended
not_ended k a l over = let z : ◌≡◌ {A = ℕ} 0 1 = cc over in omega arith

module _ {o : Order} {b : Build} {script : List Release} (legal_run : LegalRun o b script) (p : ℕ) (m : Machine) (follows : Follows o b script p m) where
  abbrev waiting : ℕ → ℕ → List Job
  waiting = waiting_before o (members_of b p) (pattern_of script)

  abbrev running : ℕ → Running
  running = running_before o (members_of b p) (pattern_of script)

  -- a tick in which what runs goes on
  line_step : (t : ℕ) (k : ℕ) → home_of b k ≡ p → (h : ℕ) → Heads script t k h → (j a l : ℕ) → running t ≡ runs j a (suc l)
      → JobsInLine script k h (waiting t k) t → JobsInLine script k h (waiting (suc t) k) (suc t)
  unfolding joining
  line_step t k home h heads j a l e line = go (view o (members_of b p) (pattern_of script) t)
    where
      now_line : JobsInLine script k h (joined_by o (members_of b p) (pattern_of script) t k) (suc t)
      now_line =
          subst (λ (x : ℕ). JobsInLine script k h (waiting t k ++ released t x) (suc t)) (sym (theirs_of o (members_of b p) (pattern_of script) t k (home_member b p k home)))
          (line_joined legal_run.legal k h (waiting t k) t heads.before line)

      go : ViewAt o (members_of b p) (pattern_of script) t → JobsInLine script k h (waiting (suc t) k) (suc t)
      go (goes_on_lem x a l g g' same) = subst (λ (js : List Job). JobsInLine script k h js (suc t)) (sym (same k)) now_line
      go (begins x y js over below g g' w' same up) = absurd (not_ended j a l (ap ended (sym e) ∙ over))
      go (rests over g' same none) = absurd (not_ended j a l (ap ended (sym e) ∙ over))

  line_over : (d k : ℕ) → k < o.tasks → home_of b k ≡ p → (j a l : ℕ) → running m.tick ≡ runs j a l → d ≤ l → JobsInLine script k (oldest_of b m k) (waiting (m.tick + d) k) (m.tick + d)
  line_over zero k known home j a l e few = rw add-zero (follows.line k known home)
  line_over (suc d) k known home j a l e few =
      let goes : running (m.tick + d) ≡ runs j a (suc (l - suc d)) = runs_unbroken o (members_of b p) (pattern_of script) m.tick d j a l e (omega arith) ∙ ap (runs j a) (omega arith) in
      rw add-suc (line_step (m.tick + d) k home (oldest_of b m k) (heads_later (omega arith) (follows.heads k known home)) j a (l - suc d) goes (line_over d k known home j a l e (omega arith)))

  -- the machine up to a tick, with what joined meanwhile
  abbrev passed : (tick releases ahead : ℕ) → Machine
  passed tick releases ahead = record { tick = tick; waiting = bit_or m.waiting releases; oldest = m.oldest; ahead = ahead; job = m.job; left = 0 }

  follows_then : (tick releases ahead : ℕ) → m.tick ≤ tick → ReleasedIn b script p m.tick tick releases
      → ((k : ℕ) → k < o.tasks → home_of b k ≡ p → JobsInLine script k (oldest_of b m k) (waiting tick k) tick)
      → ShowsRunning script (passed tick releases ahead) (running tick) → Follows o b script p (passed tick releases ahead)
  follows_then tick releases ahead later due line run =
      record {
        sized = follows.sized;
        heads = λ k known home. heads_later later (follows.heads k known home);
        line = line;
        marks = marks_on legal_run p (oldest_of b m) m.tick tick m.waiting releases later follows.heads follows.marks due;
        runs_so = run;
      }

  -- while a job runs, until it ends
  pub passes_running : (j a l releases ahead : ℕ) → running m.tick ≡ runs j a l → ReleasedIn b script p m.tick (m.tick + l) releases → Follows o b script p (passed (m.tick + l) releases ahead)
  passes_running j a l releases ahead e due =
      let was = subst (ShowsRunning script m) e follows.runs_so in
      let ends : running (m.tick + l) ≡ runs j a 0 = runs_unbroken o (members_of b p) (pattern_of script) m.tick l j a l e (omega arith) ∙ ap (runs j a) (omega arith) in
      follows_then (m.tick + l) releases ahead (omega arith) due (λ k known home. line_over l k known home j a l e (omega arith))
      (subst (ShowsRunning script (passed (m.tick + l) releases ahead)) (sym ends) (refl, was.1, was.2, was.3))

  -- in a free partition, until the next record joins
  pub passes_free : (d releases ahead : ℕ) → running m.tick ≡ free → ((i : ℕ) → i < length script → home_of b (record_task script i) ≡ p → m.tick ≤ record_joins script i → m.tick + d ≤ record_joins script i)
      → ReleasedIn b script p m.tick (m.tick + d) releases → Follows o b script p (passed (m.tick + d) releases ahead)
  unfolding Lasts lowered
  passes_free d releases ahead e quiet due =
      let was = subst (ShowsRunning script m) e follows.runs_so in
      let same = quiet_ticks o (members_of b p) (pattern_of script) m.tick d
      (λ later task from below mine. released_none script later task (λ i there own at. omega (arith, quiet i there (ap (home_of b) own ∙ member_home b p task mine) (omega arith))))
      (subst (Lasts d) (sym e) tt) in
      let rest : running (m.tick + d) ≡ free = ap (λ (s : State). s.running) same ∙ ap (lowered d) e in
      follows_then (m.tick + d) releases ahead (omega arith) due
      (λ k known home. subst (λ (w : List Job). JobsInLine script k (oldest_of b m k) w (m.tick + d)) (sym (ap (λ (s : State). s.waiting k) same))
      (line_quiet script m.tick (m.tick + d) k (oldest_of b m k) (waiting m.tick k) (omega arith) (λ i there own from. quiet i there (ap (home_of b) own ∙ home) from) (follows.line k known home)))
      (subst (ShowsRunning script (passed (m.tick + d) releases ahead)) (sym rest) (was.0, refl))
