-- The machine's tick is the definition's: what runs goes on, a free partition rests, or the oldest job of the highest-priority waiting member starts.
use Prim.Native.Nat.{ℕ, zero, suc, ◌-◌, ◌^◌, ◌<◌}
use mathlib.Core.Path.{◌≡◌, refl, sym, ap, ◌∙◌, subst, subst₂}
use mathlib.Core.Bool.{Bool, true, false, ◌&&◌}
use mathlib.Core.List.{List, [], ◌∷◌, ◌++◌}
use mathlib.Core.Logic.{◌≢◌, ◌⊎◌, inl, inr, ⊎_elim}
use native.Mathlib.Decide.{dec_lt, ℕ_discrete}
use native.Mathlib.Omega.{arith}
use lib.Bits.{bit_or}
use lib.Dec.{ltb}
use lib.ListN.{length, get_or, set, length-set}
use lib.Seq.{get_or-set_same, get_or-set_other}
use borrow.Author.Tests.{lt-ltb, ltb-true}
use Rattle.laws.specs.Choice.{pick}
use Rattle.laws.proofs.Every.{clash, and_both, both_and}
use Rattle.model.specs.declared.order.Order.{Order}
use Rattle.model.specs.declared.build.Build.{Build}
use Rattle.model.specs.declared.build.Release.{Release}
use Rattle.model.specs.Limits.{most_tasks, most_records, home_of}
use Rattle.demand.specs.Priority.{members_of, outranks}
use Rattle.demand.proofs.Priority.{outranks_one, rank_less}
use Rattle.machine.specs.Step.{Job, Running, free, runs, ended, released, joining}
use Rattle.machine.specs.Pattern.{record_of, pattern_of}
use Rattle.machine.proofs.View.{goes_on_lem, begins, rests, waiting_before, running_before, joined_by, ViewAt, view}
use Rattle.machine.proofs.Work.{theirs_of}
use Rattle.machine.proofs.Once.{runs_own}
use Rattle.machine.proofs.Isolation.{home_member, member_home}
use Rattle.stepper.specs.declared.Machine.{Machine}
use Rattle.stepper.specs.Ranks.{rank_bit, LowestRank}
use Rattle.stepper.specs.Lines.{record_task, record_joins, NextOf, JobsInLine}
use Rattle.stepper.specs.Follow.{rank_of, oldest_of, Heads, ShowsRunning, Marks, Follows, StartsOne, ReleasedIn, LegalRun}
use Rattle.stepper.proofs.Ranks.{bit_none, bit_left, bit_stays}
use Rattle.stepper.proofs.Lines.{line_joined, line_passed, line_first}
use Rattle.stepper.proofs.Above.{outranks-lower, ranks_apart}
use Rattle.stepper.proofs.Marks.{heads_later, heads_next, marks_on}

-- what has time left does not end
has_not_ended : (r : Running) (k a l : ℕ) → r ≡ runs k a (suc l) → ended r ≡ free → ⊥
unfolding ended
has_not_ended r k a l e over = let z : ◌≡◌ {A = ℕ} 0 1 = cc (sym (ap ended e) ∙ over) in omega arith

module _ {o : Order} {b : Build} {script : List Release} (legal_run : LegalRun o b script) (p : ℕ) (m : Machine) (follows : Follows o b script p m)
    (releases : ℕ) (due : ReleasedIn b script p m.tick (suc m.tick) releases) where
  abbrev tick : ℕ
  tick = m.tick

  abbrev mask : ℕ
  mask = bit_or m.waiting releases

  abbrev joined : ℕ → List Job
  joined = joined_by o (members_of b p) (pattern_of script) tick

  abbrev View' : Type 0
  View' = ViewAt o (members_of b p) (pattern_of script) tick

  -- the tick's releases have joined
  heads_now : (k : ℕ) → k < o.tasks → home_of b k ≡ p → Heads script (suc tick) k (oldest_of b m k)
  heads_now k known home = heads_later (omega arith) (follows.heads k known home)

  marks_now : Marks o b script p (oldest_of b m) (suc tick) mask
  marks_now = marks_on legal_run p (oldest_of b m) tick (suc tick) m.waiting releases (omega arith) follows.heads follows.marks due

  line_now : (k : ℕ) → k < o.tasks → home_of b k ≡ p → JobsInLine script k (oldest_of b m k) (joined k) (suc tick)
  unfolding joining
  line_now k known home =
      let same = theirs_of o (members_of b p) (pattern_of script) tick k (home_member b p k home) in
      subst (λ (x : ℕ). JobsInLine script k (oldest_of b m k) (waiting_before o (members_of b p) (pattern_of script) tick k ++ released tick x) (suc tick)) (sym same)
      (line_joined legal_run.legal k (oldest_of b m k) (waiting_before o (members_of b p) (pattern_of script) tick k) tick (follows.heads k known home).before (follows.line k known home))

  -- where a job waits, the bit is set
  waits_bit : (k : ℕ) (j : Job) (js : List Job) → k < o.tasks → home_of b k ≡ p → joined k ≡ j ∷ js → rank_bit mask (rank_of b k) ≡ 1
  waits_bit k j js known home e =
      let l = line_first legal_run.legal k (oldest_of b m k) j js (suc tick) (heads_now k known home).own (subst (λ (x : List Job). JobsInLine script k (oldest_of b m k) x (suc tick)) e (line_now k known home)) in
      marks_now.waits k known home (omega (arith, l.0, legal_run.few_records)) l.2

  -- and where the oldest has joined, a job waits
  bit_waits : (k : ℕ) → k < o.tasks → home_of b k ≡ p → oldest_of b m k < most_records → record_joins script (oldest_of b m k) < suc tick → joined k ≡ [] → ⊥
  bit_waits k known home some soon e =
      let there = (heads_now k known home).there some in
      let late = subst (λ (x : List Job). JobsInLine script k (oldest_of b m k) x (suc tick)) e (line_now k known home) (oldest_of b m k) (omega arith) there ((heads_now k known home).own there) in
      omega (arith, late)

  -- what begins is a member's
  begins_own : (k a l : ℕ) → running_before o (members_of b p) (pattern_of script) (suc tick) ≡ runs k a l → home_of b k ≡ p
  begins_own k a l e = member_home b p k (runs_own o (members_of b p) (pattern_of script) (suc tick) k a l e).0

  -- time left is that of what runs
  left_runs : (k a l : ℕ) → running_before o (members_of b p) (pattern_of script) tick ≡ runs k a l → m.left ≡ l
  left_runs k a l e = (subst (ShowsRunning script m) e follows.runs_so).0

  still_runs : 0 < m.left → ended (running_before o (members_of b p) (pattern_of script) tick) ≡ free → ⊥
  still_runs more = go (running_before o (members_of b p) (pattern_of script) tick) refl
    where
      go : (r : Running) → running_before o (members_of b p) (pattern_of script) tick ≡ r → ended r ≡ free → ⊥
      go free e over = omega (arith, (subst (ShowsRunning script m) e follows.runs_so).1)
      go (runs k a zero) e over = omega (arith, left_runs k a 0 e)
      go (runs k a (suc l)) e over = has_not_ended (runs k a (suc l)) k a l refl over

  -- what runs goes on
  pub goes_on_so : 0 < m.left → Follows o b script p (record { tick = suc tick; waiting = mask; oldest = m.oldest; ahead = m.ahead; job = m.job; left = m.left - 1 })
  goes_on_so more = go (view o (members_of b p) (pattern_of script) tick)
    where
      go : View' → Follows o b script p (record { tick = suc tick; waiting = mask; oldest = m.oldest; ahead = m.ahead; job = m.job; left = m.left - 1 })
      go (goes_on_lem k a l e e' same) =
          let was = subst (ShowsRunning script m) e follows.runs_so in
          record {
            sized = follows.sized;
            heads = heads_now;
            line = λ x known home. subst (λ (js : List Job). JobsInLine script x (oldest_of b m x) js (suc tick)) (sym (same x)) (line_now x known home);
            marks = marks_now;
            runs_so = subst (ShowsRunning script (record { tick = suc tick; waiting = mask; oldest = m.oldest; ahead = m.ahead; job = m.job; left = m.left - 1 })) (sym e') (omega (arith, was.0), was.1, was.2, was.3);
          }
      go (begins k j js over below e e' w' same up) = absurd (still_runs more over)
      go (rests over e' same none) = absurd (still_runs more over)

  -- nothing waits
  pub rests_so : m.left ≡ 0 → mask ≡ 0 → Follows o b script p (record { tick = suc tick; waiting = mask; oldest = m.oldest; ahead = m.ahead; job = most_records; left = m.left })
  rests_so nothing empty = go (view o (members_of b p) (pattern_of script) tick)
    where
      go : View' → Follows o b script p (record { tick = suc tick; waiting = mask; oldest = m.oldest; ahead = m.ahead; job = most_records; left = m.left })
      go (goes_on_lem k a l e e' same) = absurd (omega (arith, left_runs k a (suc l) e))
      go (begins k j js over below e e' w' same up) =
          absurd (omega (arith, waits_bit k j js below (begins_own k _ _ e') e, ap (λ (x : ℕ). rank_bit x (rank_of b k)) empty, bit_none (rank_of b k)))
      go (rests over e' same none) =
          record {
            sized = follows.sized;
            heads = heads_now;
            line = λ x known home. subst (λ (js : List Job). JobsInLine script x (oldest_of b m x) js (suc tick)) (sym (same x)) (line_now x known home);
            marks = marks_now;
            runs_so = subst (ShowsRunning script (record { tick = suc tick; waiting = mask; oldest = m.oldest; ahead = m.ahead; job = most_records; left = m.left })) (sym e') (refl, nothing);
          }

  -- a member's oldest record that has joined
  abbrev Joined : ℕ → Type 0
  Joined k = (k < o.tasks) × (home_of b k ≡ p) × (oldest_of b m k < most_records) × (record_joins script (oldest_of b m k) < suc tick)

  -- the one with the lowest rank begins
  lowest_begins : (k : ℕ) → Joined k → LowestRank mask (rank_of b k) → (k' : ℕ) (j : Job) (js : List Job) → k' < o.tasks → home_of b k' ≡ p → joined k' ≡ j ∷ js
      → ((x : ℕ) → x < o.tasks → outranks o x k' ≡ true → joined x ≡ []) → k' ≡ k
  lowest_begins k mine low k' j js known home e up = go (ℕ_discrete k' k)
    where
      go : Dec (k' ≡ k) → k' ≡ k
      go (yes same) = same
      go (no other) =
          ⊎_elim
          (λ above. absurd (omega (arith, waits_bit k' j js known home e, low.none_below (rank_of b k') (outranks-lower legal_run p k' k known mine.0 home mine.1 above))))
          (λ below. absurd (bit_waits k mine.0 mine.1 mine.2 mine.3 (up k mine.0 below)))
          (outranks_one o k' k other)

  -- the machine once the oldest record of rank r has started, where the younger one is the next of its task
  abbrev started : (r younger left : ℕ) → (stays : Bool) → Machine
  started r younger left stays =
      record { tick = suc tick; waiting = pick stays mask (mask - 2 ^ r); oldest = set m.oldest r younger; ahead = m.ahead; job = get_or m.oldest r 0; left = left }

  abbrev has_joined : ℕ → Bool
  has_joined i = ltb i most_records && ltb (record_joins script i) (suc tick)

  module _ (k : ℕ) (mine : Joined k) (low : LowestRank mask (rank_of b k)) (younger : ℕ) (next : NextOf (λ x. x) script k (suc (oldest_of b m k)) younger) where
    abbrev r : ℕ
    r = rank_of b k

    abbrev h : ℕ
    h = oldest_of b m k

    abbrev after : ℕ → ℕ
    after x = get_or (set m.oldest r younger) (rank_of b x) 0

    r_few : r < most_tasks
    r_few = omega (arith, legal_run.ranked k mine.0, rank_less o (members_of b (home_of b k)) k mine.0, legal_run.few)

    own : record_task script h ≡ k
    own = (heads_now k mine.0 mine.1).own ((heads_now k mine.0 mine.1).there mine.2)

    after_own : after k ≡ younger
    after_own = get_or-set_same m.oldest r younger 0 (rw follows.sized r_few)

    after_other : (x : ℕ) → x < o.tasks → home_of b x ≡ p → x ≢ k → after x ≡ oldest_of b m x
    after_other x known home other = get_or-set_other m.oldest r (rank_of b x) younger 0 (ranks_apart legal_run p x k known mine.0 home mine.1 other)

    heads_then : (x : ℕ) → x < o.tasks → home_of b x ≡ p → Dec (x ≡ k) → Heads script (suc tick) x (after x)
    heads_then x known home (yes e) =
        subst (λ (y : ℕ). Heads script (suc tick) y (after y)) (sym e)
        (subst (Heads script (suc tick) k) (sym after_own) (heads_next legal_run k (suc tick) h younger (heads_now k mine.0 mine.1) mine.3 own next))
    heads_then x known home (no n) = subst (Heads script (suc tick) x) (sym (after_other x known home n)) (heads_now x known home)

    -- the bit of its rank stays where the younger one has joined
    marks_then : (stays : Bool) → stays ≡ has_joined younger → Marks o b script p after (suc tick) (pick stays mask (mask - 2 ^ r))
    marks_then stays e = record { waits = λ x known home some soon. waits x known home some soon (ℕ_discrete x k) stays e; only_they = λ s bit. only_they s (ℕ_discrete s r) stays e bit }
      where
        younger_joined : true ≡ has_joined younger → (younger < most_records) × (record_joins script younger < suc tick)
        younger_joined e = let both = and_both (ltb younger most_records) _ (sym e) in (ltb-true younger most_records both.0, ltb-true (record_joins script younger) (suc tick) both.1)

        others : (x : ℕ) → x < o.tasks → home_of b x ≡ p → x ≢ k → after x < most_records → record_joins script (after x) < suc tick → rank_bit mask (rank_of b x) ≡ 1
        others x known home other some soon =
            let same = after_other x known home other in
            marks_now.waits x known home (omega arith) (omega (arith, ap (record_joins script) same))

        their : (s : ℕ) → s ≢ r → rank_bit mask s ≡ 1
            → (x : ℕ) × (x < o.tasks) × (home_of b x ≡ p) × (rank_of b x ≡ s) × (after x < most_records) × (record_joins script (after x) < suc tick)
        their s other bit =
            let y = marks_now.only_they s bit in
            let same = after_other y.0 y.1 y.2 (λ e. other (sym y.3 ∙ ap (rank_of b) e)) in
            (y.0, y.1, y.2, y.3, omega (arith, y.4), omega (arith, y.5, ap (record_joins script) same))

        waits : (x : ℕ) → x < o.tasks → home_of b x ≡ p → after x < most_records → record_joins script (after x) < suc tick → Dec (x ≡ k) → (stays : Bool) → stays ≡ has_joined younger
            → rank_bit (pick stays mask (mask - 2 ^ r)) (rank_of b x) ≡ 1
        waits x known home some soon (yes q) true e = rw q low.inside
        waits x known home some soon (yes q) false e =
            let same : after x ≡ younger = ap after q ∙ after_own in
            clash (e ∙ both_and _ _ (lt-ltb younger most_records (omega arith)) (lt-ltb (record_joins script younger) (suc tick) (omega (arith, ap (record_joins script) same))))
        waits x known home some soon (no q) true e = others x known home q some soon
        waits x known home some soon (no q) false e =
            bit_stays mask r (rank_of b x) low.inside (ranks_apart legal_run p x k known mine.0 home mine.1 q) ∙ others x known home q some soon

        only_they : (s : ℕ) → Dec (s ≡ r) → (stays : Bool) → stays ≡ has_joined younger → rank_bit (pick stays mask (mask - 2 ^ r)) s ≡ 1
            → (x : ℕ) × (x < o.tasks) × (home_of b x ≡ p) × (rank_of b x ≡ s) × (after x < most_records) × (record_joins script (after x) < suc tick)
        only_they s (yes q) true e bit = let j = younger_joined e in (k, mine.0, mine.1, sym q, rw after_own j.0, rw after_own j.1)
        only_they s (yes q) false e bit = absurd (omega (arith, ap (rank_bit (mask - 2 ^ r)) q, bit_left mask r low.inside))
        only_they s (no q) true e bit = their s q bit
        only_they s (no q) false e bit = their s q (sym (bit_stays mask r s low.inside q) ∙ bit)

    -- what waits of each task then
    line_then : (x : ℕ) → x < o.tasks → home_of b x ≡ p → (j : Job) (js : List Job) → joined k ≡ j ∷ js → waiting_before o (members_of b p) (pattern_of script) (suc tick) k ≡ js
        → ((y : ℕ) → y ≢ k → waiting_before o (members_of b p) (pattern_of script) (suc tick) y ≡ joined y) → Dec (x ≡ k)
        → JobsInLine script x (after x) (waiting_before o (members_of b p) (pattern_of script) (suc tick) x) (suc tick)
    line_then x known home j js e w' same (yes q) =
        let l = line_first legal_run.legal k h j js (suc tick) (heads_now k mine.0 mine.1).own (subst (λ (y : List Job). JobsInLine script k h y (suc tick)) e (line_now k mine.0 mine.1)) in
        let passed = line_passed legal_run.legal k (suc h) younger js (suc tick) next.from next.between l.3 in
        subst (λ (y : ℕ). JobsInLine script y (after y) (waiting_before o (members_of b p) (pattern_of script) (suc tick) y) (suc tick)) (sym q)
        (subst₂ (λ (y : ℕ) (w : List Job). JobsInLine script k y w (suc tick)) (sym after_own) (sym w') passed)
    line_then x known home j js e w' same (no q) =
        subst₂ (λ (y : ℕ) (w : List Job). JobsInLine script x y w (suc tick)) (sym (after_other x known home q)) (sym (same x q)) (line_now x known home)

    starts_k : m.left ≡ 0 → (left : ℕ) → left ≡ (record_of script h).duration - 1 → (stays : Bool) → stays ≡ has_joined younger → Follows o b script p (started r younger left stays)
    starts_k nothing left e stays f = go (view o (members_of b p) (pattern_of script) tick)
      where
        go : View' → Follows o b script p (started r younger left stays)
        go (goes_on_lem k' a l e e' same) = absurd (omega (arith, left_runs k' a (suc l) e))
        go (rests over e' same none) = absurd (bit_waits k mine.0 mine.1 mine.2 mine.3 (none k mine.0))
        go (begins k' j js over below g g' w' same up) =
            let q = lowest_begins k mine low k' j js below (begins_own k' _ _ g') g up in
            let front : joined k ≡ j ∷ js = subst (λ (y : ℕ). joined y ≡ j ∷ js) q g in
            let l = line_first legal_run.legal k h j js (suc tick) (heads_now k mine.0 mine.1).own (subst (λ (y : List Job). JobsInLine script k h y (suc tick)) front (line_now k mine.0 mine.1)) in
            record {
              sized = length-set m.oldest r younger ∙ follows.sized;
              heads = λ x known home. heads_then x known home (ℕ_discrete x k);
              line = λ x known home. line_then x known home j js front (ap (waiting_before o (members_of b p) (pattern_of script) (suc tick)) (sym q) ∙ w') (λ y n. same y (λ z. n (z ∙ q))) (ℕ_discrete x k);
              marks = marks_then stays f;
              runs_so = subst (ShowsRunning script (started r younger left stays)) (sym g') (omega (arith, e, ap (λ (y : Job). y.duration) l.1), l.0, own ∙ sym q, sym (ap (λ (y : Job). y.release) l.1));
            }

    -- besides those that had, only its oldest has started
    starts_one : (x i : ℕ) → x < o.tasks → home_of b x ≡ p → i < length script → record_task script i ≡ x → i < after x → (i < oldest_of b m x) ⊎ (i ≡ h)
    starts_one x i known home there mine' below = go (ℕ_discrete x k) (dec_lt i h) (dec_lt h i)
      where
        go : Dec (x ≡ k) → Dec (i < h) → Dec (h < i) → (i < oldest_of b m x) ⊎ (i ≡ h)
        go (no q) d d' = inl (omega (arith, after_other x known home q))
        go (yes q) (yes l) d' = inl (omega (arith, ap (oldest_of b m) q))
        go (yes q) (no l) (yes g) = absurd (next.between i g (omega (arith, ap after q, after_own)) there (mine' ∙ q))
        go (yes q) (no l) (no g) = inr (omega arith)

  -- of which the lowest rank is
  pub whose : (r : ℕ) → LowestRank mask r → (k : ℕ) × (rank_of b k ≡ r) × Joined k
  whose r low = let x = marks_now.only_they r low.inside in (x.0, x.3, (x.1, x.2, x.4, x.5))

  -- its oldest record is one of the script
  pub oldest_there : (r : ℕ) → LowestRank mask r → get_or m.oldest r 0 < length script
  oldest_there r low =
      let x = whose r low in
      subst (λ (y : ℕ). get_or m.oldest y 0 < length script) x.1 ((heads_now x.0 x.2.0 x.2.1).there x.2.2)

  -- the oldest job of the highest-priority waiting member starts
  pub starts_so : (r : ℕ) → LowestRank mask r → m.left ≡ 0 → (younger left : ℕ) (stays : Bool)
      → NextOf (λ x. x) script (record_task script (get_or m.oldest r 0)) (suc (get_or m.oldest r 0)) younger
      → left ≡ (record_of script (get_or m.oldest r 0)).duration - 1 → stays ≡ has_joined younger
      → Follows o b script p (started r younger left stays) × StartsOne o b script p m (started r younger left stays)
  starts_so r low nothing younger left stays next e f = go r x.1 low next e
    where
      x : (k : ℕ) × (rank_of b k ≡ r) × Joined k
      x = whose r low

      own_is : record_task script (oldest_of b m x.0) ≡ x.0
      own_is = (heads_now x.0 x.2.0 x.2.1).own ((heads_now x.0 x.2.0 x.2.1).there x.2.2)

      go : (s : ℕ) → rank_of b x.0 ≡ s → LowestRank mask s → NextOf (λ x. x) script (record_task script (get_or m.oldest s 0)) (suc (get_or m.oldest s 0)) younger
          → left ≡ (record_of script (get_or m.oldest s 0)).duration - 1
          → Follows o b script p (started s younger left stays) × StartsOne o b script p m (started s younger left stays)
      go s q = subst (λ (s : ℕ). LowestRank mask s → NextOf (λ x. x) script (record_task script (get_or m.oldest s 0)) (suc (get_or m.oldest s 0)) younger
          → left ≡ (record_of script (get_or m.oldest s 0)).duration - 1 → Follows o b script p (started s younger left stays) × StartsOne o b script p m (started s younger left stays)) q
          (λ low next e.
          (let its = subst (λ (y : ℕ). NextOf (λ x. x) script y (suc (oldest_of b m x.0)) younger) own_is next in
          (starts_k x.0 x.2 low younger its nothing left e stays f, starts_one x.0 x.2 low younger its)))
