-- What is prepared for the run, a partition's machine before tick 0, and the partitions one after another.
use Prim.Native.Nat.{ℕ, ◌+◌, ◌%◌, ◌≤◌, ◌<◌}
use mathlib.Core.Path.{◌≡◌, refl, sym, ap, ◌∙◌, subst}
use mathlib.Core.List.{List, ◌++◌}
use native.Mathlib.Decide.{dec_lt, ℕ_discrete}
use native.Mathlib.Omega.{arith}
use lib.ListN.{length, get_or, drop}
use lib.Seq.{ext_get_or}
use Rattle.laws.specs.Joined.{overlaid}
use Rattle.laws.proofs.Overlaid.{length-overlaid, overlaid_in, overlaid_past}
use Rattle.model.specs.declared.order.Order.{Order}
use Rattle.model.specs.declared.build.Build.{Build}
use Rattle.model.specs.declared.build.Release.{Release}
use Rattle.model.specs.Limits.{most_tasks, most_partitions, most_records, home_of}
use Rattle.demand.specs.Priority.{members_of}
use Rattle.demand.proofs.Priority.{rank_less}
use Rattle.machine.specs.Step.{state_before}
use Rattle.finish.specs.Finish.{finish_of, finish_ticks}
use Rattle.finish.specs.Claims.{Short}
use Rattle.stepper.specs.declared.Machine.{Machine}
use Rattle.stepper.specs.Lines.{record_task, NextOf}
use Rattle.stepper.specs.Follow.{rank_of, oldest_of, Follows, LegalRun}
use Rattle.stepper.proofs.Ranks.{bit_none}
use Rattle.stepper.proofs.Above.{ranks_apart}
use Rattle.course.specs.Ahead.{Grouped, LinedUp, RunArrays, HeadsFrom, heads_of}
use Rattle.course.specs.Course.{Courses, Begins, FinishesNoted, Runnable}
use Rattle.course.proofs.Heads.{length_heads, heads_at}

-- a partition's machine before tick 0
abbrev pub first_machine : (oldest : List ℕ) → (ahead : ℕ) → Machine
first_machine oldest ahead = record { tick = 0; waiting = 0; oldest = oldest; ahead = ahead; job = most_records; left = 0 }

module _ {o : Order} {b : Build} {script : List Release} (legal_run : LegalRun o b script) (p : ℕ) (oldest : List ℕ) (ahead : ℕ) (places : length oldest ≡ most_tasks)
    (oldest-at : (k : ℕ) → k < o.tasks → home_of b k ≡ p → NextOf (λ x. x) script k 0 (get_or oldest (rank_of b k) 0)) (ahead-at : NextOf (home_of b) script p 0 ahead) where
  pub first_follows : Follows o b script p (first_machine oldest ahead)
  unfolding state_before
  first_follows =
      record {
        sized = places;
        heads = λ k known home.
            (let n = oldest-at k known home in
            record { there = n.there; own = λ l. n.own (omega (arith, legal_run.few_records)); before = λ i l g e. absurd (n.between i (omega arith) l g e) });
        line = λ k known home. λ x from there own. omega arith;
        marks = record { waits = λ k known home some soon. absurd (omega arith); only_they = λ r e. absurd (omega (arith, bit_none r)) };
        runs_so = (refl, refl);
      }

  pub first_courses : Courses o b script p (first_machine oldest ahead)
  first_courses =
      record {
        follows = first_follows;
        ahead = record {
          upto = ahead-at.upto;
          there = ahead-at.there;
          own = ahead-at.own;
          late = λ l. omega arith;
          before = λ i l g e. absurd (ahead-at.between i (omega arith) l g e);
        };
        soon = omega arith;
      }

-- the numbers that the run reads, for an order, a build and a script
pub record Prepared (o : Order) (b : Build) (script : List Release) (keys durations homes ranks next after oldest first : List ℕ) (tasks partitions places : ℕ) : Type 0 where
  pub lined : RunArrays o b script keys durations ranks next after
  pub short : Short script
  pub count : tasks ≡ o.tasks
  pub home_places : length homes ≡ most_tasks
  pub home_at : (k : ℕ) → k < o.tasks → get_or homes k 0 ≡ home_of b k
  pub by_task : LinedUp (λ k. k) script oldest next
  pub by_home : LinedUp (home_of b) script first after
  pub few_partitions : partitions ≤ most_partitions
  pub there : (k : ℕ) → k < o.tasks → home_of b k < partitions
  pub room : length script ≤ places

module _ {o : Order} {b : Build} {records : ℕ} {keys durations : List ℕ} {places : ℕ} (so : Runnable o b records keys durations places) where
  legal_run_so : LegalRun o b so.script
  legal_run_so = record { few = so.few; ranked = so.ranked; legal = so.legal; few_records = so.held.few }

  pub task_of_key : (i : ℕ) → i < length so.script → get_or keys i 0 % 32 ≡ record_task so.script i
  task_of_key i here = omega (arith, so.held.key i here, so.legal.known i here, so.few)

  abbrev pub grouped : (groups : List ℕ) (group : ℕ → ℕ) → length groups ≡ most_tasks → ((k : ℕ) → k < o.tasks → get_or groups k 0 ≡ group k) → ((k : ℕ) → k < o.tasks → group k < most_tasks)
      → Grouped records keys groups
  grouped groups group size at few =
      record {
        script = so.script;
        group = group;
        count = so.count;
        few = so.held.few;
        key_places = so.held.sizes.0;
        group_places = size;
        key_task = task_of_key;
        known = λ i here. omega (arith, so.legal.known i here, so.few);
        group_at = λ i here. at (record_task so.script i) (so.legal.known i here);
        within = λ i here. few (record_task so.script i) (so.legal.known i here);
      }

  -- a number of each task, in a list
  abbrev pub OfEach : (list : List ℕ) → (number : ℕ → ℕ) → Type 0
  OfEach list number = (length list ≡ most_tasks) × ((k : ℕ) → k < most_tasks → get_or list k 0 ≡ number k)

  abbrev pub by_number : {numbers : List ℕ} → OfEach numbers (λ k. k) → Grouped records keys numbers
  by_number {numbers} numbered = grouped numbers (λ k. k) numbered.0 (λ k known. numbered.1 k (omega (arith, so.few))) (λ k known. omega (arith, so.few))

  abbrev pub by_home_so : {homes : List ℕ} → OfEach homes (home_of b) → Grouped records keys homes
  by_home_so {homes} housed = grouped homes (home_of b) housed.0 (λ k known. housed.1 k (omega (arith, so.few))) (λ k known. omega (arith, so.homes k known, so.few_partitions))

  pub prepared : {homes ranks next after oldest first : List ℕ} → OfEach homes (home_of b) → OfEach ranks (rank_of b) → LinedUp (λ k. k) so.script oldest next → LinedUp (home_of b) so.script first after
      → Prepared o b so.script keys durations homes ranks next after oldest first o.tasks b.partitions places
  prepared housed ordered by_task by_home =
      record {
        lined = record {
          legal_run = legal_run_so;
          laid = record { held = so.held; places = by_task.places; next_at = by_task.next_at };
          rank_places = ordered.0;
          rank_at = λ k known. ordered.1 k (omega (arith, so.few));
          after_places = by_home.places;
          after_at = by_home.next_at;
        };
        short = so.short;
        count = refl;
        home_places = housed.0;
        home_at = λ k known. housed.1 k (omega (arith, so.few));
        by_task = by_task;
        by_home = by_home;
        few_partitions = so.few_partitions;
        there = so.homes;
        room = so.room;
      }

module _ {o : Order} {b : Build} {script : List Release} {keys durations homes ranks next after oldest first : List ℕ} {tasks partitions places : ℕ}
    (so : Prepared o b script keys durations homes ranks next after oldest first tasks partitions places) where
  rank_few : (k : ℕ) → k < tasks → get_or ranks k 0 < most_tasks
  rank_few k below =
      let known : k < o.tasks = omega (arith, so.count) in
      omega (arith, so.lined.rank_at k known, so.lined.legal_run.ranked k known, rank_less o (members_of b (home_of b k)) k known, so.lined.legal_run.few)

  pub heads_from : HeadsFrom oldest homes ranks tasks
  heads_from =
      record {
        few = omega (arith, so.count, so.lined.legal_run.few);
        first_places = so.by_task.first_places;
        home_places = so.home_places;
        rank_places = so.lined.rank_places;
        rank_few = rank_few;
      }

  module _ (p : ℕ) (below : p < partitions) where
    no_two : (x y : ℕ) → x < tasks → y < tasks → get_or homes x 0 ≡ p → get_or homes y 0 ≡ p → get_or ranks x 0 ≡ get_or ranks y 0 → x ≡ y
    no_two x y a c home home' same = go (ℕ_discrete x y)
      where
        go : Dec (x ≡ y) → x ≡ y
        go (yes e) = e
        go (no n) =
            let known : x < o.tasks = omega (arith, so.count) in
            let known' : y < o.tasks = omega (arith, so.count) in
            absurd (ranks_apart so.lined.legal_run p x y known known' (sym (so.home_at x known) ∙ home) (sym (so.home_at y known') ∙ home') n (sym (so.lined.rank_at x known) ∙ same ∙ so.lined.rank_at y known'))

    abbrev pub heads : List ℕ
    heads = heads_of oldest homes ranks p tasks

    heads_are : (k : ℕ) → k < o.tasks → home_of b k ≡ p → get_or heads (rank_of b k) 0 ≡ get_or oldest k 0
    heads_are k known home =
        ap (λ (r : ℕ). get_or heads r 0) (sym (so.lined.rank_at k known))
        ∙ heads_at oldest homes ranks p tasks rank_few no_two k (omega (arith, so.count)) (so.home_at k known ∙ home)

    pub courses : Courses o b script p (first_machine heads (get_or first p 0))
    courses =
        first_courses so.lined.legal_run p heads (get_or first p 0) (length_heads oldest homes ranks p tasks)
        (λ k known home. rw (heads_are k known home) (so.by_task.first_at k (omega (arith, so.lined.legal_run.few))))
        (so.by_home.first_at p (omega (arith, so.few_partitions)))

    pub none_started : (i : ℕ) → i < length script → home_of b (record_task script i) ≡ p → i < oldest_of b (first_machine heads (get_or first p 0)) (record_task script i) → ⊥
    none_started i there home early =
        let k = record_task script i in
        let known = so.lined.legal_run.legal.known i there in
        (so.by_task.first_at k (omega (arith, so.lined.legal_run.few))).between i (omega arith) (omega (arith, heads_are k known home)) there refl

    abbrev pub begins : (m : Machine) → m ≡ first_machine heads (get_or first p 0) → (places' : ℕ) → places' ≡ places → Begins m keys durations ranks next after places'
    begins m e places' same =
        record {
          turns = record {
            order = o;
            build = b;
            script = script;
            partition = p;
            lined = so.lined;
            short = so.short;
            so_far = subst (Courses o b script p) (sym e) courses;
          };
          none_started = λ i there home. subst (λ (m : Machine). i < oldest_of b m (record_task script i) → ⊥) (sym e) (none_started i there home);
          room = omega (arith, so.room);
        }

-- the partitions below p have run
pub record RanBelow (o : Order) (b : Build) (script : List Release) (p : ℕ) (out then : List ℕ) : Type 0 where
  pub places : length then ≡ length out
  pub own : (i : ℕ) → i < length script → home_of b (record_task script i) < p → get_or then i 0 ≡ finish_of o b script i
  pub others : (i : ℕ) → (i < length script → home_of b (record_task script i) < p → ⊥) → get_or then i 0 ≡ get_or out i 0

module _ (o : Order) (b : Build) (script : List Release) (out : List ℕ) where
  pub ran_none : RanBelow o b script 0 out out
  ran_none = record { places = refl; own = λ i there below. absurd (omega arith); others = λ i not. refl }

  pub ran_more : (p : ℕ) (then last : List ℕ) → RanBelow o b script p out then → FinishesNoted o b script p then last → RanBelow o b script (p + 1) out last
  ran_more p then last was noted =
      record {
        places = noted.places ∙ was.places;
        own = λ i there below. own i there below (ℕ_discrete (home_of b (record_task script i)) p);
        others = λ i not. noted.others i (λ there home. not there (omega arith)) ∙ was.others i (λ there below. not there (omega arith));
      }
    where
      own : (i : ℕ) → i < length script → home_of b (record_task script i) < p + 1 → Dec (home_of b (record_task script i) ≡ p) → get_or last i 0 ≡ finish_of o b script i
      own i there below (yes e) = noted.own i there e
      own i there below (no n) = noted.others i (λ there home. n home) ∙ was.own i there (omega (arith, n))

  pub ran_all : (p : ℕ) (then : List ℕ) → length script ≤ length out → ((i : ℕ) → i < length script → home_of b (record_task script i) < p) → RanBelow o b script p out then
      → then ≡ finish_ticks o b script ++ drop (length script) out
  unfolding finish_ticks
  ran_all p then room all was =
      ext_get_or 0 then (overlaid (finish_of o b script) (length script) out) (was.places ∙ sym (length-overlaid (finish_of o b script) out (length script) room)) (λ i below. each i (dec_lt i (length script)))
    where
      each : (i : ℕ) → Dec (i < length script) → get_or then i 0 ≡ get_or (overlaid (finish_of o b script) (length script) out) i 0
      each i (yes l) = was.own i l (all i l) ∙ sym (overlaid_in (finish_of o b script) out (length script) i 0 l)
      each i (no g) = was.others i (λ l below. g l) ∙ sym (overlaid_past (finish_of o b script) out (length script) i 0 (omega arith))
