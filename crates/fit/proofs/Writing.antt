-- The records of all tasks, written in the order of their line.
use mathlib.Core.Path.{◌≡◌, refl, sym, ap, ◌∙◌, subst}
use mathlib.Core.Bool.{Bool, true, false, not, ◌&&◌}
use mathlib.Core.List.{List}
use mathlib.Core.Logic.{◌≢◌}
use Prim.Native.Nat.{ℕ, ◌+◌, ◌-◌, ◌≤◌, ◌<◌}
use native.Mathlib.Decide.{dec_lt, ℕ_discrete}
use native.Mathlib.Omega.{arith}
use lib.Dec.{eqb}
use lib.ListN.{length, get_or, set, replicate, length-set}
use lib.Seq.{get_or-set_same, get_or-set_other, ext_get_or}
use borrow.Author.Tests.{eqb-true, eqb-false}
use Rattle.laws.specs.Choice.{pick}
use Rattle.laws.specs.Joined.{listed, filled}
use Rattle.laws.proofs.Joined.{get_or-listed}
use Rattle.laws.proofs.Filled.{length-filled, filled_in, filled_past, get_or_alike}
use Rattle.model.specs.declared.order.Order.{Order}
use Rattle.model.specs.declared.build.Member.{Member}
use Rattle.model.specs.Limits.{most_tasks, zero_member}
use Rattle.demand.specs.Priority.{Members, rank}
use Rattle.demand.specs.Test.{verdict, response_of}
use Rattle.demand.proofs.Membership.{rank_same}
use Rattle.roster.specs.Keys.{home_in, key_number, key_at, number_at, lives_in}
use Rattle.roster.specs.Lined.{Lined, PartFrom, part_size}
use Rattle.roster.proofs.Runs.{run_stops}
use Rattle.roster.proofs.Ranks.{place_in, rank_is}
use Rattle.roster.proofs.Lining.{home_there, homes_rise, lined_part, lives_here, ranked_in, one_place}
use Rattle.turns.specs.Turns.{Homes, home_at, is_unplaced}
use Rattle.fitting.specs.Steps.{living_in}
use Rattle.fitting.proofs.Put.{none_waits}
use Rattle.placing.specs.declared.TaskLine.{TaskLine}
use Rattle.fit.specs.Recorded.{recorded_as}
use Rattle.fit.specs.Taking.{Recording}

module _ (line : TaskLine) where
  abbrev keys : List ℕ
  keys = line.keys

  abbrev worsts : List ℕ
  worsts = line.results.worsts

  abbrev tasks : ℕ
  tasks = line.placed

  -- the records of the places before this one are written, and its partition begins at the first
  pub record Filling (members : List Member) (first home place : ℕ) : Type 0 where
    pub upto : place ≤ tasks
    pub room : length members ≡ most_tasks
    pub begun : first ≤ place
    pub part : PartFrom keys tasks first home
    pub lower : (r : ℕ) → r < place → home_in (key_at keys r) ≤ home
    pub written : (so : Recording line) → (r : ℕ) → r < place → get_or members (number_at keys r) zero_member ≡ recorded_as so.order so.placing.homes (number_at keys r)
    pub untouched : (j : ℕ) → ((r : ℕ) → r < place → number_at keys r ≢ j) → get_or members j zero_member ≡ zero_member

  pub filling_none : (members : List Member) → members ≡ replicate most_tasks zero_member → Filling members 0 0 0
  filling_none members e =
      record {
        upto = omega arith;
        room = ap (λ (xs : List Member). length xs) e;
        begun = omega arith;
        part = record { upto = omega arith; earlier = λ r l. absurd (omega arith); later = λ r a l. omega arith };
        lower = λ r l. absurd (omega arith);
        written = λ so r l. absurd (omega arith);
        untouched = λ j away. ap (λ (xs : List Member). get_or xs j zero_member) e ∙ get_or_alike most_tasks j zero_member;
      }

  module _ (so : Recording line) where
    abbrev o : Order
    o = so.order

    abbrev homes : Homes
    homes = so.placing.homes

    in_line : Lined o (λ j. not (is_unplaced homes j)) (home_at homes) keys tasks
    in_line = so.lines.in_line

    pub few_tasks : tasks ≤ 32
    few_tasks = omega (arith, so.all, so.limits.tasks.1)

    pub number_small : (r : ℕ) → r < tasks → number_at keys r < most_tasks
    number_small r l = omega (arith, in_line.within r l, so.limits.tasks.1)

    all_placed : (j : ℕ) → j < o.tasks → is_unplaced homes j ≡ false
    all_placed j l = none_waits homes o.tasks (omega (arith, so.lines.stands.numbered.count)) j l

    -- the place's partition begins at the first of those that live there
    pub part_here : (members : List Member) (first home place : ℕ) → Filling members first home place → place < tasks
        → (b : Bool) → eqb (home_in (key_at keys place)) home ≡ b → PartFrom keys tasks (pick b first place) (home_in (key_at keys place))
    part_here members first home place is l true e = subst (PartFrom keys tasks first) (sym (eqb-true _ _ e)) is.part
    part_here members first home place is l false e =
        record {
          upto = omega arith;
          earlier = λ r a. (let more : home ≤ home_in (key_at keys place) = is.part.later place is.begun l in
              let other : home_in (key_at keys place) ≢ home = eqb-false _ _ e in omega (arith, is.lower r a, more, other));
          later = λ r a b. elim (ℕ_discrete r place) [
            | yes same ↦ omega (arith, ap (λ (x : ℕ). home_in (key_at keys x)) same)
            | no away ↦ homes_rise o so.limits (λ j. not (is_unplaced homes j)) (home_at homes) keys tasks in_line place r (omega (arith, away)) b
          ];
        }

    module _ (first place : ℕ) (l : place < tasks) (begun : first ≤ place) (part : PartFrom keys tasks first (home_in (key_at keys place))) where
      abbrev h : ℕ
      h = home_in (key_at keys place)

      abbrev i : ℕ
      i = number_at keys place

      pub home_is : home_at homes i ≡ h
      home_is = sym (home_there o so.limits (λ j. not (is_unplaced homes j)) (home_at homes) keys tasks in_line place l)

      -- it is among those who live there
      long : place - first < part_size keys tasks first h
      long = elim (dec_lt (place - first) (part_size keys tasks first h)) [
        | yes a ↦ a
        | no b ↦
            (let x = part_size keys tasks first h in
            let stop = eqb-false (home_in (key_at keys (first + x))) h (run_stops (lives_in h keys) first (tasks - first) (omega arith)) in
            let low : h ≤ home_in (key_at keys (first + x)) = part.later (first + x) (omega arith) (omega arith) in
            elim (ℕ_discrete (first + x) place) [
              | yes same ↦ absurd (stop (ap (λ (y : ℕ). home_in (key_at keys y)) same))
              | no away ↦ absurd (omega (arith, stop, low, homes_rise o so.limits (λ j. not (is_unplaced homes j)) (home_at homes) keys tasks in_line (first + x) place (omega (arith, away)) l))
            ])
      ]

      abbrev own : List ℕ
      own = listed (λ r. key_at keys (first + r)) (part_size keys tasks first h)

      copied : (r : ℕ) → r < part_size keys tasks first h → key_at own r ≡ key_at keys (first + r)
      copied r a = get_or-listed (λ s. key_at keys (first + s)) 0 (part_size keys tasks first h) r a

      abbrev there : Members
      there j = not (is_unplaced homes j) && eqb (home_at homes j) h

      alike : (j : ℕ) → j < o.tasks → living_in homes h j ≡ there j
      unfolding living_in
      alike j k = rw (all_placed j k) refl

      rank_there : rank o (living_in homes (home_at homes i)) i ≡ place - first
      rank_there =
          let lined = lined_part o so.limits (λ j. not (is_unplaced homes j)) (home_at homes) keys tasks in_line first h part own copied in
          let ranked = ranked_in o so.limits there (home_at homes) own (part_size keys tasks first h) h lined
          (lives_here o so.limits (λ j. not (is_unplaced homes j)) (home_at homes) keys tasks in_line first h part own copied) in
          let back : first + (place - first) ≡ place = omega arith in
          let same : number_at own (place - first) ≡ i = ap key_number (copied (place - first) long ∙ ap (key_at keys) back) in
          ap (λ (x : ℕ). rank o (living_in homes x) i) home_is
          ∙ rank_same o (living_in homes h) there i alike
          ∙ ap (rank o there) (sym same)
          ∙ rank_is o there (number_at own) (part_size keys tasks first h) ranked (place - first) long

      worst_there : response_of (verdict o (living_in homes (home_at homes i)) i) ≡ get_or worsts i 0
      worst_there = ap response_of (so.lines.known.passing i (in_line.within place l) (all_placed i (in_line.within place l)))

      pub record_is : recorded_as o homes i ≡ record { partition = h; rank = place - first; response = get_or worsts i 0 }
      unfolding recorded_as
      record_is =
          ap (λ (x : ℕ). record { partition = x; rank = rank o (living_in homes (home_at homes i)) i; response = response_of (verdict o (living_in homes (home_at homes i)) i) }) home_is
          ∙ ap (λ (x : ℕ). record { partition = h; rank = x; response = response_of (verdict o (living_in homes (home_at homes i)) i) }) rank_there
          ∙ ap (λ (x : ℕ). record { partition = h; rank = place - first; response = x }) worst_there

    -- another place has another task
    pub other_number : (r place : ℕ) → r < place → place < tasks → number_at keys r ≢ number_at keys place
    other_number r place a l e =
        (let same = one_place o so.limits (λ j. not (is_unplaced homes j)) (home_at homes) keys tasks in_line r place (omega arith) l e in omega (arith, same))

    pub no_higher : (r place : ℕ) → r < place → place < tasks → home_in (key_at keys r) ≤ home_in (key_at keys place)
    no_higher r place a l = homes_rise o so.limits (λ j. not (is_unplaced homes j)) (home_at homes) keys tasks in_line r place a l

    -- each task has a place
    pub place_there : (j : ℕ) → j < o.tasks → (r : ℕ) × (r < tasks) × (number_at keys r ≡ j)
    place_there j l = place_in o (λ x. not (is_unplaced homes x)) (number_at keys) tasks in_line.sums j l (ap not (all_placed j l))

    pub number_known : (r : ℕ) → r < tasks → number_at keys r < o.tasks
    number_known r l = in_line.within r l

module _ (line : TaskLine) (so : Recording line) where
  module _ (members : List Member) (first home place first' : ℕ) (is : Filling line members first home place) (l : place < line.placed)
      (e : first' ≡ pick (eqb (home_in (key_at line.keys place)) home) first place) where
    abbrev number : ℕ
    number = number_at line.keys place

    abbrev written_now : Member
    written_now = record { partition = home_in (key_at line.keys place); rank = place - first'; response = get_or line.results.worsts number 0 }

    part' : PartFrom line.keys line.placed first' (home_in (key_at line.keys place))
    part' = subst (λ (x : ℕ). PartFrom line.keys line.placed x (home_in (key_at line.keys place))) (sym e) (part_here line so members first home place is l (eqb (home_in (key_at line.keys place)) home) refl)

    pub begun' : first' ≤ place
    begun' = go (eqb (home_in (key_at line.keys place)) home) e
      where
        go : (b : Bool) → first' ≡ pick b first place → first' ≤ place
        go true x = omega (arith, x, is.begun)
        go false x = omega (arith, x)

    pub filling_more : Filling line (set members number written_now) first' (home_in (key_at line.keys place)) (place + 1)
    filling_more =
        record {
          upto = omega arith;
          room = length-set members number written_now ∙ is.room;
          begun = omega (arith, begun');
          part = part';
          lower = λ r a. elim (ℕ_discrete r place) [
            | yes same ↦ omega (arith, ap (λ (x : ℕ). home_in (key_at line.keys x)) same)
            | no away ↦ no_higher line so r place (omega (arith, away)) l
          ];
          written = λ any r a. elim (ℕ_discrete r place) [
            | yes same ↦ subst (λ (x : ℕ). get_or (set members number written_now) (number_at line.keys x) zero_member ≡ recorded_as any.order any.placing.homes (number_at line.keys x)) (sym same)
                (get_or-set_same members number written_now zero_member (omega (arith, number_small line so place l, is.room)) ∙ sym (record_is line any first' place l begun' part'))
            | no away ↦ get_or-set_other members number (number_at line.keys r) written_now zero_member (other_number line so r place (omega (arith, away)) l) ∙ is.written any r (omega (arith, away))
          ];
          untouched = λ j away. get_or-set_other members number j written_now zero_member (λ x. away place (omega arith) (sym x)) ∙ is.untouched j (λ r a. away r (omega arith));
        }

    -- as the code writes it
    pub filling_next : (h number' : ℕ) → h ≡ home_in (key_at line.keys place) → number' ≡ number → Filling line (set members number' (record { partition = h; rank = place - first'; response = get_or line.results.worsts number' 0 })) first' h (place + 1)
    filling_next h number' at there = rw (at, there) filling_more

  pub filling_all : (members : List Member) (first home place : ℕ) → Filling line members first home place → line.placed ≤ place
      → members ≡ filled (recorded_as so.order so.placing.homes) zero_member most_tasks so.order.tasks
  filling_all members first home place is le =
      ext_get_or zero_member members (filled f zero_member most_tasks n)
      (is.room ∙ sym (length-filled f zero_member most_tasks n so.limits.tasks.1))
      (λ j a. elim (dec_lt j n) [
        | yes l ↦ (let at = place_there line so j l in
            ap (λ (x : ℕ). get_or members x zero_member) (sym at.2) ∙ is.written so at.0 (omega (arith, at.1)) ∙ ap f at.2 ∙ sym (filled_in f zero_member most_tasks n j l))
        | no past ↦ is.untouched j (λ r b x. omega (arith, number_known line so r (omega (arith, is.upto)), x)) ∙ sym (filled_past f zero_member most_tasks n j (omega arith))
      ])
    where
      n : ℕ
      n = so.order.tasks

      f : ℕ → Member
      f = recorded_as so.order so.placing.homes
