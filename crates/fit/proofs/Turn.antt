-- One turn: what comes of it, by the partition that takes the task, or that none does.
use Rattle.std.specs.Prelude.{Result, Ok, Some, None, Option}
use mathlib.Core.Path.{◌≡◌, refl, sym, ap, ap₂, ◌∙◌, subst}
use mathlib.Core.Bool.{true, false, not}
use mathlib.Core.List.{List}
use mathlib.Core.Logic.{◌≢◌}
use Prim.Native.Nat.{ℕ, ◌+◌, ◌-◌, ◌≤◌, ◌<◌}
use native.Mathlib.Decide.{dec_le, ℕ_discrete}
use native.Mathlib.Omega.{arith}
use lib.ListN.{length, get_or, set, length-set}
use lib.Seq.{get_or-set_same, get_or-set_other}
use Rattle.laws.specs.Joined.{overlaid}
use Rattle.laws.proofs.Every.{clash}
use Rattle.laws.proofs.Overlaid.{overlaid_in, length-overlaid}
use Rattle.model.specs.declared.order.Order.{Order}
use Rattle.model.specs.declared.answer.Refusal.{Refusal}
use Rattle.model.specs.Limits.{most_tasks}
use Rattle.search.proofs.First.{Firstly, first_says}
use Rattle.demand.specs.Priority.{deadline_of}
use Rattle.demand.specs.Releases.{cost_of}
use Rattle.demand.specs.Test.{verdict}
use Rattle.demand.proofs.Membership.{verdict_same, every_alone_passes}
use Rattle.asked.specs.declared.rows.Rows.{Rows}
use Rattle.asked.specs.Rows.{cost_at, deadline_at}
use Rattle.roster.specs.Keys.{key_of, key_at, with_key}
use Rattle.roster.specs.Lined.{Lined}
use Rattle.roster.proofs.Lining.{lined_same, lined_with}
use Rattle.turns.specs.Turns.{Homes, width_of, unplaced, home_at, is_unplaced, next_task}
use Rattle.turns.specs.Claims.{IsNext}
use Rattle.turns.proofs.Turns.{next_is, none_next}
use Rattle.fitting.specs.declared.Placing.{Placing}
use Rattle.fitting.specs.Steps.{put, open_next, refusing, told, living_in, accepts, lowest_accepting, opening}
use Rattle.fitting.proofs.Put.{one_waits, put_here, put_other, put_placed, put-unplaced, living_kept}
use Rattle.fitting.proofs.Standing.{stands_accepted, stands_opened, alone_there}
use Rattle.fitting.proofs.Turning.{widths, step-put, step_open, step_refuse, opening_new, opening_none}
use Rattle.trial.specs.declared.Results.{Results}
use Rattle.placing.specs.declared.TaskLine.{TaskLine}
use Rattle.placing.specs.Known.{OpenUntil, Known, InLine, seated, Trying, Lowest}
use Rattle.placing.proofs.Beside.{open_more}
use Rattle.fit.specs.Taking.{Lines, Taking, Taken}

module _ (o : Order) (table : Rows) (s : Placing) (line : TaskLine) (t : Taking o table s line) where
  abbrev keys : List ℕ
  keys = line.keys

  abbrev placed : ℕ
  placed = line.placed

  abbrev lasts : List ℕ
  lasts = line.results.lasts

  abbrev worsts : List ℕ
  worsts = line.results.worsts

  abbrev homes : Homes
  homes = s.homes

  pub few_tasks : o.tasks ≤ 32
  few_tasks = t.limits.tasks.1

  pub idle_turn : (r : Result Placing Refusal) → next_task o homes o.tasks ≡ None → (after : TaskLine) → Taken o s line r after
  idle_turn r none after =
      let one = one_waits homes o.tasks (omega (arith, t.lines.stands.numbered.count, t.early)) in
      clash (sym (none_next o homes o.tasks none one.0 one.1) ∙ one.2)

  module _ (i : ℕ) (turn : next_task o homes o.tasks ≡ Some i) where
    pub next : IsNext o homes o.tasks i
    next = next_is o homes o.tasks i turn

    pub task_small : i < most_tasks
    task_small = omega (arith, next.below, few_tasks)

    abbrev pub trying : Trying table line i
    trying =
        record {
          order = o;
          limits = t.limits;
          homes = homes;
          places = t.lines.stands.numbered.places;
          rows = t.rows;
          known_task = next.below;
          waits = next.waiting;
          room = omega (arith, t.early, few_tasks);
          in_line = t.lines.in_line;
          known = t.lines.known;
        }

    pub deadline_is : deadline_at table i ≡ deadline_of o i
    deadline_is = (t.rows.each i next.below).deadline

    pub deadline_near : deadline_at table i ≤ 1_000_000
    deadline_near = (let task = t.limits.each i next.below in omega (arith, deadline_is, task.deadline_in.1, task.period_in.1))

    pub opened_few : s.opened < 32
    opened_few = omega (arith, t.lines.stands.numbered.few, t.early, few_tasks)

    room : i < length homes
    room = omega (arith, task_small, t.lines.stands.numbered.places)

    -- the line with the task in its place
    module _ (k key : ℕ) (few : k < unplaced) (key_is : key ≡ key_of k (deadline_at table i) i) (keys' : List ℕ) (put_in : keys' ≡ overlaid (with_key key keys placed) (placed + 1) keys) where
      abbrev homes' : Homes
      homes' = set homes i (Some k)

      placed_now : not (is_unplaced homes' i) ≡ true
      placed_now = ap not (put_placed homes i k room few)

      moved : Lined o (λ j. not (is_unplaced homes j)) (home_at homes') keys placed
      moved =
          lined_same o (λ j. not (is_unplaced homes j)) (λ j. not (is_unplaced homes j)) (home_at homes) (home_at homes') keys keys placed (λ j l. refl)
          (λ j l m. put_other homes i k room j (λ e. clash (ap not (sym next.waiting) ∙ ap (λ (x : ℕ). not (is_unplaced homes x)) (sym e) ∙ m)))
          (λ r l. refl) t.lines.in_line

      put_key : (r : ℕ) → r < placed + 1 → key_at keys' r ≡ with_key (key_of (home_at homes' i) (deadline_of o i) i) keys placed r
      put_key r l =
          ap (λ (xs : List ℕ). key_at xs r) put_in
          ∙ overlaid_in (with_key key keys placed) keys (placed + 1) r 0 l
          ∙ ap (λ (x : ℕ). with_key x keys placed r) (key_is ∙ ap (λ (d : ℕ). key_of k d i) deadline_is ∙ ap (λ (h : ℕ). key_of h (deadline_of o i) i) (sym (put_here homes i k room)))

      pub line_then : InLine o homes' keys' (placed + 1)
      line_then =
          lined_with o t.limits (λ j. not (is_unplaced homes j)) (λ j. not (is_unplaced homes' j)) (home_at homes') keys keys' placed i moved next.below
          (ap not next.waiting) placed_now (λ j l away. ap not (put-unplaced homes i k room j away)) put_key

      pub keys_then : length keys' ≡ most_tasks
      keys_then = ap (λ (xs : List ℕ). length xs) put_in ∙ length-overlaid (with_key key keys placed) keys (placed + 1) (omega (arith, t.lines.key_places, t.early, few_tasks)) ∙ t.lines.key_places

    -- the line with the task in its place, and what is known then
    abbrev line_with : (key : ℕ) (results : Results ℕ) → TaskLine
    line_with key results = record { keys = overlaid (with_key key keys placed) (placed + 1) keys; placed = placed + 1; results = results }

    -- a task alone responds in its own cost
    abbrev lone_response : Results ℕ → Results ℕ
    lone_response results = record { lasts = results.lasts; worsts = set results.worsts i (cost_at table i) }

    -- an open partition takes it
    pub seated_there : (k key : ℕ) (found : Option ℕ) (tried after : TaskLine) (r : Result Placing Refusal) → Lowest table line i trying s.opened found tried → found ≡ Some k
        → key ≡ key_of k (deadline_at table i) i → after ≡ seated tried key → r ≡ Ok (put s i k) → Taken o s line r after
    unfolding lowest_accepting
    seated_there k key found tried after r is at key_is put_in e =
        let lowest : lowest_accepting o s i ≡ Some k = sym is.answer ∙ at in
        let first = subst (Firstly (accepts o homes i) s.opened) lowest (first_says (accepts o homes i) s.opened) in
        let few : k < unplaced = omega (arith, first.below, opened_few) in
        let here : after ≡ line_with key tried.results =
        put_in ∙ ap₂ (λ (ks : List ℕ) (n : ℕ). record { keys = overlaid (with_key key ks n) (n + 1) ks; placed = n + 1; results = tried.results }) is.same_line.0 is.same_line.1 in
        subst (Taken o s line r) (sym here)
        (record {
          answer = e ∙ ap told (sym (step-put o s i turn k lowest));
          lines = λ next_one done. (let same : put s i k ≡ next_one = cc (sym e ∙ done) in subst (λ (x : Placing). Lines o x (line_with key tried.results)) same
              (record {
                stands = stands_accepted o t.limits (widths o t.limits) placed s t.lines.stands t.early i next k first.below first.holds;
                key_places = keys_then k key few key_is _ refl;
                in_line = line_then k key few key_is _ refl;
                known = is.taken k at;
              }));
          one_more = λ next_one done. refl;
        })

    -- none does: it stands alone in a new one
    module _ (worsts' : List ℕ) (put-worst : worsts' ≡ set worsts i (cost_at table i)) where
      abbrev k : ℕ
      k = s.opened

      abbrev homes'' : Homes
      homes'' = set homes i (Some k)

      alone : (j : ℕ) → j < o.tasks → j ≢ i → living_in homes'' k j ≡ false
      alone j l away = alone_there o t.limits homes k placed t.lines.stands.numbered t.early i next j l away

      worst_other : (j : ℕ) → j ≢ i → get_or worsts' j 0 ≡ get_or worsts j 0
      worst_other j away = ap (λ (xs : List ℕ). get_or xs j 0) put-worst ∙ get_or-set_other worsts i j (cost_at table i) 0 away

      worst_own : get_or worsts' i 0 ≡ cost_of o i
      worst_own = ap (λ (xs : List ℕ). get_or xs i 0) put-worst ∙ get_or-set_same worsts i (cost_at table i) 0 (omega (arith, task_small, t.lines.known.worst_places)) ∙ (t.rows.each i next.below).cost_is

      was_placed : (j : ℕ) → j ≢ i → is_unplaced homes'' j ≡ false → is_unplaced homes j ≡ false
      was_placed j away p = sym (put-unplaced homes i k room j away) ∙ p

      kept : (j : ℕ) → j < o.tasks → j ≢ i → is_unplaced homes j ≡ false → (x : ℕ) → x < o.tasks → living_in homes'' (home_at homes'' j) x ≡ living_in homes (home_at homes j) x
      kept j l away p x lx = living_kept homes i k room next.waiting j (alone j l away) (t.lines.known.homes_there j l p) x

      passing_then : (j : ℕ) → j < o.tasks → is_unplaced homes'' j ≡ false → verdict o (living_in homes'' (home_at homes'' j)) j ≡ Ok (get_or worsts' j 0)
      passing_then j l p = elim (ℕ_discrete j i) [
        | yes e ↦ subst (λ (x : ℕ). verdict o (living_in homes'' (home_at homes'' x)) x ≡ Ok (get_or worsts' x 0)) (sym e)
            (ap (λ (h : ℕ). verdict o (living_in homes'' h) i) (put_here homes i k room) ∙ every_alone_passes o (living_in homes'' k) i t.limits next.below alone ∙ ap Ok (sym worst_own))
        | no away ↦ (let was = was_placed j away p in
            verdict_same o (living_in homes'' (home_at homes'' j)) (living_in homes (home_at homes j)) j (kept j l away was) ∙ t.lines.known.passing j l was ∙ ap Ok (sym (worst_other j away)))
      ]

      open_then : (j : ℕ) → j < o.tasks → is_unplaced homes'' j ≡ false → OpenUntil o (living_in homes'' (home_at homes'' j)) j (get_or lasts j 0)
      open_then j l p = elim (ℕ_discrete j i) [
        | yes e ↦ (let none : get_or lasts j 0 ≡ 0 = ap (λ (x : ℕ). get_or lasts x 0) e ∙ t.lines.known.waiting i next.below next.waiting in λ w below. absurd (omega arith))
        | no away ↦ (let was = was_placed j away p in
            open_more o (living_in homes (home_at homes j)) (living_in homes'' (home_at homes'' j)) (λ x lx m. kept j l away was x lx ∙ m) j (get_or lasts j 0) (t.lines.known.unclosed j l was))
      ]

      known_then : Known o homes'' (record { lasts = lasts; worsts = worsts' })
      known_then =
          record {
            last_places = t.lines.known.last_places;
            worst_places = ap (λ (xs : List ℕ). length xs) put-worst ∙ length-set worsts i (cost_at table i) ∙ t.lines.known.worst_places;
            homes_there = λ j l p. elim (ℕ_discrete j i) [
              | yes e ↦ (λ z. omega (arith, z, ap (home_at homes'') e, put_here homes i k room, opened_few))
              | no away ↦ (λ z. t.lines.known.homes_there j l (was_placed j away p) (omega (arith, z, put_other homes i k room j away)))
            ];
            waiting = λ j l u. (let away : j ≢ i = λ e. clash (sym (put_placed homes i k room opened_few) ∙ ap (is_unplaced homes'') (sym e) ∙ u) in
                t.lines.known.waiting j l (sym (put-unplaced homes i k room j away) ∙ u));
            near = t.lines.known.near;
            unclosed = open_then;
            passing = passing_then;
          }

      pub alone_seated : (key : ℕ) (found : Option ℕ) (r : Result Placing Refusal) → found ≡ lowest_accepting o s i → found ≡ None
          → key ≡ key_of k (deadline_at table i) i → r ≡ told (opening o s i) → Taken o s line r (line_with key (record { lasts = lasts; worsts = worsts' }))
      alone_seated key found r lowest none key_is e = elim (dec_le (width_of o i) (o.processors - s.used)) [
        | yes fits ↦ (let on : r ≡ Ok (put (open_next s (width_of o i)) i k) = e ∙ ap told (opening_new o s i fits) in
            record {
              answer = on ∙ ap told (sym (step_open o s i turn (sym lowest ∙ none) fits));
              lines = λ next_one done. (let same : put (open_next s (width_of o i)) i k ≡ next_one = cc (sym on ∙ done) in subst (λ (x : Placing). Lines o x (line_with key (record { lasts = lasts; worsts = worsts' }))) same
                  (record {
                    stands = stands_opened o t.limits (widths o t.limits) placed s t.lines.stands t.early i next (omega (arith, t.lines.stands.laid.inside));
                    key_places = keys_then k key opened_few key_is _ refl;
                    in_line = line_then k key opened_few key_is _ refl;
                    known = known_then;
                  }));
              one_more = λ next_one done. refl;
            })
        | no short ↦ (let less : o.processors - s.used < width_of o i = omega arith in
            let stop : r ≡ told (refusing s i) = e ∙ ap told (opening_none o s i less) in
            record {
              answer = stop ∙ ap told (sym (step_refuse o s i turn (sym lowest ∙ none) less));
              lines = λ next_one done. absurd (cc (sym stop ∙ done));
              one_more = λ next_one done. refl;
            })
      ]

    -- what was found is an opened partition
    pub found_few : (k : ℕ) (found : Option ℕ) (tried : TaskLine) → Lowest table line i trying s.opened found tried → found ≡ Some k → k < 32
    found_few k found tried is at =
        let first = subst (Firstly (accepts o homes i) s.opened) (sym is.answer ∙ at) (first_says (accepts o homes i) s.opened) in
        omega (arith, first.below, opened_few)

    -- the line has room for it still
    pub room_there : (found : Option ℕ) (tried : TaskLine) → Lowest table line i trying s.opened found tried → (tried.placed < most_tasks) × (length tried.keys ≡ most_tasks)
    room_there found tried is = (omega (arith, is.same_line.1, t.early, few_tasks), ap (λ (xs : List ℕ). length xs) is.same_line.0 ∙ t.lines.key_places)

    -- none takes it, as the search leaves what is known
    pub none_takes : (key : ℕ) (found : Option ℕ) (tried after : TaskLine) (r : Result Placing Refusal) → Lowest table line i trying s.opened found tried → found ≡ None
        → key ≡ key_of s.opened (deadline_at table i) i → after ≡ seated (record { keys = tried.keys; placed = tried.placed; results = lone_response tried.results }) key
        → r ≡ told (opening o s i) → Taken o s line r after
    unfolding lowest_accepting
    none_takes key found tried after r is none key_is put_in e =
        let here : after ≡ line_with key (lone_response line.results) =
        put_in ∙ ap (λ (x : TaskLine). seated (record { keys = x.keys; placed = x.placed; results = lone_response x.results }) key) (is.refused none) in
        subst (Taken o s line r) (sym here) (alone_seated (set worsts i (cost_at table i)) refl key found r is.answer none key_is e)
