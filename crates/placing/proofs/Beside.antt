-- A waiting task beside the members of a partition: what its trial over their rows says of the order.
use Rattle.std.specs.Prelude.{Some, Ok}
use mathlib.Core.Path.{◌≡◌, refl, sym, ap, ◌∙◌, subst}
use mathlib.Core.Bool.{Bool, true, false, not, ◌&&◌}
use mathlib.Core.List.{List}
use mathlib.Core.Logic.{◌≢◌}
use Prim.Native.Nat.{ℕ, ◌+◌, ◌≤◌, ◌<◌}
use native.Mathlib.Decide.{ℕ_discrete}
use native.Mathlib.Omega.{arith}
use lib.Dec.{eqb}
use lib.ListN.{length, get_or, set}
use Rattle.laws.specs.Sums.{only}
use Rattle.laws.specs.Every.{every}
use Rattle.laws.proofs.Choice.{same_test}
use Rattle.laws.proofs.Every.{clash, both_and, every_at, every_all}
use Rattle.laws.proofs.Only.{only_true}
use Rattle.laws.proofs.Sums.{sum_le, largest_in}
use Rattle.model.specs.declared.order.Order.{Order}
use Rattle.model.specs.Limits.{most_tasks, task_of, cost}
use Rattle.model.specs.Rules.{WithinLimits}
use Rattle.demand.specs.Priority.{Members, deadline_of, outranks, higher, lower}
use Rattle.demand.specs.Releases.{cost_of, work_by}
use Rattle.demand.specs.Test.{blocking, higher_work, verdict, does_pass}
use Rattle.demand.proofs.Membership.{verdict_same}
use Rattle.demand.proofs.Newcomer.{blocking_more, newcomer_below}
use Rattle.asked.specs.declared.rows.Row.{Row}
use Rattle.asked.specs.declared.rows.Rows.{Rows}
use Rattle.asked.specs.Rows.{cost_at, asked_by, blocking_in, RowsFit}
use Rattle.asked.specs.Met.{UnmetBelow}
use Rattle.trial.specs.Known.{of_rank, verdict_at, passes_at, Shielded, KnownBefore, KnownAfter}
use Rattle.trial.specs.declared.Results.{Results}
use Rattle.roster.specs.Keys.{key_of, key_number, key_at, number_at, spot_for, with_key}
use Rattle.roster.specs.Rows.{RowsByNumber, RowsInLine}
use Rattle.roster.specs.Ranked.{Ranked, RowsOf}
use Rattle.roster.specs.Lined.{Lined, PartFrom, part_size}
use Rattle.laws.proofs.Inserted.{inserted_here}
use Rattle.roster.proofs.Line.{spot_most}
use Rattle.roster.proofs.Ranks.{place_of}
use Rattle.roster.proofs.Tied.{rows_fit, asked_with, blocking_is, verdict_is}
use Rattle.roster.proofs.Lining.{number_of_key, lined_same, one_place, ranked_in, lined_with, lined_part}
use Rattle.turns.specs.Turns.{Homes, unplaced, home_at, is_unplaced}
use Rattle.fitting.specs.Steps.{living_in, accepts}
use Rattle.fitting.proofs.Put.{unplaced_says, living_says, says_living, says_away, living_same, put_here, put_other, put-unplaced, living_kept}
use Rattle.fitting.proofs.Accepts.{members_say, say_members}
use Rattle.placing.specs.Known.{OpenUntil, Known, InLine}

not-false : (b : Bool) → not b ≡ true → b ≡ false
not-false true e = clash e
not-false false e = refl

false_not : (b : Bool) → b ≡ false → not b ≡ true
false_not b e = ap not e

-- more members ask more
module _ (o : Order) (before after : Members) (more : (k : ℕ) → k < o.tasks → before k ≡ true → after k ≡ true) where
  only_fewer : (b c d : Bool) (x : ℕ) → (b ≡ true → c ≡ true) → only (b && d) x ≤ only (c && d) x
  only_fewer true c d x h = rw (h refl) (omega arith)
  only_fewer false c d x h = omega arith

  higher_more : (i w : ℕ) → higher_work o before i w ≤ higher_work o after i w
  unfolding higher_work higher
  higher_more i w = sum_le _ _ o.tasks (λ j l. only_fewer (before j) (after j) (outranks o j i) (work_by (task_of o j) w) (more j l))

  pub open_more : (i last : ℕ) → OpenUntil o before i last → OpenUntil o after i last
  open_more i last is s l = omega (arith, is s l, higher_more i s, blocking_more o before after more i)

-- a partition with a newcomer: who lived there and who lives there now
module _ (o : Order) (limits : WithinLimits o) (homes : Homes) (places : length homes ≡ most_tasks) (task k : ℕ) (known_task : task < o.tasks) (waits : is_unplaced homes task ≡ true) (few : k < 32) where
  abbrev homes' : Homes
  homes' = set homes task (Some k)

  room : task < length homes
  room = omega (arith, places, limits.tasks.1)

  pub here : home_at homes' task ≡ k
  here = put_here homes task k room

  other : (j : ℕ) → j ≢ task → home_at homes' j ≡ home_at homes j
  other j away = put_other homes task k room j away

  -- the newcomer lived nowhere
  pub lived_nowhere : living_in homes k task ≡ false
  lived_nowhere = says_away homes k task (λ e. omega (arith, e, unplaced_says homes task waits))

  pub lives_now : living_in homes' k task ≡ true
  lives_now = says_living homes' k task here

  pub others_stay : (j : ℕ) → j < o.tasks → j ≢ task → living_in homes' k j ≡ living_in homes k j
  others_stay j l away = living_same homes' homes k k j (other j away) refl

  pub more_there : (j : ℕ) → j < o.tasks → living_in homes k j ≡ true → living_in homes' k j ≡ true
  more_there j l e = elim (ℕ_discrete j task) [
    | yes same ↦ ap (living_in homes' k) same ∙ lives_now
    | no away ↦ others_stay j l away ∙ e
  ]

  -- a member that lived there was placed
  pub placed_there : (j : ℕ) → living_in homes k j ≡ true → is_unplaced homes j ≡ false
  placed_there j e = go (is_unplaced homes j) refl
    where
      go : (b : Bool) → is_unplaced homes j ≡ b → is_unplaced homes j ≡ false
      go false u = u
      go true u = absurd (omega (arith, unplaced_says homes j u, living_says homes k j e))

  -- a member other than the newcomer lived there before
  pub lived_there : (j : ℕ) → j < o.tasks → j ≢ task → living_in homes' k j ≡ true → living_in homes k j ≡ true
  lived_there j l away e = sym (others_stay j l away) ∙ e

  -- the line of those who lived there, by the new numbers
  module _ (keys : List ℕ) (placed first : ℕ) (line : InLine o homes keys placed) (from : PartFrom keys placed first k)
      (own own' : List ℕ) (rows table : Rows)
      (copied : (r : ℕ) → r < part_size keys placed first k → key_at own r ≡ key_at keys (first + r))
      (put : (r : ℕ) → r < part_size keys placed first k + 1 → key_at own' r ≡ with_key (key_of k (deadline_of o task) task) own (part_size keys placed first k) r)
      (small : part_size keys placed first k < 32)
      (by_number : RowsByNumber o o.tasks table)
      (filled : RowsInLine table own' (part_size keys placed first k + 1) rows) where
    abbrev size : ℕ
    size = part_size keys placed first k

    abbrev count : ℕ
    count = size + 1

    abbrev newcomer : ℕ
    newcomer = spot_for (key_of k (deadline_of o task) task) own size

    -- who stood in line and lived in k is who lived in k
    alike : (j : ℕ) → j < o.tasks → living_in homes k j ≡ (not (is_unplaced homes j) && eqb (home_at homes j) k)
    unfolding living_in
    alike j l = go (eqb (home_at homes j) k) refl
      where
        go : (b : Bool) → eqb (home_at homes j) k ≡ b → eqb (home_at homes j) k ≡ (not (is_unplaced homes j) && eqb (home_at homes j) k)
        go true e = e ∙ sym (both_and _ _ (false_not _ (placed_there j e)) e)
        go false e = go' (not (is_unplaced homes j))
          where
            go' : (c : Bool) → eqb (home_at homes j) k ≡ (c && eqb (home_at homes j) k)
            go' true = refl
            go' false = e

    before_line : Lined o (living_in homes k) (home_at homes') own size
    before_line =
        lined_same o (λ j. not (is_unplaced homes j) && eqb (home_at homes j) k) (living_in homes k) (home_at homes) (home_at homes') own own size
        alike
        (λ j l m. other j (λ e. clash (sym lived_nowhere ∙ ap (living_in homes k) (sym e) ∙ alike j l ∙ m)))
        (λ r l. refl)
        (lined_part o limits (λ j. not (is_unplaced homes j)) (home_at homes) keys placed line first k from own copied)

    put' : (r : ℕ) → r < count → key_at own' r ≡ with_key (key_of (home_at homes' task) (deadline_of o task) task) own size r
    put' r l = put r l ∙ ap (λ (h : ℕ). with_key (key_of h (deadline_of o task) task) own size r) (sym here)

    pub line_now : Lined o (living_in homes' k) (home_at homes') own' count
    line_now = lined_with o limits (living_in homes k) (living_in homes' k) (home_at homes') own own' size task before_line known_task lived_nowhere lives_now others_stay put'

    pub ranked : Ranked o (living_in homes' k) (number_at own') count
    ranked = ranked_in o limits (living_in homes' k) (home_at homes') own' count k line_now (λ r l. living_says homes' k (number_at own' r) (line_now.members r l))

    pub rows_are : RowsOf o (number_at own') count rows
    rows_are r l =
        let i = number_at own' r in
        let of_task = by_number.each i (line_now.within r l) in
        record {
          period = ap (λ (x : Row). x.period) (filled.each r l) ∙ of_task.period;
          cost_is = ap (λ (x : Row). x.cost) (filled.each r l) ∙ of_task.cost_is;
          share = ap (λ (x : Row). x.share) (filled.each r l) ∙ of_task.share;
          deadline = ap (λ (x : Row). x.deadline) (filled.each r l) ∙ of_task.deadline;
        }

    few_rows : count ≤ most_tasks
    few_rows = omega arith

    pub fit : RowsFit rows count
    fit = rows_fit o limits (living_in homes' k) (number_at own') count rows ranked few_rows rows_are

    -- the newcomer's place
    pub newcomer_in : newcomer < count
    newcomer_in = omega (arith, spot_in)
      where
        spot_in : newcomer ≤ size
        spot_in = spot_most (key_of k (deadline_of o task) task) own size

    pub newcomer_is : number_at own' newcomer ≡ task
    newcomer_is =
        let own_key = key_of k (deadline_of o task) task in
        let at : key_at own' newcomer ≡ own_key = put newcomer newcomer_in ∙ inserted_here newcomer own_key (key_at own) in
        ap key_number at ∙ number_of_key k (deadline_of o task) task (omega (arith, limits.tasks.1))

    pub verdict_there : (r : ℕ) → r < count → verdict_at rows count r ≡ verdict o (living_in homes' k) (number_at own' r)
    verdict_there r l = verdict_is o limits (living_in homes' k) (number_at own') count rows ranked few_rows rows_are r l

    -- what is open by the order is open by the rows, and back
    pub open_rows : (r last : ℕ) → r < count → OpenUntil o (living_in homes' k) (number_at own' r) last → UnmetBelow (asked_by rows (r + 1)) (blocking_in rows count r) last
    open_rows r last l is s below =
        omega (arith, is s below, asked_with o limits (living_in homes' k) (number_at own') count rows ranked few_rows rows_are r s l, blocking_is o limits (living_in homes' k) (number_at own') count rows ranked few_rows rows_are r l)

    pub rows_open : (r last : ℕ) → r < count → UnmetBelow (asked_by rows (r + 1)) (blocking_in rows count r) last → OpenUntil o (living_in homes' k) (number_at own' r) last
    rows_open r last l is s below =
        omega (arith, is s below, asked_with o limits (living_in homes' k) (number_at own') count rows ranked few_rows rows_are r s l, blocking_is o limits (living_in homes' k) (number_at own') count rows ranked few_rows rows_are r l)

    -- before the trial
    module _ (results : Results ℕ) (known : Known o homes results) where
      lived : (r : ℕ) → r < count → number_at own' r ≢ task → living_in homes k (number_at own' r) ≡ true
      lived r l away = lived_there (number_at own' r) (line_now.within r l) away (line_now.members r l)

      at_home : (r : ℕ) → (l : r < count) → (away : number_at own' r ≢ task) → home_at homes (number_at own' r) ≡ k
      at_home r l away = living_says homes k (number_at own' r) (lived r l away)

      still_open : (r : ℕ) → r < count → UnmetBelow (asked_by rows (r + 1)) (blocking_in rows count r) (of_rank own' results.lasts r)
      still_open r l = elim (ℕ_discrete (number_at own' r) task) [
        | yes same ↦ (let none : of_rank own' results.lasts r ≡ 0 = ap (λ (i : ℕ). get_or results.lasts i 0) same ∙ known.waiting task known_task waits in λ s below. absurd (omega arith))
        | no away ↦
            (let i = number_at own' r in
            let was = known.unclosed i (line_now.within r l) (placed_there i (lived r l away)) in
            open_rows r (get_or results.lasts i 0) l (open_more o (living_in homes k) (living_in homes' k) more_there i (get_or results.lasts i 0)
            (subst (λ (h : ℕ). OpenUntil o (living_in homes h) i (get_or results.lasts i 0)) (at_home r l away) was)))
      ]

      -- a shielded member is blocked as long already
      long_blocked : (h : ℕ) → h < newcomer → Shielded rows count newcomer h → cost_of o task ≤ blocking o (living_in homes k) (number_at own' h) + 1
      unfolding blocking lower cost
      long_blocked h a is =
          let x = number_at own' is.by in
          let j = number_at own' h in
          let away : x ≢ task = λ e. is.another (one_place o limits (living_in homes' k) (home_at homes') own' count line_now is.by newcomer is.inside newcomer_in (e ∙ sym newcomer_is)) in
          let f : ℕ → ℕ = λ y. only (living_in homes k y && outranks o j y) (cost_of o y) in
          let counts : f x ≡ cost_of o x = only_true _ _ (both_and _ _ (lived is.by is.inside away) (ranked.falling h is.by is.after is.inside)) in
          let most = largest_in f o.tasks x (line_now.within is.by is.inside) in
          let mine : cost_at rows newcomer ≡ cost_of o task = (rows_are newcomer newcomer_in).cost_is ∙ ap (cost_of o) newcomer_is in
          let its : cost_at rows is.by ≡ cost_of o x = (rows_are is.by is.inside).cost_is in
          omega (arith, is.long, counts, most, mine, its)

      stands : (h : ℕ) → h < newcomer → Shielded rows count newcomer h → verdict_at rows count h ≡ Ok (of_rank own' results.worsts h)
      stands h a is =
          let l : h < count = omega (arith, newcomer_in) in
          let j = number_at own' h in
          let above : outranks o j task ≡ true = subst (λ (x : ℕ). outranks o j x ≡ true) newcomer_is (ranked.falling h newcomer a newcomer_in) in
          let away : j ≢ task = λ e. (let same = one_place o limits (living_in homes' k) (home_at homes') own' count line_now h newcomer l newcomer_in (e ∙ sym newcomer_is) in omega (arith, same)) in
          verdict_there h l
          ∙ newcomer_below o (living_in homes k) (living_in homes' k) task j others_stay lived_nowhere above (long_blocked h a is)
          ∙ ap (λ (x : ℕ). verdict o (living_in homes x) j) (sym (at_home h l away))
          ∙ known.passing j (line_now.within h l) (placed_there j (lived h l away))

      pub before : KnownBefore rows own' count newcomer results
      before =
          record {
            apart = one_place o limits (living_in homes' k) (home_at homes') own' count line_now;
            bounds = record {
              places = known.last_places;
              near = λ r l. known.near (number_at own' r) (line_now.within r l);
              unmet = still_open;
            };
            places = known.worst_places;
            stands = stands;
          }

      -- the trial's answer is that of the definition
      answer_true : every (passes_at rows count) count ≡ true → accepts o homes task k ≡ true
      unfolding accepts
      answer_true e =
          say_members o homes' k (λ j l m.
          (let place = place_of o (living_in homes' k) (number_at own') count ranked j l m in
          let r = place.0 in
          ap (λ (x : ℕ). does_pass (verdict o (living_in homes' k) x)) (sym place.2) ∙ ap does_pass (sym (verdict_there r place.1)) ∙ every_at (passes_at rows count) count e r place.1))

      true_answer : accepts o homes task k ≡ true → every (passes_at rows count) count ≡ true
      unfolding accepts
      true_answer e =
          every_all (passes_at rows count) count
          (λ r l. ap does_pass (verdict_there r l) ∙ members_say o homes' k e (number_at own' r) (line_now.within r l) (line_now.members r l))

      pub answer_is : (passes : Bool) → passes ≡ every (passes_at rows count) count → passes ≡ accepts o homes task k
      answer_is passes e = e ∙ same_test (every (passes_at rows count) count) (accepts o homes task k) answer_true true_answer

      -- after it, where all pass
      module _ (results' : Results ℕ) (after : KnownAfter rows own' count results results') where
        -- of another partition's task nothing has changed
        not_there : (j : ℕ) → living_in homes' k j ≡ false → (r : ℕ) → 0 ≤ r → r < count → number_at own' r ≢ j
        not_there j out r a l e = clash (sym out ∙ ap (living_in homes' k) (sym e) ∙ line_now.members r l)

        last_kept : (j : ℕ) → living_in homes' k j ≡ false → get_or results'.lasts j 0 ≡ get_or results.lasts j 0
        last_kept j out = after.other_lasts j (not_there j out)

        worst_kept : (j : ℕ) → living_in homes' k j ≡ false → get_or results'.worsts j 0 ≡ get_or results.worsts j 0
        worst_kept j out = after.other_worsts j (not_there j out)

        away_from : (j : ℕ) → living_in homes' k j ≡ false → j ≢ task
        away_from j out e = clash (sym out ∙ ap (living_in homes' k) e ∙ lives_now)

        was_placed : (j : ℕ) → living_in homes' k j ≡ false → is_unplaced homes' j ≡ false → is_unplaced homes j ≡ false
        was_placed j out p = sym (put-unplaced homes task k room j (away_from j out)) ∙ p

        -- and its members are the same
        same_members : (j : ℕ) → (home_at homes j ≡ unplaced → ⊥) → living_in homes' k j ≡ false → (x : ℕ) → x < o.tasks
            → living_in homes' (home_at homes' j) x ≡ living_in homes (home_at homes j) x
        same_members j there out x l = living_kept homes task k room waits j out there x

        waiting_now : (j : ℕ) → j < o.tasks → is_unplaced homes' j ≡ true → living_in homes' k j ≡ false
        waiting_now j l u = says_away homes' k j (λ e. omega (arith, unplaced_says homes' j u, e))

        there_now : (j : ℕ) → j < o.tasks → is_unplaced homes' j ≡ false → (b : Bool) → living_in homes' k j ≡ b → home_at homes' j ≡ unplaced → ⊥
        there_now j l p true m z = omega (arith, z, living_says homes' k j m, few)
        there_now j l p false m z = known.homes_there j l (was_placed j m p) (omega (arith, z, other j (away_from j m)))

        near_now : (j : ℕ) → j < o.tasks → (b : Bool) → living_in homes' k j ≡ b → get_or results'.lasts j 0 ≤ 2_000_000
        near_now j l true m =
            let place = place_of o (living_in homes' k) (number_at own') count ranked j l m in
            subst (λ (x : ℕ). get_or results'.lasts x 0 ≤ 2_000_000) place.2 (after.bounds.near place.0 place.1)
        near_now j l false m = omega (arith, last_kept j m, known.near j l)

        open_now : (j : ℕ) → j < o.tasks → is_unplaced homes' j ≡ false → (b : Bool) → living_in homes' k j ≡ b → OpenUntil o (living_in homes' (home_at homes' j)) j (get_or results'.lasts j 0)
        open_now j l p true m =
            let place = place_of o (living_in homes' k) (number_at own') count ranked j l m in
            let r = place.0 in
            subst (λ (h : ℕ). OpenUntil o (living_in homes' h) j (get_or results'.lasts j 0)) (sym (living_says homes' k j m))
            (subst (λ (x : ℕ). OpenUntil o (living_in homes' k) x (get_or results'.lasts x 0)) place.2 (rows_open r (of_rank own' results'.lasts r) place.1 (after.bounds.unmet r place.1)))
        open_now j l p false m =
            let was = was_placed j m p in
            subst (OpenUntil o (living_in homes' (home_at homes' j)) j) (sym (last_kept j m))
            (open_more o (living_in homes (home_at homes j)) (living_in homes' (home_at homes' j)) (λ x lx e. same_members j (known.homes_there j l was) m x lx ∙ e) j (get_or results.lasts j 0) (known.unclosed j l was))

        passing_now : (j : ℕ) → j < o.tasks → is_unplaced homes' j ≡ false → (b : Bool) → living_in homes' k j ≡ b → verdict o (living_in homes' (home_at homes' j)) j ≡ Ok (get_or results'.worsts j 0)
        passing_now j l p true m =
            let place = place_of o (living_in homes' k) (number_at own') count ranked j l m in
            let r = place.0 in
            ap (λ (h : ℕ). verdict o (living_in homes' h) j) (living_says homes' k j m)
            ∙ subst (λ (x : ℕ). verdict o (living_in homes' k) x ≡ Ok (get_or results'.worsts x 0)) place.2 (sym (verdict_there r place.1) ∙ after.stand r place.1)
        passing_now j l p false m =
            let was = was_placed j m p in
            verdict_same o (living_in homes' (home_at homes' j)) (living_in homes (home_at homes j)) j (same_members j (known.homes_there j l was) m) ∙ known.passing j l was ∙ ap Ok (sym (worst_kept j m))

        pub known_now : Known o homes' results'
        known_now =
            record {
              last_places = after.bounds.places;
              worst_places = after.places;
              homes_there = λ j l p. there_now j l p (living_in homes' k j) refl;
              waiting = λ j l u.
                  (let out = waiting_now j l u in
                  last_kept j out ∙ known.waiting j l (sym (put-unplaced homes task k room j (away_from j out)) ∙ u));
              near = λ j l. near_now j l (living_in homes' k j) refl;
              unclosed = λ j l p. open_now j l p (living_in homes' k j) refl;
              passing = λ j l p. passing_now j l p (living_in homes' k j) refl;
            }
