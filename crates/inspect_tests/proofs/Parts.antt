-- A partition's members copied from the line, with their rows: what their tests need, and what these give.
use mathlib.Core.Path.{◌≡◌, sym, ap, ◌∙◌, subst}
use mathlib.Core.Bool.{true}
use Rattle.std.specs.Prelude.{None, Option}
use mathlib.Core.List.{List}
use mathlib.Core.Logic.{⊎_elim}
use Prim.Native.Nat.{ℕ, ◌+◌, ◌-◌, ◌≤◌, ◌<◌}
use native.Mathlib.Decide.{dec_lt, ℕ_discrete}
use native.Mathlib.Omega.{arith}
use lib.ListN.{length, get_or}
use borrow.Author.Tests.{eq-eqb, eqb-true}
use Rattle.model.specs.declared.order.Order.{Order}
use Rattle.model.specs.declared.build.Build.{Build}
use Rattle.model.specs.Limits.{most_tasks, task_of, home_of}
use Rattle.demand.specs.Priority.{members_of}
use Rattle.demand.specs.Releases.{work_by}
use Rattle.demand.specs.Test.{blocking, higher_work, verdict}
use Rattle.asked.specs.Rows.{RowsFit, asked_by, blocking_in}
use Rattle.asked.specs.Met.{UnmetBelow}
use Rattle.roster.specs.Keys.{home_in, key_number, key_at, number_at, lives_in}
use Rattle.roster.specs.Lined.{PartFrom, part_size}
use Rattle.roster.specs.Ranked.{Ranked, RowsOf}
use Rattle.roster.specs.Rows.{RowsInLine}
use Rattle.roster.proofs.Lining.{part_next}
use Rattle.roster.proofs.Ranks.{place_of}
use Rattle.roster.proofs.Rowing.{row_alike}
use Rattle.roster.proofs.Runs.{run_most}
use Rattle.roster.proofs.Tied.{rows_fit, verdict_is, blocking_is, asked_with}
use Rattle.verdict.specs.Tested.{worst_of}
use Rattle.trial.specs.Known.{of_rank, Apart, Bounds, verdict_at}
use Rattle.inspect_members.proofs.Stretches.{numbers_apart, part_ranked}
use Rattle.inspect_tests.specs.Results.{Lineup, verdict_here, OpenBelow, worst_at, TestedRanks}
use Rattle.asked.specs.declared.rows.Rows.{Rows}
use Rattle.trial.specs.declared.Results.{Results}

module _ (table : Rows) (keys : List ℕ) (tasks : ℕ) (o : Order) (b : Build) (is : Lineup table keys tasks o b) where
  pub few_tasks : tasks ≤ most_tasks
  few_tasks = omega (arith, is.in_line.count, is.in_line.limits.tasks.1)

  pub apart : (r s : ℕ) → r < tasks → s < tasks → number_at keys r ≡ number_at keys s → r ≡ s
  apart r s l k e = numbers_apart o b is.in_line.limits keys is.in_line.line r s (omega (arith, is.in_line.count)) (omega (arith, is.in_line.count)) e

  module _ (first home : ℕ) (from : PartFrom keys tasks first home) (own : List ℕ) (copied : (r : ℕ) → r < part_size keys tasks first home → key_at own r ≡ key_at keys (first + r)) where
    abbrev size : ℕ
    size = part_size keys tasks first home

    size_most : first + size ≤ tasks
    size_most = omega (arith, run_most (lives_in home keys) first (tasks - first), from.upto)

    pub size_few : size ≤ most_tasks
    size_few = omega (arith, size_most, few_tasks)

    pub ranked : Ranked o (members_of b home) (number_at own) size
    ranked =
        subst (λ (n : ℕ). PartFrom keys n first home → ((r : ℕ) → r < part_size keys n first home → key_at own r ≡ key_at keys (first + r)) → Ranked o (members_of b home) (number_at own) (part_size keys n first home)) is.in_line.count
        (λ f c. part_ranked o b is.in_line.limits keys is.in_line.line first home f own c) from copied

    own_home : (r : ℕ) → r < size → home_of b (number_at own r) ≡ home
    unfolding members_of
    own_home r l = eqb-true _ _ (ranked.members r l)

    own_number : (r : ℕ) → r < size → number_at own r ≡ number_at keys (first + r)
    own_number r l = ap key_number (copied r l)

    pub own_place : (i : ℕ) → i < tasks → home_of b i ≡ home → (r : ℕ) × (r < size) × (number_at own r ≡ i)
    unfolding members_of
    own_place i l e = place_of o (members_of b home) (number_at own) size ranked i (omega (arith, is.in_line.count)) (eq-eqb _ _ e)

    pub own_apart : Apart own size
    own_apart r s l k e =
        omega (arith, apart (first + r) (first + s) (omega (arith, size_most)) (omega (arith, size_most)) (sym (own_number r l) ∙ e ∙ own_number s k))

    -- where the next partition begins
    pub next_ends : (r s : ℕ) → r < first + size → first + size ≤ s → s < tasks → home_in (key_at keys r) < home_in (key_at keys s)
    next_ends r s l f k =
        let next = subst (λ (n : ℕ). PartFrom keys n first home → PartFrom keys n (first + part_size keys n first home) (home + 1)) is.in_line.count
        (λ f'. part_next o is.in_line.limits (λ j. true) (home_of b) keys o.tasks is.in_line.line first home f') from in
        omega (arith, next.earlier r l, next.later s f k)

    module _ (rows : Rows) (filled : RowsInLine table own size rows) where
      rows_of : RowsOf o (number_at own) size rows
      rows_of r l = row_alike table rows (number_at own r) r (task_of o (number_at own r)) (filled.each r l) (is.rows.each (number_at own r) (omega (arith, is.in_line.count, ranked.within r l)))

      pub fit : RowsFit rows size
      fit = rows_fit o is.in_line.limits (members_of b home) (number_at own) size rows ranked size_few rows_of

      pub verdict_at_lem : (r : ℕ) → r < size → verdict_at rows size r ≡ verdict_here o b (number_at own r)
      verdict_at_lem r l =
          verdict_is o is.in_line.limits (members_of b home) (number_at own) size rows ranked size_few rows_of r l
          ∙ ap (λ (p : ℕ). verdict o (members_of b p) (number_at own r)) (sym (own_home r l))

      -- what the rows ask is what the tasks do
      blocked : (r : ℕ) → r < size → blocking_in rows size r ≡ blocking o (members_of b (home_of b (number_at own r))) (number_at own r)
      blocked r l =
          blocking_is o is.in_line.limits (members_of b home) (number_at own) size rows ranked size_few rows_of r l
          ∙ ap (λ (p : ℕ). blocking o (members_of b p) (number_at own r)) (sym (own_home r l))

      asks : (r w : ℕ) → r < size → asked_by rows (r + 1) w ≡ higher_work o (members_of b (home_of b (number_at own r))) (number_at own r) w + work_by (task_of o (number_at own r)) w
      asks r w l =
          asked_with o is.in_line.limits (members_of b home) (number_at own) size rows ranked size_few rows_of r w l
          ∙ ap (λ (p : ℕ). higher_work o (members_of b p) (number_at own r) w + work_by (task_of o (number_at own r)) w) (sym (own_home r l))

      pub unmet_rows : (r last : ℕ) → r < size → OpenBelow o b (number_at own r) last → UnmetBelow (asked_by rows (r + 1)) (blocking_in rows size r) last
      unmet_rows r last l open' s k = omega (arith, open'.unmet s k, blocked r l, asks r s l)

      rows_unmet : (r last : ℕ) → r < size → last ≤ 2_000_000 → UnmetBelow (asked_by rows (r + 1)) (blocking_in rows size r) last → OpenBelow o b (number_at own r) last
      rows_unmet r last l near unmet = record { near = near; unmet = λ s k. omega (arith, unmet s k, blocked r l, asks r s l) }

      pub bounds_of : (lasts : List ℕ) → length lasts ≡ most_tasks → ((i : ℕ) → i < tasks → OpenBelow o b i (get_or lasts i 0)) → Bounds rows own size lasts
      bounds_of lasts places still =
          let mine : (r : ℕ) → r < size → OpenBelow o b (number_at own r) (of_rank own lasts r) = λ r l. still (number_at own r) (omega (arith, is.in_line.count, ranked.within r l)) in
          record { places = places; near = λ r l. (mine r l).near; unmet = λ r l. unmet_rows r (of_rank own lasts r) l (mine r l) }

      module _ (lowest : ℕ) (results : Results (Option ℕ)) (lowest' : ℕ) (results' : Results (Option ℕ)) (tested : TestedRanks rows own size size lowest results lowest' results') where
        -- windows stay open so long
        pub still_after : ((i : ℕ) → i < tasks → OpenBelow o b i (get_or results.lasts i 0)) → (i : ℕ) → i < tasks → OpenBelow o b i (get_or results'.lasts i 0)
        still_after still i l = elim (ℕ_discrete (home_of b i) home) [
          | yes mine ↦ (let place = own_place i l mine in
              subst (λ (x : ℕ). OpenBelow o b x (get_or results'.lasts x 0)) place.2
              (rows_unmet place.0 (of_rank own results'.lasts place.0) place.1 (tested.bounds.near place.0 place.1) (tested.bounds.unmet place.0 place.1)))
          | no other ↦ subst (OpenBelow o b i) (sym (tested.other_lasts i (λ r f t e. other (ap (home_of b) (sym e) ∙ own_home r t)))) (still i l)
        ]

        -- the lowest that fails
        pub fails_after : (lowest < tasks → worst_of (verdict_here o b lowest) ≡ None) → lowest' < tasks → worst_of (verdict_here o b lowest') ≡ None
        fails_after known l =
            ⊎_elim
            (λ e. ap (λ (x : ℕ). worst_of (verdict_here o b x)) e ∙ known (omega (arith, e, l)))
            (λ f. ap (λ (x : ℕ). worst_of (verdict_here o b x)) (sym f.2) ∙ sym (ap worst_of (verdict_at_lem f.0 f.1)) ∙ f.3)
            tested.fails

        -- and the responses of all below it before the next partition are known
        pub responses_after : ((r : ℕ) → r < first → number_at keys r < lowest → worst_at results.worsts (number_at keys r) ≡ worst_of (verdict_here o b (number_at keys r))) →
            (r : ℕ) → r < first + size → number_at keys r < lowest' → worst_at results'.worsts (number_at keys r) ≡ worst_of (verdict_here o b (number_at keys r))
        responses_after known r l below = elim (dec_lt r first) [
          | yes early ↦ tested.other_worsts (number_at keys r) (λ s f t e. absurd (omega (arith, early, apart (first + s) r (omega (arith, size_most)) (omega (arith, size_most)) (sym (own_number s t) ∙ e)))) ∙ known r early (omega (arith, below, tested.lower))
          | no late ↦ (let s = r - first in
              let inside : s < size = omega arith in
              let e : first + s ≡ r = omega arith in
              let here : number_at own s ≡ number_at keys r = own_number s inside ∙ ap (number_at keys) e in
              subst (λ (x : ℕ). worst_at results'.worsts x ≡ worst_of (verdict_here o b x)) here (tested.responses s inside (omega (arith, below, here)) ∙ ap worst_of (verdict_at_lem s inside)))
        ]
