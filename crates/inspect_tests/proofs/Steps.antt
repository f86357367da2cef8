-- What each step of the tests needs and gives: a partition at a place of the line, and the partition of one task.
use mathlib.Core.Path.{◌≡◌, refl, sym, ap, ◌∙◌, subst}
use mathlib.Core.Bool.{Bool, false}
use mathlib.Core.List.{List}
use Rattle.std.specs.Prelude.{None, Option}
use Prim.Native.Nat.{ℕ, ◌+◌, ◌-◌, ◌≤◌, ◌<◌}
use native.Mathlib.Decide.{ℕ_discrete}
use native.Mathlib.Omega.{arith}
use lib.Dec.{ltb}
use lib.ListN.{length, get_or, replicate, get_or-replicate}
use borrow.Author.Tests.{eq-eqb, ltb-true, ltb-false}
use Rattle.model.specs.declared.order.Order.{Order}
use Rattle.model.specs.declared.build.Member.{Member}
use Rattle.model.specs.declared.build.Build.{Build}
use Rattle.model.specs.Limits.{most_tasks}
use Rattle.demand.specs.Priority.{members_of, rank}
use Rattle.asked.specs.Rows.{RowsFit, row_task, asked_by, blocking_in}
use Rattle.asked.specs.Met.{UnmetBelow}
use Rattle.verdict.specs.Tested.{is_there, window_of, worst_of}
use Rattle.roster.specs.Keys.{home_in, key_at, number_at, lives_in, run_from}
use Rattle.roster.specs.Lined.{PartFrom, part_size}
use Rattle.roster.specs.Rows.{RowsInLine}
use Rattle.roster.proofs.Ranks.{rank_is}
use Rattle.roster.proofs.Runs.{run_on, run_most, run_passes, run_stops}
use Rattle.trial.specs.Known.{no_results, Apart, Bounds}
use Rattle.inspect_members.proofs.Stretches.{homes_rise, placed}
use Rattle.inspect_tests.specs.Rules.{window_there}
use Rattle.inspect_tests.specs.Results.{SomeLineup, verdict_here, OpenBelow, worst_at, TestedRanks, TestedBefore, ResultsFor, TaskThere}
use Rattle.inspect_tests.proofs.Parts.{few_tasks, size_few, ranked, own_place, own_apart, next_ends, fit, verdict_at_lem, unmet_rows, bounds_of, still_after, fails_after, responses_after}
use Rattle.inspect_tests.proofs.Verdicts.{window_over_lem}
use Rattle.asked.specs.declared.rows.Rows.{Rows}
use Rattle.trial.specs.declared.Results.{Results}

-- a copy of so many keys of the line
abbrev pub Copied : (keys : List ℕ) → (first : ℕ) → (own : List ℕ) → (n : ℕ) → Type 0
Copied keys first own n = (r : ℕ) → r < n → key_at own r ≡ key_at keys (first + r)

-- nothing tested
pub before_all : (table : Rows) (keys : List ℕ) (tasks : ℕ) → TestedBefore table keys tasks 0 most_tasks (no_results None)
before_all table keys tasks =
    record {
      upto = omega arith;
      ends = λ r s l f k. absurd (omega arith);
      lasts_places = refl;
      worsts_places = refl;
      still = λ o b is i l.
          let zero-there : ◌≡◌ {A = ℕ} (get_or (replicate 32 0) i 0) 0 = get_or-replicate 32 i 0 0 (omega (arith, few_tasks table keys tasks o b is)) in
          subst (OpenBelow o b i) (sym zero-there) (record { near = omega arith; unmet = λ s k. absurd (omega arith) });
      fails = λ o b is l. absurd (omega (arith, l, few_tasks table keys tasks o b is));
      none = refl;
      responses = λ o b is r l. absurd (omega arith);
    }

-- all tested
pub after_all : (table : Rows) (keys : List ℕ) (tasks : ℕ) (first lowest : ℕ) (results : Results (Option ℕ)) → tasks ≤ first → TestedBefore table keys tasks first lowest results → ResultsFor table keys tasks results
after_all table keys tasks first lowest results all known o b is =
    record {
      lowest = lowest;
      none = known.none;
      responses = λ i l upto. elim (ℕ_discrete i lowest) [
        | yes same ↦ ap (worst_at results.worsts) same ∙ known.none ∙ sym (known.fails o b is (omega (arith, same, l, is.in_line.count))) ∙ ap (λ (x : ℕ). worst_of (verdict_here o b x)) (sym same)
        | no other ↦ (let place = placed o b is.in_line.limits keys is.in_line.line i l in
            subst (λ (x : ℕ). worst_at results.worsts x ≡ worst_of (verdict_here o b x)) place.2 (known.responses o b is place.0 (omega (arith, place.1, is.in_line.count, all)) (omega (arith, place.2, other, upto))))
      ];
      still = λ i l. known.still o b is i (omega (arith, is.in_line.count));
    }

module _ (table : Rows) (keys : List ℕ) (tasks first lowest : ℕ) (results : Results (Option ℕ)) (some : SomeLineup table keys tasks) (here : first < tasks) (known : TestedBefore table keys tasks first lowest results) where
  abbrev home : ℕ
  home = home_in (key_at keys first)

  part_from : PartFrom keys tasks first home
  part_from =
      let o = some.0 in
      let b = some.1 in
      let is = some.2 in
      record {
        upto = omega (arith, here);
        earlier = λ r k. known.ends r first k (omega arith) here;
        later = λ s f k. homes_rise o b is.in_line.limits keys is.in_line.line first s f (omega (arith, is.in_line.count));
      }

  pub part_some : 0 < part_size keys tasks first home
  part_some = omega (arith, run_on (lives_in home keys) first (tasks - first) (omega (arith, here)) (eq-eqb home home refl))

  module _ (own : List ℕ) (rows : Rows) where
    needs_at : Copied keys first own (part_size keys tasks first home) → RowsInLine table own (part_size keys tasks first home) rows →
        RowsFit rows (part_size keys tasks first home) × Apart own (part_size keys tasks first home) × Bounds rows own (part_size keys tasks first home) results.lasts × (length results.worsts ≡ most_tasks) × (worst_at results.worsts lowest ≡ None)
    needs_at copied filled =
        let o = some.0 in
        let b = some.1 in
        let is = some.2 in (
          fit table keys tasks o b is first home part_from own copied rows filled,
          own_apart table keys tasks o b is first home part_from own copied,
          bounds_of table keys tasks o b is first home part_from own copied rows filled results.lasts known.lasts_places (known.still o b is),
          known.worsts_places,
          known.none,
        )

    pub part_needs : (n : ℕ) → n ≡ part_size keys tasks first home → Copied keys first own n → RowsInLine table own n rows → RowsFit rows n × Apart own n × Bounds rows own n results.lasts × (length results.worsts ≡ most_tasks) × (worst_at results.worsts lowest ≡ None)
    part_needs n e = subst (λ (x : ℕ). Copied keys first own x → RowsInLine table own x rows → RowsFit rows x × Apart own x × Bounds rows own x results.lasts × (length results.worsts ≡ most_tasks) × (worst_at results.worsts lowest ≡ None)) (sym e) needs_at

    gives_at : (lowest' : ℕ) (results' : Results (Option ℕ)) → Copied keys first own (part_size keys tasks first home) → RowsInLine table own (part_size keys tasks first home) rows →
        TestedRanks rows own (part_size keys tasks first home) (part_size keys tasks first home) lowest results lowest' results' → (0 < part_size keys tasks first home) × TestedBefore table keys tasks (first + part_size keys tasks first home) lowest' results'
    gives_at lowest' results' copied filled tested =
        let o₀ = some.0 in
        let b₀ = some.1 in
        let is₀ = some.2 in (
          part_some,
          record {
            upto = omega (arith, run_most (lives_in home keys) first (tasks - first), here);
            ends = next_ends table keys tasks o₀ b₀ is₀ first home part_from own copied;
            lasts_places = tested.bounds.places;
            worsts_places = tested.places;
            still = λ o b is. still_after table keys tasks o b is first home part_from own copied rows filled lowest results lowest' results' tested (known.still o b is);
            fails = λ o b is. fails_after table keys tasks o b is first home part_from own copied rows filled lowest results lowest' results' tested (known.fails o b is);
            none = tested.none;
            responses = λ o b is. responses_after table keys tasks o b is first home part_from own copied rows filled lowest results lowest' results' tested (known.responses o b is);
          },
        )

    pub part_gives : (n : ℕ) → n ≡ part_size keys tasks first home → (lowest' : ℕ) (results' : Results (Option ℕ)) → Copied keys first own n → RowsInLine table own n rows →
        TestedRanks rows own n n lowest results lowest' results' → (0 < n) × TestedBefore table keys tasks (first + n) lowest' results'
    part_gives n e lowest' results' =
        subst (λ (x : ℕ). Copied keys first own x → RowsInLine table own x rows → TestedRanks rows own x x lowest results lowest' results' → (0 < x) × TestedBefore table keys tasks (first + x) lowest' results') (sym e) (gives_at lowest' results')

-- a count of n is few
pub part_few : (table : Rows) (keys : List ℕ) (tasks : ℕ) → SomeLineup table keys tasks → (first n : ℕ) (lives : ℕ) → n ≡ part_size keys tasks first lives → n ≤ most_tasks
part_few table keys tasks some first n lives e = omega (arith, e, run_most (lives_in lives keys) first (tasks - first), few_tasks table keys tasks some.0 some.1 some.2)

module _ (table : Rows) (keys : List ℕ) (tasks : ℕ) (member : Member) (last : ℕ) (o : Order) (b : Build) (i : ℕ) (task : TaskThere table keys tasks member last o b i)
    (first : ℕ) (first_is : first ≡ run_from (λ s. ltb (home_in (key_at keys s)) member.partition) 0 tasks) where
  abbrev smaller : ℕ → Bool
  smaller s = ltb (home_in (key_at keys s)) member.partition

  pub sought_first : first ≤ tasks
  sought_first = omega (arith, first_is, run_most smaller 0 tasks)

  sought_from : PartFrom keys tasks first member.partition
  sought_from =
      let is = task.lineup in
      record {
        upto = sought_first;
        earlier = λ r l. (let here : r ≡ 0 + r = omega arith in ltb-true (home_in (key_at keys r)) member.partition (ap smaller here ∙ run_passes smaller 0 tasks r (omega (arith, first_is))));
        later = λ s f l.
            let stops = run_stops smaller 0 tasks (omega (arith, first_is)) in
            let there : first ≡ 0 + run_from smaller 0 tasks = omega (arith, first_is) in
            let at_first : ltb (home_in (key_at keys first)) member.partition ≡ false = ap smaller there ∙ stops in
            let least : member.partition ≤ home_in (key_at keys first) = ltb-false _ _ at_first in
            omega (arith, least, homes_rise o b is.in_line.limits keys is.in_line.line first s f (omega (arith, is.in_line.count)));
      }

  module _ (own : List ℕ) (rows : Rows) where
    abbrev size : ℕ
    size = part_size keys tasks first member.partition

    -- where the task stands in its partition
    stands : Copied keys first own size → (member.rank < size) × (number_at own member.rank ≡ i)
    stands copied =
        let is = task.lineup in
        let place = own_place table keys tasks o b is first member.partition sought_from own copied i task.known task.home in
        let at : place.0 ≡ member.rank =
        sym (rank_is o (members_of b member.partition) (number_at own) size (ranked table keys tasks o b is first member.partition sought_from own copied) place.0 place.1)
        ∙ ap (rank o (members_of b member.partition)) place.2 ∙ ap (λ (p : ℕ). rank o (members_of b p) i) (sym task.home) ∙ task.ranks in
        subst (λ (r : ℕ). (r < size) × (number_at own r ≡ i)) at (place.1, place.2)

    pub record Needs (n : ℕ) : Type 0 where
      pub inside : member.rank < n
      pub few : n ≤ most_tasks
      pub rows_fit : RowsFit rows n
      pub unmet : UnmetBelow (asked_by rows (member.rank + 1)) (blocking_in rows n member.rank) last
      pub tells : is_there (window_of (asked_by rows member.rank) (blocking_in rows n member.rank) (row_task rows member.rank)) ≡ window_there (verdict_here o b i)

    sought_at : Copied keys first own size → RowsInLine table own size rows → Needs size
    sought_at copied filled =
        let is = task.lineup in
        let at = stands copied in
        record {
          inside = at.0;
          few = size_few table keys tasks o b is first member.partition sought_from own copied;
          rows_fit = fit table keys tasks o b is first member.partition sought_from own copied rows filled;
          unmet = unmet_rows table keys tasks o b is first member.partition sought_from own copied rows filled member.rank last at.0 (subst (λ (x : ℕ). OpenBelow o b x last) (sym at.1) task.still);
          tells = window_over_lem (asked_by rows member.rank) (blocking_in rows size member.rank) (row_task rows member.rank)
              ∙ ap window_there (verdict_at_lem table keys tasks o b is first member.partition sought_from own copied rows filled member.rank at.0 ∙ ap (verdict_here o b) at.1);
        }

    pub sought_needs : (n : ℕ) → n ≡ size → Copied keys first own n → RowsInLine table own n rows → Needs n
    sought_needs n e = subst (λ (x : ℕ). Copied keys first own x → RowsInLine table own x rows → Needs x) (sym e) sought_at
