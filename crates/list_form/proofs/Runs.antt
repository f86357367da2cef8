-- The runs of a set: each is one, they rise, and a processor is in one exactly when it is in the set; there is one such row.
use Prim.Native.Nat.{ℕ, zero, suc, ◌+◌, ◌≤◌, ◌<◌}
use mathlib.Core.Path.{◌≡◌, refl, sym, ◌∙◌, subst}
use mathlib.Core.Bool.{Bool, true, false}
use mathlib.Core.List.{List, [], ◌∷◌}
use mathlib.Core.Logic.{inl, inr, ⊎_elim, ◌↔◌}
use native.Mathlib.Decide.{dec_le}
use native.Mathlib.Nat.{le_antisymm}
use native.Mathlib.Omega.{arith}
use Rattle.laws.specs.Choice.{pick}
use Rattle.laws.proofs.Every.{clash}
use Rattle.model.specs.Limits.{most_processors}
use Rattle.sets.specs.Sets.{IsSet, has}
use Rattle.sets.proofs.Processors.{set_past, has_below}
use Rattle.list_form.specs.Items.{Item, most_listed, ItemsRight}
use Rattle.list_form.specs.Runs.{begins_run, run_end, runs_from, runs_of, IsRun, AllRuns, Rising, Listed}

begun : (a b : Bool) → pick a (pick b false true) false ≡ true → (a ≡ true) × (b ≡ false)
begun true true e = clash e
begun true false e = (refl, refl)
begun false b e = clash e

module _ (set : ℕ) (is_set : IsSet set) where
  pub has_within : (k : ℕ) → has set k ≡ true → k ≤ most_listed
  has_within k there = omega (arith, has_below set k is_set there)

  -- where a run ends
  run_end_rises : (more k : ℕ) → k ≤ run_end set k more
  unfolding run_end
  run_end_rises zero k = omega arith
  run_end_rises (suc more) k = go (has set (suc k)) (run_end_rises more (suc k))
    where
      go : (b : Bool) → suc k ≤ run_end set (suc k) more → k ≤ pick b (run_end set (suc k) more) k
      go true rest = omega arith
      go false rest = omega arith

  run_end-has : (more k : ℕ) → has set k ≡ true → (j : ℕ) → k ≤ j → j ≤ run_end set k more → has set j ≡ true
  unfolding run_end
  run_end-has zero k there j low high = rw (le_antisymm high low) there
  run_end-has (suc more) k there j low high = go (has set (suc k)) refl (run_end-has more (suc k)) high
    where
      here : j ≤ k → has set j ≡ true
      here high = rw (le_antisymm high low) there

      go : (b : Bool) → has set (suc k) ≡ b → (has set (suc k) ≡ true → (j : ℕ) → suc k ≤ j → j ≤ run_end set (suc k) more → has set j ≡ true)
          → j ≤ pick b (run_end set (suc k) more) k → has set j ≡ true
      go true e rest high = elim (dec_le (suc k) j) [ yes above ↦ rest e j above high | no below ↦ here (omega arith) ]
      go false e rest high = here high

  run_end-above : (more k : ℕ) → most_listed ≤ k + more → has set (suc (run_end set k more)) ≡ false
  unfolding run_end
  run_end-above zero k enough = set_past set (suc k) is_set (omega arith)
  run_end-above (suc more) k enough = go (has set (suc k)) refl (run_end-above more (suc k) (omega arith))
    where
      go : (b : Bool) → has set (suc k) ≡ b → has set (suc (run_end set (suc k) more)) ≡ false → has set (suc (pick b (run_end set (suc k) more) k)) ≡ false
      go true e rest = rest
      go false e rest = e

  run_end_reaches : (more k j : ℕ) → k ≤ j → j ≤ k + more → ((i : ℕ) → k ≤ i → i ≤ j → has set i ≡ true) → j ≤ run_end set k more
  unfolding run_end
  run_end_reaches zero k j low high processors = omega arith
  run_end_reaches (suc more) k j low high processors = elim (dec_le (suc k) j) [ yes above ↦ go (has set (suc k)) refl above (run_end_reaches more (suc k) j) | no below ↦ omega (arith, run_end_rises (suc more) k) ]
    where
      go : (b : Bool) → has set (suc k) ≡ b → suc k ≤ j
          → (suc k ≤ j → j ≤ suc k + more → ((i : ℕ) → suc k ≤ i → i ≤ j → has set i ≡ true) → j ≤ run_end set (suc k) more)
          → j ≤ pick b (run_end set (suc k) more) k
      go true e above rest = rest above (omega arith) (λ i low high. processors i (omega arith) high)
      go false e above rest = clash (sym e ∙ processors (suc k) (omega arith) above)

  -- where a run begins
  begins_has : (k : ℕ) → begins_run set k ≡ true → has set k ≡ true
  unfolding begins_run
  begins_has zero e = e
  begins_has (suc k) e = (begun (has set (suc k)) (has set k) e).0

  begins_none_below : (k : ℕ) → begins_run set (suc k) ≡ true → has set k ≡ false
  unfolding begins_run
  begins_none_below k e = (begun (has set (suc k)) (has set k) e).1

  -- the run that begins at k
  abbrev run_at : ℕ → Item
  run_at k = record { first = k; last = run_end set k most_listed }

  run_at_lem : (k : ℕ) → begins_run set k ≡ true → IsRun set (run_at k)
  run_at_lem k begins =
      record {
        rises = run_end_rises most_listed k;
        processors = run_end-has most_listed k (begins_has k begins);
        none_below = λ j e. begins_none_below j (subst (λ (x : ℕ). begins_run set x ≡ true) e begins);
        none_above = run_end-above most_listed k (omega arith);
      }

  all_runs_from : (more k : ℕ) → AllRuns set (runs_from set k more)
  unfolding runs_from AllRuns
  all_runs_from zero k = tt
  all_runs_from (suc more) k = go (begins_run set k) refl (all_runs_from more (suc k))
    where
      go : (b : Bool) → begins_run set k ≡ b → AllRuns set (runs_from set (suc k) more) → AllRuns set (pick b (run_at k ∷ runs_from set (suc k) more) (runs_from set (suc k) more))
      go true e rest = (run_at_lem k e, rest)
      go false e rest = rest

  -- no run begins inside a run, nor just above it
  none_begins : (k : ℕ) → begins_run set k ≡ true → (j : ℕ) → k < j → j < run_end set k most_listed + 2 → begins_run set j ≡ true → ⊥
  none_begins k begins zero low high again = omega arith
  none_begins k begins (suc j) low high again = elim (dec_le j (run_end set k most_listed)) [ yes inside ↦ clash (sym (begins_none_below j again) ∙ run_end-has most_listed k (begins_has k begins) j (omega arith) inside) | no above ↦ absurd (omega arith) ]

  rising_from : (more k least : ℕ) → ((j : ℕ) → k ≤ j → j < least → begins_run set j ≡ true → ⊥) → Rising least (runs_from set k more)
  unfolding runs_from Rising
  rising_from zero k least none = tt
  rising_from (suc more) k least none = go (begins_run set k) refl (rising_from more (suc k))
    where
      above : begins_run set k ≡ true → Dec (least ≤ k) → least ≤ k
      above e (yes low) = low
      above e (no high) = absurd (none k (omega arith) (omega arith) e)

      go : (b : Bool) → begins_run set k ≡ b
          → ((least : ℕ) → ((j : ℕ) → suc k ≤ j → j < least → begins_run set j ≡ true → ⊥) → Rising least (runs_from set (suc k) more))
          → Rising least (pick b (run_at k ∷ runs_from set (suc k) more) (runs_from set (suc k) more))
      go true e rest = (above e (dec_le least k), rest (run_end set k most_listed + 2) (none_begins k e))
      go false e rest = rest least (λ j low. none j (omega arith))

  -- what a row of runs lists is in the set
  listed_has : (items : List Item) → AllRuns set items → (k : ℕ) → Listed items k → has set k ≡ true
  unfolding AllRuns Listed
  listed_has [] runs k listed = absurd listed
  listed_has (item ∷ items) runs k listed = ⊎_elim (λ here. runs.0.processors k here.0 here.1) (λ later. listed_has items runs.1 k later) listed

  -- the run that a processor is in
  abbrev RunOf : ℕ → Type 0
  RunOf k = (first : ℕ) × (first ≤ k) × (begins_run set first ≡ true) × ((j : ℕ) → first ≤ j → j ≤ k → has set j ≡ true)

  run_of : (k : ℕ) → has set k ≡ true → RunOf k
  unfolding begins_run
  run_of zero there = (0, omega arith, there, λ j low high. rw (le_antisymm high low) there)
  run_of (suc k) there = go (has set k) refl (run_of k)
    where
      go : (b : Bool) → has set k ≡ b → (has set k ≡ true → RunOf k) → RunOf (suc k)
      go true e rest =
          let run = rest e in
          (run.0, omega (arith, run.1), run.2, λ j low high. elim (dec_le j k) [ yes below ↦ run.3 j low below | no above ↦ subst (λ (x : ℕ). has set x ≡ true) (le_antisymm (omega arith) high) there ])
      go false e rest = (suc k, omega arith, rw (there, e) refl, λ j low high. rw (le_antisymm high low) there)

  listed_from : (more k first j : ℕ) → k ≤ first → first < k + more → begins_run set first ≡ true → first ≤ j → j ≤ run_end set first most_listed → Listed (runs_from set k more) j
  unfolding runs_from Listed
  listed_from zero k first j low high begins from to = absurd (omega arith)
  listed_from (suc more) k first j low high begins from to = go (begins_run set k) refl (listed_from more (suc k) first j)
    where
      go : (b : Bool) → begins_run set k ≡ b
          → (suc k ≤ first → first < suc k + more → begins_run set first ≡ true → first ≤ j → j ≤ run_end set first most_listed → Listed (runs_from set (suc k) more) j)
          → Listed (pick b (run_at k ∷ runs_from set (suc k) more) (runs_from set (suc k) more)) j
      go true e rest = elim (dec_le first k) [ yes here ↦ inl (subst (λ (x : ℕ). (x ≤ j) × (j ≤ run_end set x most_listed)) (le_antisymm here low) (from, to)) | no later ↦ inr (rest (omega arith) (omega arith) begins from to) ]
      go false e rest = elim (dec_le first k) [ yes here ↦ clash (sym e ∙ subst (λ (x : ℕ). begins_run set x ≡ true) (le_antisymm here low) begins) | no later ↦ rest (omega arith) (omega arith) begins from to ]

  has_listed : (k : ℕ) → has set k ≡ true → Listed (runs_of set) k
  unfolding runs_of
  has_listed k there =
      let run = run_of k there in
      let below = has_within k there in
      listed_from most_processors 0 run.0 k (omega arith) (omega (arith, run.1)) run.2 run.1 (run_end_reaches most_listed run.0 k run.1 (omega arith) run.3)

  pub all_runs : AllRuns set (runs_of set)
  unfolding runs_of
  all_runs = all_runs_from most_processors 0

  pub runs_rise : Rising 0 (runs_of set)
  unfolding runs_of
  runs_rise = rising_from most_processors 0 0 (λ j low high again. omega arith)

  pub runs_list : (k : ℕ) → (has set k ≡ true) ↔ Listed (runs_of set) k
  runs_list k = (has_listed k, listed_has (runs_of set) all_runs k)

  -- runs are items of a box
  runs_right : (items : List Item) → AllRuns set items → ItemsRight items
  unfolding AllRuns ItemsRight
  runs_right [] runs = tt
  runs_right (item ∷ items) runs =
      (record { listed = has_within item.last (runs.0.processors item.last runs.0.rises (omega arith)); rises = runs.0.rises }, runs_right items runs.1)

  pub runs_of_right : ItemsRight (runs_of set)
  runs_of_right = runs_right (runs_of set) all_runs
