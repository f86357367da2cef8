-- One row of runs: two rows that rise and list the same processors of a set by its runs are equal.
use Prim.Native.Nat.{ℕ, suc, ◌+◌, ◌≤◌, ◌<◌}
use mathlib.Core.Path.{◌≡◌, refl, sym, ap, ◌∙◌}
use mathlib.Core.List.{List, [], ◌∷◌}
use mathlib.Core.Logic.{inl, inr, ⊎_elim}
use native.Mathlib.Decide.{dec_lt}
use native.Mathlib.Nat.{le_antisymm}
use native.Mathlib.Omega.{arith}
use Rattle.laws.proofs.Every.{clash}
use Rattle.list_form.specs.Items.{Item}
use Rattle.list_form.specs.Runs.{IsRun, AllRuns, Rising, Listed}

not_below : (a b : ℕ) → (a < b → ⊥) → b ≤ a
not_below a b never = elim (dec_lt a b) [ yes below ↦ absurd (never below) | no above ↦ omega arith ]

same_item : (one other : Item) → one.first ≡ other.first → one.last ≡ other.last → one ≡ other
same_item one other begin end =
    let first : Item → ℕ → Item = λ item x. record { first = x; last = item.last } in
    let last : Item → ℕ → Item = λ item x. record { first = item.first; last = x } in
    ap (first one) begin ∙ ap (last other) end

module _ (set : ℕ) where
  -- what a rising row of runs lists is not below its least
  listed-least : (items : List Item) (least : ℕ) → AllRuns set items → Rising least items → (k : ℕ) → Listed items k → least ≤ k
  unfolding AllRuns Rising Listed
  listed-least [] least runs rising k listed = absurd listed
  listed-least (item ∷ items) least runs rising k listed =
      ⊎_elim (λ here. omega (arith, here.0, rising.0))
      (λ later. omega (arith, rising.0, runs.0.rises, listed-least items (item.last + 2) runs.1 rising.1 k later)) listed

  -- a run does not end inside another that it begins in
  ends_with : (one other : Item) → IsRun set one → IsRun set other → one.first ≡ other.first → one.last < other.last → ⊥
  ends_with one other run run' same inside =
      let rises = run.rises in
      clash (sym run.none_above ∙ run'.processors (suc one.last) (omega arith) inside)

  -- the first of a row is not above the first of one that lists as much
  begins_with : (one other : Item) (more rest : List Item) (least : ℕ) → AllRuns set (one ∷ more) → AllRuns set (other ∷ rest) → Rising least (other ∷ rest)
      → ((k : ℕ) → Listed (one ∷ more) k → Listed (other ∷ rest) k) → other.first ≤ one.first
  unfolding AllRuns Rising Listed
  begins_with one other more rest least runs runs' rising there =
      listed-least (other ∷ rest) other.first runs' (omega arith, rising.1) one.first (there one.first (inl (omega arith, runs.0.rises)))

  -- what is listed behind the first run is listed behind it in the other row
  listed-behind : (one other : Item) (more rest : List Item) (least : ℕ) → AllRuns set (one ∷ more) → Rising least (one ∷ more) → one.last ≡ other.last
      → ((k : ℕ) → Listed (one ∷ more) k → Listed (other ∷ rest) k) → (k : ℕ) → Listed more k → Listed rest k
  unfolding AllRuns Rising Listed
  listed-behind one other more rest least runs rising same there k listed =
      let above = listed-least more (one.last + 2) runs.1 rising.1 k listed in
      ⊎_elim (λ here. absurd (omega (arith, here.1))) (λ later. later) (there k (inr listed))

  pub runs_once : (one other : List Item) (least least' : ℕ) → AllRuns set one → AllRuns set other → Rising least one → Rising least' other
      → ((k : ℕ) → Listed one k → Listed other k) → ((k : ℕ) → Listed other k → Listed one k) → one ≡ other
  unfolding AllRuns Rising Listed
  runs_once [] [] least least' runs runs' rising rising' there back = refl
  runs_once [] (other ∷ rest) least least' runs runs' rising rising' there back = absurd (back other.first (inl (omega arith, runs'.0.rises)))
  runs_once (one ∷ more) [] least least' runs runs' rising rising' there back = absurd (there one.first (inl (omega arith, runs.0.rises)))
  runs_once (one ∷ more) (other ∷ rest) least least' runs runs' rising rising' there back =
      let begin : one.first ≡ other.first = le_antisymm (begins_with other one rest more least runs' runs rising back) (begins_with one other more rest least' runs runs' rising' there) in
      let end : one.last ≡ other.last = le_antisymm (not_below other.last one.last (ends_with other one runs'.0 runs.0 (sym begin))) (not_below one.last other.last (ends_with one other runs.0 runs'.0 begin)) in
      let same : one ≡ other = same_item one other begin end in
      let behind : more ≡ rest = runs_once more rest (one.last + 2) (other.last + 2) runs.1 runs'.1 rising.1 rising'.1 (listed-behind one other more rest least runs rising end there) (listed-behind other one rest more least' runs' rising' (sym end) back) in
      cc
