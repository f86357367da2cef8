-- The longest of the lower members gives B, and where B is over 0 it is the blocker.
use Rattle.std.specs.Prelude.{Some, None, Option}
use mathlib.Core.Path.{◌≡◌, refl, sym, ap, ◌∙◌}
use mathlib.Core.Bool.{Bool, true, false, ◌&&◌}
use mathlib.Core.List.{List}
use Prim.Native.Nat.{ℕ, suc, ◌-◌, ◌≤◌, ◌<◌, min}
use native.Mathlib.Decide.{dec_lt}
use native.Mathlib.Omega.{arith}
use lib.Dec.{ltb, eqb}
use borrow.Author.Tests.{eq-eqb, eqb-true, lt-ltb, le-ltb}
use Rattle.laws.specs.Sums.{only}
use Rattle.laws.proofs.Sums.{largest_same}
use Rattle.laws.proofs.Choice.{same_test, refuted}
use Rattle.laws.proofs.Every.{clash, and_both, both_and}
use Rattle.model.specs.declared.order.Order.{Order}
use Rattle.model.specs.declared.build.Build.{Build}
use Rattle.model.specs.Rules.{WithinLimits}
use Rattle.search.proofs.Smallest.{smallest_at}
use Rattle.demand.specs.Priority.{lower}
use Rattle.demand.specs.Releases.{cost_of}
use Rattle.demand.specs.Test.{blocking}
use Rattle.asked.specs.Rows.{cost_at}
use Rattle.roster.specs.Keys.{key_at}
use Rattle.roster.specs.Rows.{RowsByNumber}
use Rattle.critical.specs.Pattern.{longest_lower, is_at, blocks, begin}
use Rattle.late_find.specs.declared.Longest.{Longest}
use Rattle.late_find.specs.Found.{KeysByNumber, above, longest_cost, blocker_of, is_blocker, LongestBelow, besides}
use Rattle.late_find.proofs.Above.{above_lower}
use Rattle.asked.specs.declared.rows.Rows.{Rows}

-- the order of two tests does not matter
and_turned : (a b : Bool) → (a && b) ≡ (b && a)
and_turned a b = same_test (a && b) (b && a) (λ both. (let two = and_both a b both in both_and b a two.1 two.0)) (λ both. (let two = and_both b a both in both_and a b two.1 two.0))

module _ (o : Order) (b : Build) (limits : WithinLimits o) (i : ℕ) (mine : i < o.tasks) (keys : List ℕ) (table : Rows) (r : Option Longest)
    (keyed : KeysByNumber o b o.tasks keys) (by_number : RowsByNumber o o.tasks table) (is : LongestBelow table keys o.tasks i r) where
  abbrev B : ℕ
  B = blocking o (besides b i) i

  lower_is : (j : ℕ) → j < o.tasks → above (key_at keys i) (key_at keys j) ≡ lower o (besides b i) i j
  lower_is j l = above_lower o b limits keys keyed i j mine l

  cost_here : (j : ℕ) → j < o.tasks → cost_at table j ≡ cost_of o j
  cost_here j l = (by_number.each j l).cost_is

  pub blocking_is : longest_cost r - 1 ≡ B
  unfolding blocking
  blocking_is =
      ap (λ (x : ℕ). x - 1) (is.cost_is ∙ largest_same _ (λ j. only (lower o (besides b i) i j) (cost_of o j)) o.tasks
      (λ j l. ap (λ (test : Bool). only test (cost_at table j)) (lower_is j l) ∙ ap (only (lower o (besides b i) i j)) (cost_here j l)))

  -- what costs is there
  there : (o : Option Longest) → 0 < longest_cost o → (longest : Longest) × (o ≡ Some longest)
  there (Some longest) some = (longest, refl)
  there None some = absurd (omega (arith, some))

  module _ (some : 0 < B) where
    cost_is : longest_cost r ≡ suc B
    cost_is = omega (arith, blocking_is, some)

    abbrev it : (longest : Longest) × (r ≡ Some longest)
    it = there r (omega (arith, cost_is))

    abbrev number : ℕ
    number = it.0.number

    its_cost : it.0.cost ≡ suc B
    its_cost = sym (ap longest_cost it.1) ∙ cost_is

    its_own : (number < o.tasks) × (above (key_at keys i) (key_at keys number) ≡ true) × (cost_at table number ≡ it.0.cost)
    its_own = is.its_cost it.0 it.1

    its_lower : lower o (besides b i) i number ≡ true
    its_lower = sym (lower_is number its_own.0) ∙ its_own.1

    lowest_number : longest_lower o (besides b i) i ≡ Some number
    unfolding longest_lower
    lowest_number =
        smallest_at _ 0 (o.tasks - 1) number (omega arith) (omega (arith, its_own.0))
        (both_and _ _ its_lower (eq-eqb _ _ (sym (cost_here number its_own.0) ∙ its_own.2 ∙ its_cost)))
        (λ s a l. refuted _ (λ both. (let known : s < o.tasks = omega (arith, l, its_own.0) in
        let two = and_both (lower o (besides b i) i s) (eqb (cost_of o s) (suc B)) both in
        omega (arith, is.lowest it.0 it.1 s l (lower_is s known ∙ two.0), cost_here s known, eqb-true (cost_of o s) (suc B) two.1, its_cost))))

    blocks_itself : (j : ℕ) → blocks o (besides b i) i j ≡ is_blocker (blocker_of r) j
    unfolding blocks
    blocks_itself j =
        ap (◌&& is_at o (besides b i) i (longest_lower o (besides b i) i) j) (lt-ltb 0 B some) ∙ ap (λ (f : Option ℕ). is_at o (besides b i) i f j) lowest_number
        ∙ sym (ap (λ (x : Option Longest). is_blocker (blocker_of x) j) it.1)

    blocked-lower : (j : ℕ) → blocks o (besides b i) i j ≡ true → lower o (besides b i) i j ≡ true
    blocked-lower j is_it =
        let same : eqb j number ≡ true = sym (ap (λ (x : Option Longest). is_blocker (blocker_of x) j) it.1) ∙ sym (blocks_itself j) ∙ is_it in
        ap (lower o (besides b i) i) (eqb-true j number same) ∙ its_lower

  blocks_none : B ≤ 0 → (j : ℕ) → blocks o (besides b i) i j ≡ false
  unfolding blocks
  blocks_none none j = ap (◌&& is_at o (besides b i) i (longest_lower o (besides b i) i) j) (le-ltb 0 B none)

  -- "if B is over 0" the rest begin at tick 1
  pub begin_is : min B 1 ≡ begin o (besides b i) i
  unfolding begin
  begin_is = elim (dec_lt 0 B) [ yes some ↦ rw (lt-ltb 0 B some) (omega (arith, some)) | no none ↦ (let le : B ≤ 0 = omega (arith, none) in rw (le-ltb 0 B le) (omega (arith, le))) ]

  -- the one that comes at tick 0
  pub blocks_is : (j : ℕ) → (is_blocker (blocker_of r) j && ltb 0 (min B 1)) ≡ blocks o (besides b i) i j
  blocks_is j =
      and_turned (is_blocker (blocker_of r) j) (ltb 0 (min B 1))
      ∙ elim (dec_lt 0 B) [
        | yes some ↦ ap (◌&& is_blocker (blocker_of r) j) (lt-ltb 0 (min B 1) (omega (arith, some))) ∙ sym (blocks_itself some j)
        | no none ↦ (let le : B ≤ 0 = omega (arith, none) in ap (◌&& is_blocker (blocker_of r) j) (le-ltb 0 (min B 1) (omega (arith, le))) ∙ sym (blocks_none le j))
      ]

  pub blocks-lower : (j : ℕ) → blocks o (besides b i) i j ≡ true → lower o (besides b i) i j ≡ true
  blocks-lower j it = elim (dec_lt 0 B) [
    | yes some ↦ blocked-lower some j it
    | no none ↦ clash (sym (blocks_none (omega (arith, none)) j) ∙ it)
  ]
