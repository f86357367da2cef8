-- What a range of the code contains, as the rules ask it.
use Rattle.std.specs.Prelude.{Some}
use Rattle.std.specs.Ordering.{partial_le, nat_cmp}
use Rattle.std.specs.Range.{range_inclusive_start, range_inclusive_end, range_inclusive_exhausted, range_inclusive_contains}
use Rattle.std.specs.declared.ops.RangeInclusive.{RangeInclusive}
use Rattle.std.proofs.Common.{arith, ◌&&◌}
use Rattle.std.proofs.lemmas.Grind.{common_steps}
use Rattle.std.proofs.lemmas.Map.Keys.{le_from_is_le}
use mathlib.Core.Path.{◌≡◌, refl, sym, ◌∙◌}
use mathlib.Core.Bool.{Bool, true, false}
use lib.Dec.{leb}
use Prim.Native.Nat.{ℕ, ◌≤◌}
use borrow.Author.Tests.{le-leb, leb-true}
use Rattle.laws.specs.Choice.{pick, within}
use Rattle.laws.proofs.Choice.{same_test}

le_passes : (x y : ℕ) → x ≤ y → partial_le (λ a b. Some (nat_cmp a b)) x y ≡ true
le_passes x y h = grind (arith, common_steps)

le_told : (x y : ℕ) → partial_le (λ a b. Some (nat_cmp a b)) x y ≡ leb x y
le_told x y = same_test _ _ (λ passes. le-leb x y (le_from_is_le x y passes)) (λ at_most. le_passes x y (leb-true x y at_most))

and_picks : (a b : Bool) → (a && b) ≡ pick a b false
and_picks true b = refl
and_picks false b = refl

-- `(least..=most).contains(&x)` tells whether x is in range
pub contained : (r : RangeInclusive ℕ) (x : ℕ) {least most : ℕ} {test : Bool} → range_inclusive_start r ≡ least → range_inclusive_end r ≡ most → range_inclusive_exhausted r ≡ false →
    test ≡ range_inclusive_contains (λ a b. Some (nat_cmp a b)) r x → within least most x ≡ test
contained r x {least} {most} first last fresh told =
    let asked : range_inclusive_contains (λ a b. Some (nat_cmp a b)) r x ≡ within least most x = simp (fresh, le_told, and_picks, first, last) in
    sym (told ∙ asked)
