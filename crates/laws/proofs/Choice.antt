-- What a passed test of a range says, and laws of tests.
use mathlib.Core.Path.{◌≡◌, refl, sym, subst}
use mathlib.Core.Bool.{Bool, true, false}
use Prim.Native.Nat.{ℕ, ◌≤◌}
use lib.Dec.{leb, T}
use borrow.Author.Tests.{le-leb, leb-true}
use Rattle.laws.specs.Choice.{pick, within}

pub both : (a b : Bool) → pick a b false ≡ true → (a ≡ true) × (b ≡ true)
both true b e = (refl, e)
both false b e = absurd (subst T (sym e) tt)

pub within_true : (least most x : ℕ) → within least most x ≡ true → (least ≤ x) × (x ≤ most)
within_true least most x e =
    let p = both (leb least x) (leb x most) e in (leb-true _ _ p.0, leb-true _ _ p.1)

pub true_within : (least most x : ℕ) → least ≤ x → x ≤ most → within least most x ≡ true
true_within least most x l m = rw (le-leb least x l) (le-leb x most m)

-- tests that pass together are one
pub same_test : (a b : Bool) → (a ≡ true → b ≡ true) → (b ≡ true → a ≡ true) → a ≡ b
same_test true b there back = sym (there refl)
same_test false true there back = back refl
same_test false false there back = refl

-- a test that cannot pass
pub refuted : (test : Bool) → (test ≡ true → ⊥) → test ≡ false
refuted true never-passes = absurd (never-passes refl)
refuted false never-passes = refl

pub pick_told : (test : Bool) → pick test true false ≡ test
pick_told true = refl
pick_told false = refl

pub pick-never : (test : Bool) → pick test false false ≡ false
pick-never true = refl
pick-never false = refl

pub pick_turned : (a b : Bool) → pick a b false ≡ pick b a false
pick_turned true true = refl
pick_turned true false = refl
pick_turned false true = refl
pick_turned false false = refl
