-- Laws of the records of two scripts after each other.
use Prim.Native.Nat.{ℕ, suc, ◌+◌, ◌-◌, ◌≤◌, ◌<◌}
use mathlib.Core.Path.{◌≡◌, refl, sym, ap, ◌∙◌, subst}
use mathlib.Core.Bool.{Bool, true, false, ◌&&◌}
use mathlib.Core.List.{List, [], ◌∷◌, ◌++◌}
use native.Mathlib.Decide.{dec_lt}
use native.Mathlib.Omega.{arith}
use lib.Dec.{eqb}
use lib.ListN.{length, length-append, get_or-append}
use lib.Seq.{get_or-append-add}
use borrow.Author.Tests.{eqb-true}
use Rattle.laws.specs.Choice.{pick}
use Rattle.model.specs.declared.build.Release.{Release}
use Rattle.model.specs.Limits.{zero_release}
use Rattle.machine.specs.Pattern.{record_of, joins_at, pattern_of}
use Rattle.script.specs.Judged.{release_key}

-- each record of a list
abbrev pub Each : (Release → Type 0) → List Release → Type 0
Each is script = (i : ℕ) → i < length script → is (record_of script i)

-- "rise strictly by tick, then task", by key
abbrev pub Rise : List Release → Type 0
Rise script = (i j : ℕ) → i < j → j < length script → release_key (record_of script i) < release_key (record_of script j)

module _ (xs ys : List Release) where
  front_record : (i : ℕ) → i < length xs → record_of (xs ++ ys) i ≡ record_of xs i
  front_record i l = get_or-append xs ys zero_release i l

  behind_record : (i : ℕ) → length xs ≤ i → record_of (xs ++ ys) i ≡ record_of ys (i - length xs)
  behind_record i le = let e : i ≡ length xs + (i - length xs) = omega arith in ap (record_of (xs ++ ys)) e ∙ get_or-append-add xs ys (i - length xs) zero_release

  pub each_append : (is : Release → Type 0) → Each is xs → Each is ys → Each is (xs ++ ys)
  each_append is front behind i l = elim (dec_lt i (length xs)) [
    | yes p ↦ subst is (sym (front_record i p)) (front i p)
    | no p ↦ subst is (sym (behind_record i (omega arith))) (behind (i - length xs) (omega (arith, length-append xs ys)))
  ]

  pub rise_append : (key : ℕ) → Rise xs → Rise ys → Each (λ r. release_key r < key) xs → Each (λ r. key ≤ release_key r) ys → Rise (xs ++ ys)
  rise_append key front behind below from i j l m = go (dec_lt i (length xs)) (dec_lt j (length xs))
    where
      go : Dec (i < length xs) → Dec (j < length xs) → release_key (record_of (xs ++ ys) i) < release_key (record_of (xs ++ ys) j)
      go (yes p) (yes q) = rw (front_record i p, front_record j q) (front i j l q)
      go (yes p) (no q) =
          rw (front_record i p, behind_record j (omega arith)) (omega (arith, below i p, from (j - length xs) (omega (arith, length-append xs ys))))
      go (no p) (yes q) = absurd (omega arith)
      go (no p) (no q) =
          rw (behind_record i (omega arith), behind_record j (omega arith)) (behind (i - length xs) (j - length xs) (omega arith) (omega (arith, length-append xs ys)))

-- the pattern of two scripts after each other, where the first has nothing
pub pattern_missed : (xs ys : List Release) (tick task : ℕ) → Each (λ r. (joins_at r ≡ tick) × (r.task ≡ task) → ⊥) xs → pattern_of (xs ++ ys) tick task ≡ pattern_of ys tick task
unfolding pattern_of
pattern_missed [] ys tick task none = refl
pattern_missed (r ∷ xs) ys tick task none = go (eqb (joins_at r) tick) refl (eqb r.task task) refl (pattern_missed xs ys tick task (λ i l. none (suc i) (omega arith)))
  where
    go : (b : Bool) → eqb (joins_at r) tick ≡ b → (c : Bool) → eqb r.task task ≡ c → pattern_of (xs ++ ys) tick task ≡ pattern_of ys tick task
        → pick (b && c) r.duration (pattern_of (xs ++ ys) tick task) ≡ pattern_of ys tick task
    go true p true q ih = absurd (none 0 (omega arith) (eqb-true _ _ p, eqb-true _ _ q))
    go true p false q ih = ih
    go false p c q ih = ih

-- and where the second has nothing
pub pattern_kept : (xs ys : List Release) (tick task : ℕ) → pattern_of ys tick task ≡ 0 → pattern_of (xs ++ ys) tick task ≡ pattern_of xs tick task
unfolding pattern_of
pattern_kept [] ys tick task none = none
pattern_kept (r ∷ xs) ys tick task none = rw (pattern_kept xs ys tick task none)
