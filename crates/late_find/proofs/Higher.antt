-- The numbers of the higher members, task by task.
use mathlib.Core.Path.{◌≡◌, ap, ◌∙◌}
use mathlib.Core.Bool.{Bool, true, false}
use mathlib.Core.List.{List}
use Prim.Native.Nat.{ℕ, ◌+◌, ◌<◌}
use native.Mathlib.Decide.{ℕ_discrete}
use native.Mathlib.Omega.{arith}
use lib.ListN.{length, get_or, set, length-set}
use lib.Seq.{get_or-set_same, get_or-set_other}
use Rattle.laws.specs.Sums.{only}
use Rattle.laws.proofs.Only.{only_true, only_false}
use Rattle.laws.proofs.Sums.{sum_none, sum_more, sum_same}
use Rattle.model.specs.Limits.{most_tasks}
use Rattle.roster.specs.Keys.{key_at}
use Rattle.late_find.specs.Found.{above, HigherNumbers}

module _ (keys : List ℕ) (named : ℕ) where
  pub higher_none : (numbers : List ℕ) → length numbers ≡ most_tasks → HigherNumbers keys 0 named numbers 0
  higher_none numbers places =
      record { places = places; few = omega arith; within = λ r l. absurd (omega (arith, l)); sums = λ f. omega (arith, sum_none (λ r. f (get_or numbers r 0)), sum_none (λ j. only (above (key_at keys j) (key_at keys named)) (f j))) }

  module _ (i : ℕ) (numbers : List ℕ) (count : ℕ) (is : HigherNumbers keys i named numbers count) where
    abbrev passes : ℕ → Bool
    passes j = above (key_at keys j) (key_at keys named)

    -- another task
    pub higher_stays : passes i ≡ false → HigherNumbers keys (i + 1) named numbers count
    higher_stays out =
        record {
          places = is.places;
          few = omega (arith, is.few);
          within = λ r l. omega (arith, is.within r l);
          sums = λ f. omega (arith, is.sums f, sum_more (λ j. only (passes j) (f j)) i, only_false (passes i) (f i) out);
        }

    -- one more
    pub higher_next : i < most_tasks → passes i ≡ true → HigherNumbers keys (i + 1) named (set numbers count i) (count + 1)
    higher_next small its =
        record {
          places = length-set numbers count i ∙ is.places;
          few = omega (arith, is.few);
          within = λ r l. elim (ℕ_discrete r count) [
            | yes same ↦ omega (arith, ap (λ (x : ℕ). get_or (set numbers count i) x 0) same, here)
            | no other ↦ (let early : r < count = omega (arith, l, other) in omega (arith, earlier r early, is.within r early))
          ];
          sums = λ f.
              omega (
                arith,
                is.sums f,
                sum_more (λ j. only (passes j) (f j)) i,
                only_true (passes i) (f i) its,
                sum_more (λ r. f (get_or (set numbers count i) r 0)) count,
                ap f here,
                sum_same (λ r. f (get_or (set numbers count i) r 0)) (λ r. f (get_or numbers r 0)) count (λ r l. ap f (earlier r l)),
              );
        }
      where
        here : get_or (set numbers count i) count 0 ≡ i
        here = get_or-set_same numbers count i 0 (omega (arith, is.few, is.places))

        earlier : (r : ℕ) → r < count → get_or (set numbers count i) r 0 ≡ get_or numbers r 0
        earlier r l = get_or-set_other numbers count r i 0 (λ e. omega (arith, e))
