-- A task put into a partition: its own number changes and no other, so one task fewer waits.
use Rattle.std.specs.Prelude.{Option, Some, None, is_none, unwrap_or}
use mathlib.Core.Path.{◌≡◌, refl, sym, ap, ap₂, ◌∙◌}
use mathlib.Core.Bool.{Bool, true, false, ◌||◌}
use Prim.Native.Nat.{ℕ, ◌+◌, ◌<◌}
use native.Mathlib.Decide.{ℕ_discrete}
use native.Mathlib.Omega.{arith}
use lib.Dec.{eqb}
use lib.ListN.{length, get_or, set}
use lib.Seq.{get_or-set_same, get_or-set_other}
use borrow.Author.Tests.{eq-eqb, ne_eqb, eqb-true, eqb-false}
use Rattle.laws.specs.Sums.{only}
use Rattle.laws.proofs.Every.{clash, count_each}
use Rattle.laws.proofs.Sums.{sum_same, sum_in, sum_some}
use Rattle.laws.proofs.Picked.{sum_with}
use Rattle.turns.specs.Turns.{Homes, unplaced, home_at, is_unplaced}
use Rattle.fitting.specs.Steps.{living_in}
use Rattle.fitting.specs.Standing.{waiting}

-- what the two questions about partition numbers say
module _ (homes : Homes) where
  pub unplaced_says : (j : ℕ) → is_unplaced homes j ≡ true → home_at homes j ≡ unplaced
  unfolding is_unplaced
  unplaced_says j e = go (get_or homes j None) e
    where
      go : (home : Option ℕ) → is_none home ≡ true → unwrap_or home unplaced ≡ unplaced
      go (Some k) e = clash e
      go None e = refl

  pub says_placed : (j : ℕ) → home_at homes j < unplaced → is_unplaced homes j ≡ false
  unfolding is_unplaced
  says_placed j l = go (get_or homes j None) l
    where
      go : (home : Option ℕ) → unwrap_or home unplaced < unplaced → is_none home ≡ false
      go (Some k) l = refl
      go None l = absurd (omega arith)

-- who lives in a partition
module _ (homes : Homes) (k : ℕ) where
  pub living_says : (j : ℕ) → living_in homes k j ≡ true → home_at homes j ≡ k
  unfolding living_in
  living_says j e = eqb-true _ _ e

  pub says_living : (j : ℕ) → home_at homes j ≡ k → living_in homes k j ≡ true
  unfolding living_in
  says_living j e = eq-eqb _ _ e

  pub away_says : (j : ℕ) → living_in homes k j ≡ false → home_at homes j ≡ k → ⊥
  unfolding living_in
  away_says j e = eqb-false _ _ e

  pub says_away : (j : ℕ) → (home_at homes j ≡ k → ⊥) → living_in homes k j ≡ false
  unfolding living_in
  says_away j e = ne_eqb _ _ e

-- lists of numbers that agree say alike
pub living_same : (a b : Homes) (k l j : ℕ) → home_at a j ≡ home_at b j → k ≡ l → living_in a k j ≡ living_in b l j
unfolding living_in
living_same a b k l j p q = ap₂ (λ (x y : ℕ). eqb x y) p q

pub all_wait : (homes : Homes) (n : ℕ) → ((j : ℕ) → j < n → is_unplaced homes j ≡ true) → waiting homes n ≡ n
unfolding waiting
all_wait homes n each = count_each (is_unplaced homes) n each

pub none_waits : (homes : Homes) (n : ℕ) → waiting homes n ≡ 0 → (j : ℕ) → j < n → is_unplaced homes j ≡ false
unfolding waiting
none_waits homes n e j l = go (is_unplaced homes j) refl
  where
    go : (b : Bool) → is_unplaced homes j ≡ b → is_unplaced homes j ≡ false
    go true u =
        let one : only (is_unplaced homes j) 1 ≡ 1 = ap (λ (x : Bool). only x 1) u in
        absurd (omega (arith, sum_in (λ j. only (is_unplaced homes j) 1) n j l))
    go false u = u

pub one_waits : (homes : Homes) (n : ℕ) → 0 < waiting homes n → (j : ℕ) × (j < n) × (is_unplaced homes j ≡ true)
unfolding waiting
one_waits homes n h =
    let r = sum_some (λ j. only (is_unplaced homes j) 1) n h in
    (r.0, r.1, go r.0 r.2 (is_unplaced homes r.0) refl)
  where
    go : (j : ℕ) → 0 < only (is_unplaced homes j) 1 → (b : Bool) → is_unplaced homes j ≡ b → is_unplaced homes j ≡ true
    go j l true e = e
    go j l false e = let none : only (is_unplaced homes j) 1 ≡ 0 = ap (λ (x : Bool). only x 1) e in absurd (omega arith)

-- task i put in partition k
module _ (homes : Homes) (i k : ℕ) (room : i < length homes) where
  pub put_here : home_at (set homes i (Some k)) i ≡ k
  put_here = ap (λ (home : Option ℕ). unwrap_or home unplaced) (get_or-set_same homes i (Some k) None room)

  pub put_other : (j : ℕ) → (j ≡ i → ⊥) → home_at (set homes i (Some k)) j ≡ home_at homes j
  put_other j apart = ap (λ (home : Option ℕ). unwrap_or home unplaced) (get_or-set_other homes i j (Some k) None apart)

  pub put_placed : k < unplaced → is_unplaced (set homes i (Some k)) i ≡ false
  put_placed l = says_placed (set homes i (Some k)) i (omega (arith, put_here))

  pub put-unplaced : (j : ℕ) → (j ≡ i → ⊥) → is_unplaced (set homes i (Some k)) j ≡ is_unplaced homes j
  unfolding is_unplaced
  put-unplaced j apart = ap (λ (home : Option ℕ). is_none home) (get_or-set_other homes i j (Some k) None apart)

  module _ (n : ℕ) (below : i < n) (was : is_unplaced homes i ≡ true) (open-one : k < unplaced) where
    either : (j : ℕ) → (eqb j i || is_unplaced (set homes i (Some k)) j) ≡ is_unplaced homes j
    either j = elim (ℕ_discrete j i) [
      | yes e ↦ rw (eq-eqb j i e) (sym was ∙ ap (is_unplaced homes) (sym e))
      | no apart ↦ rw (ne_eqb j i apart) (put-unplaced j apart)
    ]

    -- one fewer waits
    pub put-waiting : waiting homes n ≡ 1 + waiting (set homes i (Some k)) n
    unfolding waiting
    put-waiting =
        sym (sum_same (λ j. only (eqb j i || is_unplaced (set homes i (Some k)) j) 1) (λ j. only (is_unplaced homes j) 1) n (λ j l. ap (λ (x : Bool). only x 1) (either j)))
        ∙ sum_with (is_unplaced (set homes i (Some k))) (λ j. 1) i (put_placed open-one) n below

  -- a placed task of another partition keeps its members
  pub living_kept : is_unplaced homes i ≡ true → (j : ℕ) → living_in (set homes i (Some k)) k j ≡ false → (home_at homes j ≡ unplaced → ⊥)
      → (x : ℕ) → living_in (set homes i (Some k)) (home_at (set homes i (Some k)) j) x ≡ living_in homes (home_at homes j) x
  living_kept waits j out there x =
      let other : home_at (set homes i (Some k)) j ≡ k → ⊥ = away_says (set homes i (Some k)) k j out in
      let away : j ≡ i → ⊥ = λ e. other (ap (home_at (set homes i (Some k))) e ∙ put_here) in
      elim (ℕ_discrete x i) [
        | yes e ↦
            says_away (set homes i (Some k)) (home_at (set homes i (Some k)) j) x (λ s. other (sym s ∙ ap (home_at (set homes i (Some k))) e ∙ put_here))
            ∙ sym (says_away homes (home_at homes j) x (λ s. there (omega (arith, s, ap (home_at homes) e, unplaced_says homes i waits))))
        | no ne ↦ living_same (set homes i (Some k)) homes (home_at (set homes i (Some k)) j) (home_at homes j) x (put_other x ne) (put_other j away)
      ]
