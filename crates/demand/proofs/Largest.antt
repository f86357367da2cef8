-- What the largest of several says, where one may be missing.
use Rattle.std.specs.Prelude.{Some, None, Option, Ok, Err}
use mathlib.Core.Path.{◌≡◌, refl, sym, ap, ◌∙◌, subst}
use mathlib.Core.Logic.{⊎_elim}
use Prim.Native.Nat.{ℕ, zero, suc, ◌+◌, ◌≤◌, ◌<◌, max}
use native.Mathlib.Nat.{eq-or-lt_of_le, le_of_suc-le-suc}
use native.Mathlib.Decide.{dec_le}
use native.Mathlib.Numerals.{add-one}
use native.Mathlib.Omega.{arith}
use mathlib.Core.Bool.{Bool}
use borrow.Author.Tests.{le-leb, lt-leb}
use Rattle.laws.specs.Choice.{pick}
use Rattle.demand.specs.Test.{TooLate, larger_found, largest_found, judged}

pub at_one : (x y : ℕ) → ◌≡◌ {A = Option ℕ} (Some x) (Some y) → x ≡ y
at_one x y e = cc e

module _ (f : ℕ → Option ℕ) where
  pub largest_found_none : largest_found f 0 ≡ Some 0
  unfolding largest_found
  largest_found_none = refl

  pub largest_found_more : (k m x : ℕ) → largest_found f k ≡ Some m → f k ≡ Some x → largest_found f (k + 1) ≡ Some (max m x)
  unfolding largest_found
  largest_found_more k m x e g = rw (add-one, e, g)

  -- all are there, none is over m, and m is one of them
  pub record LargestIs (k m : ℕ) : Type 0 where
    pub each : (q : ℕ) → q < k → (x : ℕ) × (f q ≡ Some x) × (x ≤ m)
    pub attained : 0 < k → (q : ℕ) × (q < k) × (f q ≡ Some m)
    pub none : k ≡ 0 → m ≡ 0

  one_more : (k m x : ℕ) → LargestIs k m → f k ≡ Some x → LargestIs (suc k) (max m x)
  one_more k m x was here =
      record {
        each = λ q l.
            ⊎_elim
            (λ e. (x, ap f e ∙ here, omega arith))
            (λ b. (let r = was.each q b in (r.0, r.1, omega (arith, r.2))))
            (eq-or-lt_of_le (le_of_suc-le-suc l));
        attained = λ some.
            elim (dec_le x m) [
              | yes le ↦ elim (dec_le 1 k) [
                | yes pos ↦ (let r = was.attained pos in
                    (r.0, omega (arith, r.1), r.2 ∙ ap Some (omega arith)))
                | no gone ↦ (k, omega arith, here ∙ ap Some (omega (arith, was.none (omega arith))))
              ]
              | no gt ↦ (k, omega arith, here ∙ ap Some (omega arith))
            ];
        none = λ e. absurd (omega arith);
      }

  pub largest_says : (k m : ℕ) → largest_found f k ≡ Some m → LargestIs k m
  unfolding largest_found
  largest_says zero m e =
      record { each = λ q l. absurd (omega arith); attained = λ l. absurd (omega arith); none = λ z. sym (at_one 0 m e) }
  largest_says (suc k) m e = go (λ (a : ℕ) (p : largest_found f k ≡ Some a). largest_says k a p) (largest_found f k) refl (f k) refl e
    where
      go : ((a : ℕ) → largest_found f k ≡ Some a → LargestIs k a) → (a : Option ℕ) → largest_found f k ≡ a → (b : Option ℕ) → f k ≡ b → larger_found a b ≡ Some m → LargestIs (suc k) m
      go ih None p b r h = (let z : ◌≡◌ {A = ℕ} 0 1 = cc h in absurd (omega arith))
      go ih (Some a) p None r h = (let z : ◌≡◌ {A = ℕ} 0 1 = cc h in absurd (omega arith))
      go ih (Some a) p (Some b) r h = subst (λ (x : ℕ). LargestIs (suc k) x) (at_one (max a b) m h) (one_more k a b (ih a p) r)

  -- where all are there, so is the largest
  pub largest_there : (k : ℕ) → ((q : ℕ) → q < k → (x : ℕ) × (f q ≡ Some x)) → (m : ℕ) × (largest_found f k ≡ Some m)
  unfolding largest_found
  largest_there zero all = (0, refl)
  largest_there (suc k) all =
      let was = largest_there k (λ q l. all q (omega arith)) in
      let here = all k (omega arith) in
      (max was.0 here.0, rw (was.1, here.1))

  -- one late response is enough
  pub judged_late : (k deadline q x : ℕ) → ((q : ℕ) → q < k → (x : ℕ) × (f q ≡ Some x)) → q < k → f q ≡ Some x → deadline < x → judged deadline (largest_found f k) ≡ Err TooLate
  judged_late k deadline q x all l e late =
      let most = largest_there k all in
      let r = (largest_says k most.0 most.1).each q l in
      let v : ◌≡◌ {A = Option ℕ} (Some r.0) (Some x) = sym r.1 ∙ e in
      ap (judged deadline) most.1
      ∙ ap (λ (b : Bool). pick b (Ok most.0) (Err TooLate)) (lt-leb most.0 deadline (omega (arith, at_one r.0 x v, r.2)))

  pub judged_passes : (k deadline m : ℕ) → largest_found f k ≡ Some m → m ≤ deadline → judged deadline (largest_found f k) ≡ Ok m
  judged_passes k deadline m e le = ap (judged deadline) e ∙ ap (λ (b : Bool). pick b (Ok m) (Err TooLate)) (le-leb m deadline le)
