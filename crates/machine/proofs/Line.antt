-- A task's waiting jobs as work in line: what was released before each of them, counted.
use Prim.Native.Nat.{ℕ, zero, suc, ◌+◌, ◌<◌}
use mathlib.Core.Path.{◌≡◌, refl, sym, subst₂}
use mathlib.Core.List.{List, [], ◌∷◌, ◌++◌, append-nil}
use native.Mathlib.Omega.{arith}
use Rattle.laws.specs.Sums.{sum}
use Rattle.laws.proofs.Sums.{sum_suc}
use Rattle.machine.specs.Step.{Pattern, Job, job, released}

-- the work of jobs: their durations together
unfoldable pub work_of : List Job → ℕ
work_of [] = 0
work_of (j ∷ js) = j.duration + work_of js

pub work_none : work_of [] ≡ 0
unfolding work_of
work_none = refl

work_snoc : (js : List Job) (t n : ℕ) → work_of (js ++ (job t n ∷ [])) ≡ work_of js + n
unfolding work_of
work_snoc [] t n = omega arith
work_snoc (j ∷ js) t n = omega (arith, work_snoc js t n)

pub work_joined : (js : List Job) (t n : ℕ) → work_of (js ++ released t n) ≡ work_of js + n
unfolding released
work_joined js t zero = rw append-nil (omega arith)
work_joined js t (suc n) = work_snoc js t (suc n)

module _ (releases : Pattern) where
  -- the work that task k releases before tick t
  abbrev pub released_before : ℕ → ℕ → ℕ
  released_before k t = sum (λ u. releases u k) t

  -- work c was released before the first of these jobs, and all that is released before t ends with the last of them
  abbrev pub InLine : ℕ → ℕ → List Job → ℕ → Type 0
  InLine k c [] t = c ≡ released_before k t
  InLine k c (j ∷ js) t = (c ≡ released_before k j.release) × (j.duration ≡ releases j.release k) × (0 < j.duration) × InLine k (c + j.duration) js t

  pub line_work : (k c : ℕ) (js : List Job) (t : ℕ) → InLine k c js t → c + work_of js ≡ released_before k t
  unfolding work_of
  line_work k c [] t h = omega arith
  line_work k c (j ∷ js) t h = omega (arith, line_work k (c + j.duration) js t h.3)

  line_stays : (k c : ℕ) (js : List Job) (t : ℕ) → releases t k ≡ 0 → InLine k c js t → InLine k c js (suc t)
  line_stays k c [] t z h = omega (arith, sum_suc (λ u. releases u k) t)
  line_stays k c (j ∷ js) t z h = (h.0, h.1, h.2, line_stays k (c + j.duration) js t z h.3)

  line_snoc : (k c : ℕ) (js : List Job) (t n : ℕ) → releases t k ≡ suc n → InLine k c js t → InLine k c (js ++ (job t (suc n) ∷ [])) (suc t)
  line_snoc k c [] t n z h = (h, sym z, omega arith, omega (arith, sum_suc (λ u. releases u k) t))
  line_snoc k c (j ∷ js) t n z h = (h.0, h.1, h.2, line_snoc k (c + j.duration) js t n z h.3)

  pub line_joined : (k c : ℕ) (js : List Job) (t n : ℕ) → releases t k ≡ n → InLine k c js t → InLine k c (js ++ released t n) (suc t)
  unfolding released
  line_joined k c js t zero z h = rw append-nil (line_stays k c js t z h)
  line_joined k c js t (suc n) z h = line_snoc k c js t n z h

  pub line_at : (k : ℕ) {c c' : ℕ} {js js' : List Job} (t : ℕ) → c ≡ c' → js ≡ js' → InLine k c js t → InLine k c' js' t
  line_at k t p e h = subst₂ (λ x y. InLine k x y t) p e h
