-- Laws of lists made index by index.
use mathlib.Core.Path.{◌≡◌, refl, ◌∙◌}
use mathlib.Core.List.{List, [], ◌∷◌, ◌++◌, append_assoc, append-nil}
use mathlib.Core.Logic.{⊎_elim}
use Prim.Native.Nat.{ℕ, zero, suc, ◌+◌, ◌-◌, ◌*◌, ◌≤◌, ◌<◌}
use native.Mathlib.Nat.{eq-or-lt_of_le, mul-zero, mul-suc, sub-zero}
use native.Mathlib.Numerals.{add-one}
use native.Mathlib.Omega.{arith}
use lib.ListN.{length, get_or, set, take, drop, replicate, length-append}
use lib.Seq.{drop_at, set_at, append_snoc, get_or_at, take-add, drop-drop}
use Rattle.laws.specs.Joined.{joined, listed, filled}

module _ {ℓ} {A : Type ℓ} where
  pub joined_none : (f : ℕ → List A) → joined f 0 ≡ []
  unfolding joined
  joined_none f = refl

  pub joined_more : (f : ℕ → List A) (n : ℕ) → joined f (n + 1) ≡ joined f n ++ f n
  unfolding joined
  joined_more f n = rw add-one

  -- equal below n
  pub joined_same : (f g : ℕ → List A) (n : ℕ) → ((i : ℕ) → i < n → f i ≡ g i) → joined f n ≡ joined g n
  unfolding joined
  joined_same f g zero same = refl
  joined_same f g (suc n) same = rw (joined_same f g n (λ i l. same i (omega arith)), same n (omega arith))

  -- the first i, f i, and what follows
  pub joined_at : (f : ℕ → List A) (n i : ℕ) → i < n → (rest : List A) × (joined f n ≡ joined f i ++ (f i ++ rest))
  unfolding joined
  joined_at f zero i below = absurd (omega arith)
  joined_at f (suc n) i below =
      let last : i ≡ n → (rest : List A) × (joined f n ++ f n ≡ joined f i ++ (f i ++ rest)) = λ e. ([], rw (e, append-nil)) in
      let earlier : i < n → (rest : List A) × (joined f n ++ f n ≡ joined f i ++ (f i ++ rest)) =
      λ l. let r = joined_at f n i l in
      (r.0 ++ f n, rw r.1 (simp append_assoc)) in
      ⊎_elim last earlier (eq-or-lt_of_le (omega arith))

  -- each part of one length
  pub length-joined : (f : ℕ → List A) (k n : ℕ) → ((i : ℕ) → length (f i) ≡ k) → length (joined f n) ≡ k * n
  unfolding joined
  length-joined f k zero each = omega arith
  length-joined f k (suc n) each = rw (length-append, length-joined f k n each, each n, mul-suc)

  -- each part at most so long
  pub length_joined_most : (f : ℕ → List A) (k n : ℕ) → ((i : ℕ) → i < n → length (f i) ≤ k) → length (joined f n) ≤ k * n
  unfolding joined
  length_joined_most f k zero each = omega arith
  length_joined_most f k (suc n) each = rw (length-append, mul-suc) (omega (arith, length_joined_most f k n (λ i l. each i (omega arith)), each n (omega arith)))

  -- what stands from part i on, where each part has one length
  pub drop-joined : (f : ℕ → List A) (k n i : ℕ) → ((x : ℕ) → length (f x) ≡ k) → i < n → (rest : List A) × (drop (k * i) (joined f n) ≡ f i ++ rest)
  drop-joined f k n i each below =
      let r = joined_at f n i below in
      (r.0, rw r.1 (drop_at (joined f i) (f i ++ r.0) (k * i) (length-joined f k i each)))

module _ {A : Type 0} where
  pub length-listed : (f : ℕ → A) (n : ℕ) → length (listed f n) ≡ n
  length-listed f n = length-joined (λ i. f i ∷ []) 1 n (λ i. refl) ∙ omega arith

  pub listed_more : (f : ℕ → A) (n : ℕ) → listed f (n + 1) ≡ listed f n ++ (f n ∷ [])
  listed_more f n = joined_more (λ i. f i ∷ []) n

  pub get_or-listed : (f : ℕ → A) (d : A) (n i : ℕ) → i < n → get_or (listed f n) i d ≡ f i
  get_or-listed f d n i below =
      let r = joined_at (λ x. f x ∷ []) n i below in
      rw r.1 (get_or_at (listed f i) (f i) r.0 d i (length-listed f i))

  pub filled_none : (f : ℕ → A) (z : A) (m : ℕ) → replicate m z ≡ filled f z m 0
  unfolding joined
  filled_none f z m = rw sub-zero

  pub filled_more : (f : ℕ → A) (z : A) (m i : ℕ) → i < m → set (filled f z m i) i (f i) ≡ filled f z m (i + 1)
  filled_more f z m i below =
      let e : m - i ≡ suc (m - (i + 1)) = omega arith in
      rw (e, set_at (listed f i) z (replicate (m - (i + 1)) z) (f i) i (length-listed f i), listed_more f i, append_snoc)

  -- a list cut into parts of one length
  pub joined_parts : (s : List A) (from k n : ℕ) → joined (λ i. take k (drop (from + k * i) s)) n ≡ take (k * n) (drop from s)
  unfolding joined
  joined_parts s from k zero = rw mul-zero
  joined_parts s from k (suc n) = rw (joined_parts s from k n, mul-suc, take-add (k * n) k (drop from s), drop-drop (k * n) from s)
