-- Laws of tables: their length, their elements, and a list that is zero past a count as a table; and where a part of a joined list begins.
use mathlib.Core.Path.{◌≡◌, refl, sym, ap, ◌∙◌}
use mathlib.Core.List.{List, [], ◌∷◌, ◌++◌, append_assoc}
use Prim.Native.Nat.{ℕ, zero, suc, ◌+◌, ◌-◌, ◌*◌, ◌≤◌, ◌<◌}
use native.Mathlib.Decide.{dec_lt}
use native.Mathlib.Nat.{mul-le-mul_left}
use native.Mathlib.Omega.{arith}
use lib.ListN.{length, get_or, drop, replicate, length-append, length-replicate, get_or-append}
use lib.Seq.{drop_at, drop-drop, drop-append-le, get_or-append-add, ext_get_or}
use Rattle.laws.specs.Joined.{joined, listed, filled}
use Rattle.laws.proofs.Joined.{joined_same, length-joined, drop-joined, length-listed, get_or-listed}

module _ {A : Type 0} where
  pub length-filled : (f : ℕ → A) (z : A) (m n : ℕ) → n ≤ m → length (filled f z m n) ≡ m
  length-filled f z m n few = rw (length-append, length-listed f n, length-replicate) (omega arith)

  -- a place below the count
  pub filled_in : (f : ℕ → A) (z : A) (m n i : ℕ) → i < n → get_or (filled f z m n) i z ≡ f i
  filled_in f z m n i below =
      get_or-append (listed f n) (replicate (m - n) z) z i (rw (length-listed f n) below) ∙ get_or-listed f z n i below

  -- the same everywhere, past the end too
  pub get_or_alike : (m i : ℕ) (z : A) → get_or (replicate m z) i z ≡ z
  get_or_alike zero zero z = refl
  get_or_alike zero (suc i) z = refl
  get_or_alike (suc m) zero z = refl
  get_or_alike (suc m) (suc i) z = get_or_alike m i z

  -- a place past the count
  pub filled_past : (f : ℕ → A) (z : A) (m n i : ℕ) → n ≤ i → get_or (filled f z m n) i z ≡ z
  filled_past f z m n i past =
      let e : i ≡ length (listed f n) + (i - n) = rw (length-listed f n) (omega arith) in
      ap (λ (k : ℕ). get_or (filled f z m n) k z) e ∙ get_or-append-add (listed f n) (replicate (m - n) z) (i - n) z ∙ get_or_alike (m - n) (i - n) z

  pub filled_same : (f g : ℕ → A) (z : A) (m n : ℕ) → ((i : ℕ) → i < n → f i ≡ g i) → filled f z m n ≡ filled g z m n
  filled_same f g z m n same = ap (◌++ replicate (m - n) z) (joined_same (λ i. f i ∷ []) (λ i. g i ∷ []) n (λ i l. ap (◌∷ []) (same i l)))

  -- a list that is zero past a count
  pub filled_all : (xs : List A) (z : A) (m n : ℕ) → length xs ≡ m → n ≤ m → ((i : ℕ) → n ≤ i → get_or xs i z ≡ z) → filled (λ i. get_or xs i z) z m n ≡ xs
  filled_all xs z m n size few past =
      ext_get_or z (filled (λ i. get_or xs i z) z m n) xs (length-filled (λ i. get_or xs i z) z m n few ∙ sym size)
      (λ i _. elim (dec_lt i n) [ yes below ↦ filled_in (λ k. get_or xs k z) z m n i below | no over ↦ filled_past (λ k. get_or xs k z) z m n i (omega arith) ∙ sym (past i (omega arith)) ])

  -- behind a front, part i and what follows it, where each part has one length
  pub drop-part : (front : List A) (f : ℕ → List A) (behind : List A) (h k n i : ℕ) → length front ≡ h → ((x : ℕ) → length (f x) ≡ k) → i < n →
      (rest : List A) × (drop (h + k * i) (front ++ (joined f n ++ behind)) ≡ f i ++ rest)
  drop-part front f behind h k n i size each below =
      let r = drop-joined f k n i each below in
      let long : k * i ≤ length (joined f n) = rw (length-joined f k n each) (mul-le-mul_left k (omega arith)) in
      (r.0 ++ behind, sym (drop-drop (k * i) h (front ++ (joined f n ++ behind))) ∙ rw (drop_at front (joined f n ++ behind) h size, drop-append-le (k * i) (joined f n) behind long, r.1, append_assoc))
