-- Lists made index by index.
use Rattle.std.specs.Prelude.{ℕ, zero, suc, ◌-◌, List, [], ◌∷◌, ◌++◌, ltb, eqb, drop, replicate}
use Rattle.laws.specs.Choice.{pick}

-- f 0, then f 1, up to f (n - 1)
unfoldable pub joined {ℓ} : {A : Type ℓ} → (ℕ → List A) → ℕ → List A
joined f zero = []
joined f (suc n) = joined f n ++ f n

-- the list of f 0, f 1, up to f (n - 1)
abbrev pub listed : {A : Type 0} → (ℕ → A) → ℕ → List A
listed f n = joined (λ i. f i ∷ []) n

-- a table of m places: the first n of f, and z past them
abbrev pub filled : {A : Type 0} → (ℕ → A) → A → ℕ → ℕ → List A
filled f z m n = listed f n ++ replicate (m - n) z

-- a list whose first k are written over by f
abbrev pub overlaid : {A : Type 0} → (ℕ → A) → (k : ℕ) → List A → List A
overlaid f k xs = listed f k ++ drop k xs

-- f with x put in at place p: what stood from there on moves up by one
abbrev pub inserted_at : {A : Type 0} → (p : ℕ) → A → (ℕ → A) → ℕ → A
inserted_at p x f r = pick (ltb r p) (f r) (pick (eqb r p) x (f (r - 1)))
