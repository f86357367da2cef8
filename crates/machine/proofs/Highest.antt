-- What the choice of the highest-priority waiting job means.
use Prim.Native.Nat.{ℕ, zero, suc, ◌<◌}
use mathlib.Core.Path.{◌≡◌, refl, sym, ◌∙◌, subst}
use mathlib.Core.Bool.{Bool, true, false}
use mathlib.Core.List.{List, [], ◌∷◌}
use mathlib.Core.Option.{Option, none, some}
use mathlib.Core.Logic.{⊎_elim}
use native.Mathlib.Nat.{eq-or-lt_of_le}
use native.Mathlib.Omega.{arith}
use Rattle.laws.proofs.Every.{clash}
use Rattle.model.specs.declared.order.Order.{Order}
use Rattle.demand.specs.Priority.{outranks}
use Rattle.demand.proofs.Priority.{outranks_self, outranks_chain}
use Rattle.machine.specs.Step.{Job, Waiting, better, highest}

-- of everything below n + 1, from what is known below n and at n
below_suc : (P : ℕ → Type 0) (n : ℕ) → ((k : ℕ) → k < n → P k) → P n → (k : ℕ) → k < suc n → P k
below_suc P n under here k l = ⊎_elim (λ e. subst P (sym e) here) (λ m. under k m) (eq-or-lt_of_le {n = k} {m = n} (omega arith))

module _ (o : Order) (waiting : Waiting) where
  -- none of the tasks below n has a job waiting; or k has, and none that outranks it
  abbrev pub Chosen : ℕ → Option ℕ → Type 0
  Chosen n none = (m : ℕ) → m < n → waiting m ≡ []
  Chosen n (some k) = (k < n) × ((j : Job) × (js : List Job) × (waiting k ≡ j ∷ js)) × ((m : ℕ) → m < n → outranks o m k ≡ true → waiting m ≡ [])

  -- of n + 1 tasks, those that outrank the last stand before it: no task outranks itself
  first_of : (n : ℕ) → ((m : ℕ) → m < n → outranks o m n ≡ true → waiting m ≡ []) → (m : ℕ) → m < suc n → outranks o m n ≡ true → waiting m ≡ []
  first_of n under = below_suc (λ m. outranks o m n ≡ true → waiting m ≡ []) n under (λ up. clash (sym (outranks_self o n) ∙ up))

  pub chosen : (n : ℕ) → Chosen n (highest o waiting n)
  unfolding highest better
  chosen zero = λ m l. absurd (omega arith)
  chosen (suc n) = go (waiting n) refl (highest o waiting n) (chosen n)
    where
      go : (js : List Job) → waiting n ≡ js → (choice : Option ℕ) → Chosen n choice → Chosen (suc n) (better o n js choice)
      go [] e none c = below_suc (λ m. waiting m ≡ []) n c e
      go [] e (some k) c = (omega (arith, c.0), c.1, below_suc (λ m. outranks o m k ≡ true → waiting m ≡ []) n c.2 (λ up. e))
      go (j ∷ js) e none c = (omega arith, (j, js, e), first_of n (λ m l up. c m l))
      go (j ∷ js) e (some k) c = at (outranks o n k) refl
        where
          at : (b : Bool) → outranks o n k ≡ b → Chosen (suc n) (better o n (j ∷ js) (some k))
          at true up = rw up (omega arith, (j, js, e), first_of n (λ m l over. c.2 m l (outranks_chain o m n k over up)))
          at false down =
              rw down
              (omega (arith, c.0), c.1, below_suc (λ m. outranks o m k ≡ true → waiting m ≡ []) n c.2 (λ over. clash (sym down ∙ over)))

  -- where none waits none is chosen
  pub none_chosen : (n : ℕ) → ((m : ℕ) → m < n → waiting m ≡ []) → highest o waiting n ≡ none
  unfolding highest better
  none_chosen zero nothing = refl
  none_chosen (suc n) nothing = rw (nothing n (omega arith), none_chosen n (λ m l. nothing m (omega arith)))
