-- Laws of an order's numbers, written four by four.
use mathlib.Core.Path.{◌≡◌, refl, sym, ap, ◌∙◌}
use mathlib.Core.List.{List, [], ◌∷◌, ◌++◌, append-nil}
use Prim.Native.Nat.{ℕ, suc, ◌+◌, ◌-◌, ◌*◌, ◌≤◌, ◌<◌}
use native.Mathlib.Omega.{arith}
use lib.ListN.{length, get_or, set, take, drop, replicate, length-append, length-replicate}
use lib.Seq.{sets-eq, take_at, drop_at, drop-drop}
use Rattle.laws.specs.Joined.{joined}
use Rattle.laws.proofs.Joined.{joined_none, joined_more, length-joined}
use Rattle.model.specs.declared.order.Task.{Task}
use Rattle.model.specs.Limits.{zero_task}
use Rattle.jefkantu.specs.Surface.{four_numbers, order_numbers}

four_sets : (l : List ℕ) (i a b c d : ℕ) → i + 4 ≤ length l → set (set (set (set l i a) (i + 1) b) (i + 2) c) (i + 3) d ≡ take i l ++ (a ∷ b ∷ c ∷ d ∷ []) ++ drop (i + 4) l
four_sets l i a b c d h =
    let e1 : i + 1 ≡ suc i = omega arith in
    let e2 : i + 2 ≡ suc (suc i) = omega arith in
    let e3 : i + 3 ≡ suc (suc (suc i)) = omega arith in
    rw (e1, e2, e3) (sets-eq (a ∷ b ∷ c ∷ d ∷ []) l i h)

module _ (processors tasks : ℕ) (table : List Task) where
  abbrev row : ℕ → Task
  row i = get_or table i zero_task

  abbrev each : ℕ → List ℕ
  each i = four_numbers (row i)

  -- the numbers once the first i tasks are in
  abbrev pub front : ℕ → List ℕ
  front i = processors ∷ tasks ∷ joined each i

  abbrev pub numbers_to : ℕ → List ℕ
  numbers_to i = front i ++ replicate (128 - 4 * i) 0

  length_front : (i : ℕ) → length (front i) ≡ 2 + 4 * i
  length_front i = omega (arith, length-joined each 4 i (λ j. refl))

  pub numbers_none : processors ∷ tasks ∷ replicate 128 0 ≡ numbers_to 0
  numbers_none = rw joined_none

  pub numbers_length : (i : ℕ) → i ≤ 32 → length (numbers_to i) ≡ 130
  numbers_length i few = simp (length-append, length-replicate) (omega (arith, length_front i))

  pub numbers_more : (i : ℕ) → i < 32 → let at = 2 + 4 * i in let t = row i in
      set (set (set (set (numbers_to i) at t.width) (at + 1) t.period) (at + 2) t.deadline) (at + 3) t.run ≡ numbers_to (i + 1)
  numbers_more i few =
      let at = 2 + 4 * i in
      let k = 128 - 4 * (i + 1) in
      let left : 128 - 4 * i ≡ suc (suc (suc (suc k))) = omega arith in
      let length_at : length (front i) ≡ at = length_front i in
      let rest : drop (at + 4) (numbers_to i) ≡ replicate k 0 =
      sym (drop-drop 4 at (numbers_to i)) ∙ ap (drop 4) (drop_at (front i) (replicate (128 - 4 * i) 0) at length_at) ∙ rw left in
      four_sets (numbers_to i) at _ _ _ _ (omega (arith, numbers_length i (omega arith)))
      ∙ rw (take_at (front i) (replicate (128 - 4 * i) 0) at length_at, rest, joined_more)

  pub numbers_all : numbers_to 32 ≡ order_numbers (record { processors = processors; tasks = tasks; table = table })
  unfolding order_numbers
  numbers_all = append-nil (front 32)
