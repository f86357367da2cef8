-- Laws of a list cut at the bytes that pass a test; `count passes s ≡ 0` says that none of them passes.
use mathlib.Core.Path.{◌≡◌, refl, sym, ap, ◌∙◌}
use mathlib.Core.Bool.{Bool, true, false}
use mathlib.Core.List.{List, [], ◌∷◌, ◌++◌}
use Prim.Native.Nat.{ℕ, zero, suc, ◌+◌, ◌-◌, ◌≤◌, ◌<◌}
use native.Mathlib.Omega.{arith}
use lib.Dec.{eqb}
use lib.ListN.{length, take, drop, length-append, drop_of_length-le}
use borrow.Author.Tests.{eqb-true}
use Rattle.laws.specs.Choice.{pick}
use Rattle.laws.specs.Sums.{only}
use Rattle.form.specs.Parts.{count, up_to, behind, behind_all, part}

module _ (passes : ℕ → Bool) where
  pub count_nil : count passes [] ≡ 0
  unfolding count
  count_nil = refl

  pub count_cons : (b : ℕ) (s : List ℕ) → count passes (b ∷ s) ≡ only (passes b) 1 + count passes s
  unfolding count
  count_cons b s = refl

  pub count-append : (a s : List ℕ) → count passes (a ++ s) ≡ count passes a + count passes s
  unfolding count
  count-append [] s = omega arith
  count-append (b ∷ a) s = omega (arith, count-append a s)

  -- none of b and s passes: b does not, and none of s does
  pub none_first : (b : ℕ) (s : List ℕ) → count passes (b ∷ s) ≡ 0 → passes b ≡ false
  unfolding count
  none_first b s none = go (passes b) refl
    where
      go : (x : Bool) → passes b ≡ x → passes b ≡ false
      go true h = let one : only (passes b) 1 ≡ 1 = ap (λ (y : Bool). only y 1) h in absurd (omega arith)
      go false h = h

  pub none_rest : (b : ℕ) (s : List ℕ) → count passes (b ∷ s) ≡ 0 → count passes s ≡ 0
  unfolding count
  none_rest b s none = omega arith

  pub none_cons : (b : ℕ) (s : List ℕ) → passes b ≡ false → count passes s ≡ 0 → count passes (b ∷ s) ≡ 0
  unfolding count
  none_cons b s out none = rw (out, none)

  -- nothing to cut at
  pub up_to_none : (f : List ℕ) → count passes f ≡ 0 → up_to passes f ≡ f
  unfolding up_to
  up_to_none [] none = refl
  up_to_none (b ∷ f) none = rw (none_first b f none) (ap (b ∷◌) (up_to_none f (none_rest b f none)))

  -- a part, what it is cut at, and what follows
  pub up_to_at : (f : List ℕ) (b : ℕ) (rest : List ℕ) → count passes f ≡ 0 → passes b ≡ true → up_to passes (f ++ (b ∷ rest)) ≡ f
  unfolding up_to
  up_to_at [] b rest none h = rw h
  up_to_at (x ∷ f) b rest none h = rw (none_first x f none) (ap (x ∷◌) (up_to_at f b rest (none_rest x f none) h))

  drop_past : (f : List ℕ) (b : ℕ) (rest : List ℕ) → drop (suc (length f)) (f ++ (b ∷ rest)) ≡ rest
  drop_past [] b rest = refl
  drop_past (x ∷ f) b rest = drop_past f b rest

  pub behind_at : (f : List ℕ) (b : ℕ) (rest : List ℕ) → count passes f ≡ 0 → passes b ≡ true → behind passes (f ++ (b ∷ rest)) ≡ rest
  behind_at f b rest none h = ap (λ (front : List ℕ). drop (suc (length front)) (f ++ (b ∷ rest))) (up_to_at f b rest none h) ∙ drop_past f b rest

  pub count_at : (f : List ℕ) (b : ℕ) (rest : List ℕ) → count passes f ≡ 0 → passes b ≡ true → count passes (f ++ (b ∷ rest)) ≡ suc (count passes rest)
  count_at f b rest none h =
      let one : only (passes b) 1 ≡ 1 = ap (λ (y : Bool). only y 1) h in omega (arith, count-append f (b ∷ rest), count_cons b rest)

  -- what stands before the first that passes has none
  pub none_up_to : (s : List ℕ) → count passes (up_to passes s) ≡ 0
  unfolding up_to count
  none_up_to [] = refl
  none_up_to (b ∷ s) = go (passes b) refl (none_up_to s)
    where
      go : (x : Bool) → passes b ≡ x → count passes (up_to passes s) ≡ 0 → count passes (pick x [] (b ∷ up_to passes s)) ≡ 0
      go true h earlier = refl
      go false h earlier = rw (h, earlier)

  -- any list that has one is such a part, what it is cut at, and what follows
  pub cut : (s : List ℕ) → 0 < count passes s → (b : ℕ) × (passes b ≡ true) × (s ≡ up_to passes s ++ (b ∷ behind passes s))
  unfolding up_to count
  cut [] some = absurd (omega arith)
  cut (b ∷ s) some = go (passes b) refl (λ (h : 0 < count passes s). cut s h)
    where
      go : (x : Bool) → passes b ≡ x → (0 < count passes s → (c : ℕ) × (passes c ≡ true) × (s ≡ up_to passes s ++ (c ∷ behind passes s))) →
          (c : ℕ) × (passes c ≡ true) × (b ∷ s ≡ pick x [] (b ∷ up_to passes s) ++ (c ∷ drop (suc (length (pick x [] (b ∷ up_to passes s)))) (b ∷ s)))
      go true h earlier = (b, h, refl)
      go false h earlier =
          let none : only (passes b) 1 ≡ 0 = ap (λ (y : Bool). only y 1) h in
          let r = earlier (omega (arith, some)) in
          (r.0, r.1, ap (b ∷◌) r.2)

  pub count-behind : (s : List ℕ) → 0 < count passes s → suc (count passes (behind passes s)) ≡ count passes s
  count-behind s some = let r = cut s some in sym (ap (count passes) r.2 ∙ count_at (up_to passes s) r.0 (behind passes s) (none_up_to s) r.1)

  -- nothing stands behind where none passes
  pub behind_none : (s : List ℕ) → count passes s ≡ 0 → behind passes s ≡ []
  behind_none s none = drop_of_length-le s {i = suc (length (up_to passes s))} (omega (arith, ap length (up_to_none s none)))

  pub count_behind_less : (s : List ℕ) → count passes (behind passes s) ≡ count passes s - 1
  count_behind_less s = go (count passes s) refl
    where
      go : (n : ℕ) → count passes s ≡ n → count passes (behind passes s) ≡ count passes s - 1
      go zero e = ap (count passes) (behind_none s e) ∙ count_nil ∙ omega arith
      go (suc n) e = omega (arith, count-behind s (omega arith))

  pub up_to_nil : up_to passes [] ≡ []
  unfolding up_to
  up_to_nil = refl

  pub up_to_more : (b : ℕ) (s : List ℕ) → passes b ≡ false → up_to passes (b ∷ s) ≡ b ∷ up_to passes s
  unfolding up_to
  up_to_more b s e = rw e

  pub up_to_stop : (b : ℕ) (s : List ℕ) → passes b ≡ true → up_to passes (b ∷ s) ≡ []
  unfolding up_to
  up_to_stop b s e = rw e

  pub length-up_to : (s : List ℕ) → length (up_to passes s) ≤ length s
  unfolding up_to
  length-up_to [] = omega arith
  length-up_to (b ∷ s) = go (passes b) (length-up_to s)
    where
      go : (x : Bool) → length (up_to passes s) ≤ length s → length (pick x [] (b ∷ up_to passes s)) ≤ length (b ∷ s)
      go true earlier = omega arith
      go false earlier = omega arith

  -- where one passes the part ends before the end of the list
  pub up_to_ends : (s : List ℕ) → 0 < count passes s → length (up_to passes s) < length s
  up_to_ends s some =
      let r = cut s some in
      omega (arith, ap length r.2, length-append (up_to passes s) (r.0 ∷ behind passes s))

  -- a list is a part and what follows it
  pub up_to-take : (s : List ℕ) → up_to passes s ≡ take (length (up_to passes s)) s
  unfolding up_to
  up_to-take [] = refl
  up_to-take (b ∷ s) = go (passes b) (up_to-take s)
    where
      go : (x : Bool) → up_to passes s ≡ take (length (up_to passes s)) s → pick x [] (b ∷ up_to passes s) ≡ take (length (pick x [] (b ∷ up_to passes s))) (b ∷ s)
      go true earlier = refl
      go false earlier = ap (b ∷◌) earlier

  -- the same further on
  pub behind_all_none : (s : List ℕ) → behind_all passes 0 s ≡ s
  unfolding behind_all
  behind_all_none s = refl

  pub behind_all_first : (n : ℕ) (s : List ℕ) → behind_all passes (suc n) s ≡ behind_all passes n (behind passes s)
  unfolding behind_all
  behind_all_first n s = refl

  pub behind_all_more : (n : ℕ) (s : List ℕ) → behind_all passes (suc n) s ≡ behind passes (behind_all passes n s)
  unfolding behind_all
  behind_all_more zero s = refl
  behind_all_more (suc n) s = behind_all_more n (behind passes s)

  pub count-behind_all : (n : ℕ) (s : List ℕ) → count passes (behind_all passes n s) ≡ count passes s - n
  unfolding behind_all
  count-behind_all zero s = omega arith
  count-behind_all (suc n) s = omega (arith, count-behind_all n (behind passes s), count_behind_less s)

  -- part by part
  pub part_first : (f : List ℕ) (b : ℕ) (rest : List ℕ) → count passes f ≡ 0 → passes b ≡ true → part passes 0 (f ++ (b ∷ rest)) ≡ f
  part_first f b rest none h = ap (up_to passes) (behind_all_none _) ∙ up_to_at f b rest none h

  pub part_next : (f : List ℕ) (b : ℕ) (rest : List ℕ) (n : ℕ) → count passes f ≡ 0 → passes b ≡ true → part passes (suc n) (f ++ (b ∷ rest)) ≡ part passes n rest
  part_next f b rest n none h = ap (up_to passes) (behind_all_first n _ ∙ ap (behind_all passes n) (behind_at f b rest none h))

  pub part-only : (f : List ℕ) → count passes f ≡ 0 → part passes 0 f ≡ f
  part-only f none = ap (up_to passes) (behind_all_none f) ∙ up_to_none f none

  pub none_part : (n : ℕ) (s : List ℕ) → count passes (part passes n s) ≡ 0
  none_part n s = none_up_to (behind_all passes n s)

  -- the last part is all that follows, and there is none past it
  pub part_last : (n : ℕ) (s : List ℕ) → count passes s ≡ n → part passes n s ≡ behind_all passes n s
  part_last n s all = up_to_none (behind_all passes n s) (omega (arith, count-behind_all n s))

  pub part_past : (f : List ℕ) → count passes f ≡ 0 → part passes 1 f ≡ []
  part_past f none = ap (up_to passes) (behind_all_first 0 f ∙ behind_all_none (behind passes f) ∙ behind_none f none) ∙ up_to_nil

  -- cut at one byte
  pub part_two : (f : List ℕ) (b : ℕ) (g : List ℕ) → count passes f ≡ 0 → passes b ≡ true → count passes g ≡ 0 → part passes 1 (f ++ (b ∷ g)) ≡ g
  part_two f b g none h last = part_next f b g 0 none h ∙ part-only g last

  -- part n, what ends it, and what follows
  pub cut_part : (n : ℕ) (s : List ℕ) → n < count passes s → (b : ℕ) × (passes b ≡ true) × (behind_all passes n s ≡ part passes n s ++ (b ∷ behind_all passes (suc n) s))
  cut_part n s more =
      let r = cut (behind_all passes n s) (omega (arith, count-behind_all n s)) in
      (r.0, r.1, r.2 ∙ ap (λ (rest : List ℕ). part passes n s ++ (r.0 ∷ rest)) (sym (behind_all_more n s)))

-- the same where one byte alone passes
pub cut_byte : (byte n : ℕ) (s : List ℕ) → n < count (λ b. eqb b byte) s → behind_all (λ b. eqb b byte) n s ≡ part (λ b. eqb b byte) n s ++ (byte ∷ behind_all (λ b. eqb b byte) (suc n) s)
cut_byte byte n s more =
    let r = cut_part (λ b. eqb b byte) n s more in
    r.2 ∙ ap (λ (b : ℕ). part (λ b. eqb b byte) n s ++ (b ∷ behind_all (λ b. eqb b byte) (suc n) s)) (eqb-true r.0 byte r.1)
