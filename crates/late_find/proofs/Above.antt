-- Of tasks of one order and build, the keys tell who is a higher member of whose partition.
use mathlib.Core.Path.{◌≡◌, refl, sym, ap, ◌∙◌}
use mathlib.Core.Bool.{◌&&◌}
use mathlib.Core.List.{List}
use mathlib.Core.Logic.{inl, inr}
use Prim.Native.Nat.{ℕ, ◌<◌}
use native.Mathlib.Decide.{ℕ_discrete}
use native.Mathlib.Omega.{arith}
use lib.Dec.{ltb, eqb}
use borrow.Author.Tests.{eq-eqb, ne_eqb, lt-ltb, ltb-true}
use Rattle.laws.proofs.Choice.{same_test}
use Rattle.model.specs.declared.order.Order.{Order}
use Rattle.model.specs.declared.build.Build.{Build}
use Rattle.model.specs.Limits.{home_of}
use Rattle.model.specs.Rules.{WithinLimits}
use Rattle.demand.specs.Priority.{members_of, deadline_of, outranks, higher, lower}
use Rattle.demand.proofs.Priority.{Outranks, outranks_says}
use Rattle.demand.proofs.Demands.{sized_of}
use Rattle.roster.specs.Keys.{key_of, home_in, key_at}
use Rattle.roster.proofs.Lining.{home_of_key, key_outranks}
use Rattle.late_find.specs.Found.{KeysByNumber, above, besides}

-- in one partition a higher priority is a smaller key
outranks_key : (o : Order) (h i j : ℕ) → i < 32 → Outranks o i j → key_of h (deadline_of o i) i < key_of h (deadline_of o j) j
outranks_key o h i j small (inl less) = omega (arith, less)
outranks_key o h i j small (inr later) = omega (arith, later.0, later.1)

-- the order of equals does not matter
equal_turned : (x y : ℕ) → eqb x y ≡ eqb y x
equal_turned x y = elim (ℕ_discrete x y) [
  | yes same ↦ eq-eqb x y same ∙ sym (eq-eqb y x (sym same))
  | no other ↦ ne_eqb x y other ∙ sym (ne_eqb y x (λ e. other (sym e)))
]

module _ (o : Order) (b : Build) (limits : WithinLimits o) (keys : List ℕ) (is : KeysByNumber o b o.tasks keys) where
  few : (j : ℕ) → j < o.tasks → j < 32
  few j l = omega (arith, limits.tasks.1)

  home_is : (j : ℕ) → j < o.tasks → home_in (key_at keys j) ≡ home_of b j
  home_is j l =
      let z = sized_of o limits j l in
      ap home_in (is.each j l) ∙ home_of_key (home_of b j) (deadline_of o j) j (few j l) (omega (arith, z.deadline_most, z.period_most))

  module _ (j i : ℕ) (known : j < o.tasks) (named : i < o.tasks) where
    -- keys of one partition go by priority
    in_one : home_of b j ≡ home_of b i → ltb (key_at keys j) (key_at keys i) ≡ outranks o j i
    in_one same =
        let its : key_at keys j ≡ key_of (home_of b i) (deadline_of o j) j = is.each j known ∙ ap (λ (h : ℕ). key_of h (deadline_of o j) j) same in
        ap (λ (x : ℕ). ltb x (key_at keys i)) its ∙ ap (ltb (key_of (home_of b i) (deadline_of o j) j)) (is.each i named)
        ∙ same_test (ltb (key_of (home_of b i) (deadline_of o j) j) (key_of (home_of b i) (deadline_of o i) i)) (outranks o j i)
        (λ less. key_outranks o (home_of b i) j i (few j known) (few i named) (ltb-true _ _ less))
        (λ over. lt-ltb _ _ (outranks_key o (home_of b i) j i (few j known) (outranks_says o j i over)))

    above_is : above (key_at keys j) (key_at keys i) ≡ (eqb (home_of b j) (home_of b i) && outranks o j i)
    above_is = elim (ℕ_discrete (home_of b j) (home_of b i)) [
      | yes same ↦ rw (home_is j known, home_is i named, eq-eqb (home_of b j) (home_of b i) same) (in_one same)
      | no other ↦ rw (home_is j known, home_is i named, ne_eqb (home_of b j) (home_of b i) other) refl
    ]

    pub above-higher : above (key_at keys j) (key_at keys i) ≡ higher o (besides b i) i j
    unfolding higher members_of
    above-higher = above_is

    pub above_lower : above (key_at keys j) (key_at keys i) ≡ lower o (besides b j) j i
    unfolding lower members_of
    above_lower = above_is ∙ ap (◌&& outranks o j i) (equal_turned (home_of b j) (home_of b i))
