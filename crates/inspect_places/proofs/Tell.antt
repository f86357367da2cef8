-- 24's test tells: a partition has a processor, all of its are below M, and it overlaps no earlier one.
use mathlib.Core.Path.{◌≡◌, refl, ap, ◌∙◌, subst}
use mathlib.Core.Bool.{Bool, true, false, not, ◌||◌}
use mathlib.Core.Logic.{◌⊎◌, inl, inr, ⊎_elim}
use Prim.Native.Nat.{ℕ, zero, suc, ◌+◌, ◌-◌, ◌<◌}
use native.Mathlib.Nat.{eq-or-lt_of_le}
use native.Mathlib.Omega.{arith}
use lib.Dec.{leb}
use borrow.Author.Tests.{le-leb, leb-true}
use Rattle.laws.proofs.Every.{clash, and_both, both_and, every_at, every_all}
use Rattle.model.specs.declared.order.Order.{Order}
use Rattle.model.specs.declared.build.Partition.{Partition}
use Rattle.model.specs.declared.build.Build.{Build}
use Rattle.model.specs.Limits.{place_of}
use Rattle.model.specs.Processors.{volume_of, processor_of, AmongLowest, OfPartition}
use Rattle.model.specs.Rules.{Tells, TestsTell}
use Rattle.model.proofs.Rules.{tell_all, tell_one}
use Rattle.inspect_places.specs.Rules.{has_processor, taken_below, partition_right, well_placed, place_rules}
use Rattle.inspect_places.proofs.Flags.{or_some, among_true, true_among}

-- the test of a processor tells
has_of : (place : Partition) (x : ℕ) → has_processor place x ≡ true → OfPartition place x
unfolding has_processor AmongLowest volume_of processor_of
has_of place x e = let p = among_true place.first place.volume x e in (x - place.first, omega (arith, p.0, p.1), omega (arith, p.0))

of_has : (place : Partition) (x : ℕ) → OfPartition place x → has_processor place x ≡ true
unfolding has_processor AmongLowest volume_of processor_of
of_has place x of = true_among place.first place.volume x (omega (arith, of.2)) (omega (arith, of.1, of.2))

or_either : (a b : Bool) → (a || b) ≡ true → (a ≡ true) ⊎ (b ≡ true)
or_either true b e = inl refl
or_either false b e = inr e

not_both : (a : Bool) → not a ≡ true → a ≡ true → ⊥
not_both true n e = clash n
not_both false n e = clash e

not_so : (a : Bool) → (a ≡ true → ⊥) → not a ≡ true
not_so true none = absurd (none refl)
not_so false none = refl

module _ (b : Build) (x : ℕ) where
  -- some partition below p has it
  taken_some : (p : ℕ) → taken_below b p x ≡ true → (earlier : ℕ) × (earlier < p) × OfPartition (place_of b earlier) x
  unfolding taken_below
  taken_some zero e = clash e
  taken_some (suc p) e =
      ⊎_elim
      (λ before. let r = taken_some p before in (r.0, omega (arith, r.1), r.2))
      (λ here. (p, omega arith, has_of (place_of b p) x here))
      (or_either (taken_below b p x) _ e)

  some_taken : (p earlier : ℕ) → earlier < p → OfPartition (place_of b earlier) x → taken_below b p x ≡ true
  unfolding taken_below
  some_taken zero earlier below of = absurd (omega arith)
  some_taken (suc p) earlier below of =
      ⊎_elim
      (λ same. ap (taken_below b p x ||◌) (subst (λ (q : ℕ). has_processor (place_of b q) x ≡ true) same (of_has (place_of b earlier) x of)) ∙ or_some (taken_below b p x))
      (λ before. rw (some_taken p earlier before of))
      (eq-or-lt_of_le (omega arith))

placed_tells : (M : ℕ) (b : Build) (p : ℕ) → Tells (well_placed M b p)
unfolding partition_right volume_of AmongLowest processor_of
placed_tells M b p =
    let place = place_of b p in
    let free : ℕ → Bool = λ k. not (taken_below b p (processor_of place k)) in (
      λ e.
          let one = and_both (leb 1 place.volume) _ e in
          let two = and_both (leb (place.first + place.volume) M) _ one.1 in
          let fits = leb-true (place.first + place.volume) M two.0 in
          record {
            some = leb-true _ _ one.0;
            inside = λ x of. omega (arith, of.1, of.2);
            apart = λ earlier below both.
                let of = both.2 in
                not_both _ (every_at free place.volume two.1 of.0 of.1) (some_taken b _ p earlier below (subst (OfPartition (place_of b earlier)) of.2 both.1));
          },
      λ right.
          let some = right.some in
          let last = right.inside (place.first + (place.volume - 1)) (place.volume - 1, omega arith, refl) in
          both_and _ _ (le-leb _ _ some) (both_and _ _ (le-leb (place.first + place.volume) M (omega arith)) (every_all free place.volume (λ k l. not_so _ (λ t.
          let r = taken_some b (processor_of place k) p t in
          right.apart r.0 r.1 (processor_of place k, r.2, (k, l, refl)))))),
    )

pub places_tell : (o : Order) (b : Build) → TestsTell (place_rules o b)
unfolding place_rules
places_tell o b = tell_all _ b.partitions (λ p l. tell_one (well_placed o.processors b p) _ (placed_tells o.processors b p))
