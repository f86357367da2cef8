-- Laws of the flags: set one by one for a partition, and what they say of the partitions before it.
use mathlib.Core.Path.{◌≡◌, refl, sym, ap, ◌∙◌}
use mathlib.Core.Bool.{Bool, true, false, not, ◌&&◌, ◌||◌}
use mathlib.Core.List.{List, [], ◌∷◌}
use Prim.Native.Nat.{ℕ, zero, suc, ◌+◌, ◌-◌, ◌≤◌, ◌<◌}
use native.Mathlib.Numerals.{add-one}
use native.Mathlib.Omega.{arith}
use lib.Dec.{leb, ltb}
use lib.ListN.{length, get_or, replicate, length-append, length-drop, length-take, length-replicate}
use lib.Seq.{ext_get_or}
use borrow.Author.Tests.{le-leb, lt-ltb, leb-true, ltb-true}
use Rattle.std.specs.Bool.{MatchBool}
use Rattle.std.specs.List.{between, AllWithin, HoldsAt}
use borrow.Rule.Slice.PartMut.{put_mid}
use Rattle.std.proofs.lemmas.List.Edits.{get_or-between, length-between}
use Rattle.std.proofs.lemmas.List.{places}
use Rattle.std.proofs.lemmas.Bool.Decides.{nat_tests}
use Rattle.laws.specs.Every.{every}
use Rattle.laws.specs.Joined.{joined, listed}
use Rattle.laws.proofs.Every.{and_both, both_and, every_all, every_stop}
use Rattle.laws.proofs.Joined.{joined_same, length-listed, get_or-listed}
use Rattle.model.specs.declared.build.Partition.{Partition}
use Rattle.model.specs.declared.build.Build.{Build}
use Rattle.model.specs.Limits.{most_processors, place_of}
use Rattle.model.specs.Processors.{processor_of}
use Rattle.inspect_places.specs.Rules.{has_processor, taken_below, partition_right}

and_same : (a b c : Bool) → (a ≡ true → b ≡ c) → (a && b) ≡ (a && c)
and_same true b c same = same refl
and_same false b c same = refl

pub or_some : (a : Bool) → (a || true) ≡ true
or_some true = refl
or_some false = refl

every_same : (f g : ℕ → Bool) (n : ℕ) → ((j : ℕ) → j < n → f j ≡ g j) → every f n ≡ every g n
unfolding every
every_same f g zero same = refl
every_same f g (suc n) same = rw (every_same f g n (λ j l. same j (omega arith)), same n (omega arith))

-- x is one of k processors from the first on
abbrev pub among : ℕ → ℕ → ℕ → Bool
among first k x = leb first x && ltb x (first + k)

pub among_true : (first k x : ℕ) → among first k x ≡ true → (first ≤ x) × (x < first + k)
among_true first k x e = let p = and_both (leb first x) _ e in (leb-true _ _ p.0, ltb-true _ _ p.1)

pub true_among : (first k x : ℕ) → first ≤ x → x < first + k → among first k x ≡ true
true_among first k x l m = both_and _ _ (le-leb _ _ l) (lt-ltb _ _ m)

-- the flags where k of a partition's processors are taken too
abbrev pub marked : List Bool → (first k : ℕ) → ℕ → Bool
marked taken first k x = get_or taken x false || among first k x

module _ (taken : List Bool) (first volume : ℕ) where
  abbrev own : List Bool
  own = between first (first + volume) taken

  -- a partition's own flags tell whether each of its processors is free
  pub free_all : first + volume ≤ length taken → (free : Bool) → MatchBool free (AllWithin (λ x. x ≡ false) own 0 (length own)) ((k : ℕ) × (k < length own) × HoldsAt (λ x. x ≡ true) own k) → free ≡ every (λ k. not (get_or taken (first + k) false)) volume
  free_all fits true each =
      sym (every_all _ volume (λ k l. ap not (sym (get_or-between taken first (first + volume) k false (omega arith)) ∙ each k false (let z : 0 ≤ k = omega arith in z) (omega (arith, length-between taken first (first + volume) fits)))))
  free_all fits false some =
      let here : some.0 < volume = omega (arith, some.1, length-between taken first (first + volume) fits) in
      sym (every_stop _ volume some.0 here (ap not (sym (get_or-between taken first (first + volume) some.0 false (omega (arith, here))) ∙ some.2 false)))

  -- the flags where its own are written over
  pub mark_all : length taken ≡ most_processors → first + volume ≤ most_processors → (after : List Bool) → after ≡ replicate (length own) true → put_mid first (first + volume - first) taken after ≡ listed (marked taken first volume) most_processors
  mark_all size fits after is =
      let wide : length own ≡ volume = omega (arith, length-between taken first (first + volume) (omega arith)) in
      let so : after ≡ replicate volume true = is ∙ ap (λ (n : ℕ). replicate n true) wide in
      let long : length (put_mid first (first + volume - first) taken after) ≡ most_processors = simp (length-append, length-drop, length-take, so, length-replicate) (omega arith) in
      ext_get_or false _ _ (long ∙ sym (length-listed (marked taken first volume) most_processors))
      (λ x l.
      let inside : x < most_processors = omega (arith, long) in
      let right = get_or-listed (marked taken first volume) false most_processors x inside in
      let bare : get_or (put_mid first (first + volume - first) taken (replicate volume true)) x false ≡ marked taken first volume x = grind (arith, places, nat_tests) in
      ap (λ (xs : List Bool). get_or (put_mid first (first + volume - first) taken xs) x false) so ∙ bare ∙ sym right)

-- what the flags say of the partitions below p
abbrev pub flags_of : Build → ℕ → List Bool
flags_of b p = listed (taken_below b p) most_processors

module _ (b : Build) where
  pub flags_none : replicate most_processors false ≡ flags_of b 0
  unfolding taken_below joined
  flags_none = refl

  module _ (p : ℕ) (taken : List Bool) (flags : taken ≡ flags_of b p) where
    module _ (place : Partition) (here : place ≡ place_of b p) where
      pub flags_more : listed (λ x. get_or taken x false || has_processor place x) most_processors ≡ flags_of b (p + 1)
      unfolding taken_below
      flags_more =
          joined_same _ _ most_processors (λ x l. ap (◌∷ []) (rw (here, flags, get_or-listed (taken_below b p) false most_processors x l, add-one)))

      -- a partition's test against the flags
      pub right_same : (M : ℕ) → M ≤ most_processors →
          (leb 1 place.volume && (leb (place.first + place.volume) M && every (λ k. not (get_or taken (processor_of place k) false)) place.volume)) ≡ partition_right M b p
      unfolding partition_right processor_of
      right_same M few =
          rw here (let own = place_of b p in
          ap (leb 1 own.volume &&◌) (and_same _ _ _ (λ e.
          let fits = leb-true (own.first + own.volume) M e in
          every_same _ _ own.volume (λ k l. ap not (ap (λ (xs : List Bool). get_or xs (own.first + k) false) flags ∙ get_or-listed (taken_below b p) false most_processors (own.first + k) (omega arith))))))
