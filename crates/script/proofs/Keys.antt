-- Laws of keys: tick and task out of a key, and that keys rise exactly as records do.
use mathlib.Core.Path.{◌≡◌, refl, sym, ◌∙◌}
use mathlib.Core.Bool.{Bool, true, false, ◌&&◌, ◌||◌}
use mathlib.Core.List.{List}
use mathlib.Core.Logic.{inl, inr}
use Prim.Native.Nat.{ℕ, zero, suc, ◌+◌, ◌/◌, ◌%◌, ◌<◌, ◌^◌}
use native.Mathlib.Decide.{dec_lt}
use native.Mathlib.Numerals.{add-one}
use native.Mathlib.Omega.{arith}
use lib.Dec.{leb, ltb, eqb}
use borrow.Author.Tests.{lt-ltb, ltb-true, eq-eqb, eqb-true, le-leb, lt-leb}
use Rattle.laws.proofs.Every.{and_both}
use Rattle.model.specs.declared.build.Release.{Release}
use Rattle.machine.specs.Pattern.{Before}
use Rattle.script.specs.Script.{release_at, comes_before, after_previous}
use Rattle.script.specs.Judged.{release_key, least_key}
use Rattle.script.proofs.Records.{tick_small, task_small}

-- the test of the order is `Before`
pub before_true : (r s : Release) → comes_before r s ≡ true → Before r s
unfolding comes_before
before_true r s e = go (ltb r.tick s.tick) refl e
  where
    go : (b : Bool) → ltb r.tick s.tick ≡ b → (b || (eqb r.tick s.tick && ltb r.task s.task)) ≡ true → Before r s
    go true h x = inl (ltb-true _ _ h)
    go false h x = let y = and_both _ _ x in inr (eqb-true _ _ y.0, ltb-true _ _ y.1)

or_true : (b : Bool) → (b || true) ≡ true
or_true true = refl
or_true false = refl

pub true_before : (r s : Release) → Before r s → comes_before r s ≡ true
unfolding comes_before
true_before r s (inl l) = rw (lt-ltb r.tick s.tick l)
true_before r s (inr e) = rw (eq-eqb r.tick s.tick e.0, lt-ltb r.task s.task e.1) (or_true (ltb r.tick s.tick))

before_key : (r s : Release) → r.task < 32 → Before r s → release_key r < release_key s
before_key r s small (inl l) = omega arith
before_key r s small (inr e) = omega (arith, e.0, e.1)

key_before : (r s : Release) → s.task < 32 → release_key r < release_key s → Before r s
key_before r s small l = go (dec_lt r.tick s.tick)
  where
    go : Dec (r.tick < s.tick) → Before r s
    go (yes p) = inl p
    go (no p) = let e : r.tick ≡ s.tick = omega arith in inr (e, omega arith)

-- "records out of order" is one comparison of keys
comes_by_key : (r s : Release) → r.task < 32 → s.task < 32 → comes_before r s ≡ leb (release_key r + 1) (release_key s)
comes_by_key r s small few = go (comes_before r s) refl (dec_lt (release_key r) (release_key s))
  where
    go : (b : Bool) → comes_before r s ≡ b → Dec (release_key r < release_key s) → comes_before r s ≡ leb (release_key r + 1) (release_key s)
    go b e (yes l) = true_before r s (key_before r s few l) ∙ sym (le-leb (release_key r + 1) (release_key s) (omega arith))
    go true e (no l) = absurd (l (before_key r s small (before_true r s e)))
    go false e (no l) = e ∙ sym (lt-leb (release_key r + 1) (release_key s) (omega arith))

module _ (f : ℕ → Release) where
  pub least_none : least_key f 0 ≡ 0
  unfolding least_key
  least_none = refl

  pub least_more : (i : ℕ) → least_key f (i + 1) ≡ release_key (f i) + 1
  unfolding least_key
  least_more i = rw add-one

pub ordered_by_key : (s : List ℕ) (i : ℕ) → after_previous (release_at s) i ≡ leb (least_key (release_at s) i) (release_key (release_at s i))
unfolding after_previous least_key
ordered_by_key s zero = sym (le-leb 0 (release_key (release_at s 0)) (omega arith))
ordered_by_key s (suc i) = comes_by_key (release_at s i) (release_at s (suc i)) (task_small s i) (task_small s (suc i))

pub task_in_key : (s : List ℕ) (i : ℕ) → release_key (release_at s i) % 32 ≡ (release_at s i).task
task_in_key s i = omega (arith, task_small s i)

pub tick_in_key : (s : List ℕ) (i : ℕ) → release_key (release_at s i) / 32 ≡ (release_at s i).tick
tick_in_key s i = omega (arith, task_small s i)

pub key_small : (s : List ℕ) (i : ℕ) → release_key (release_at s i) < 2 ^ 25
key_small s i = omega (arith, task_small s i, tick_small s i)
