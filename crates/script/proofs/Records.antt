-- Laws of a script's records: those of the list are those of the bytes, their fields are small, and the tick from which a task may be released again.
use mathlib.Core.Path.{◌≡◌, refl, sym, ap, ◌∙◌}
use mathlib.Core.Bool.{Bool, true, false}
use mathlib.Core.List.{List}
use mathlib.Core.Logic.{⊎_elim}
use Prim.Native.Nat.{ℕ, zero, suc, ◌+◌, ◌≤◌, ◌<◌, ◌^◌}
use native.Mathlib.Nat.{eq-or-lt_of_le, le_of_suc-le-suc}
use native.Mathlib.Numerals.{add-one}
use native.Mathlib.Omega.{arith}
use native.Mathlib.Decide.{dec_lt, ℕ_discrete}
use lib.ListN.{length, get_or, set, replicate, length-set, get_or-replicate}
use lib.Seq.{get_or-set_same, get_or-set_other}
use lib.Dec.{eqb}
use borrow.Author.Tests.{eq-eqb, eqb-true, eqb-false}
use Rattle.laws.specs.Choice.{pick}
use Rattle.laws.proofs.Joined.{length-listed, get_or-listed}
use Rattle.bits.specs.Layout.{numbers_at}
use Rattle.bits.proofs.Field.{field_lt}
use Rattle.model.specs.declared.order.Task.{Task}
use Rattle.model.specs.declared.order.Order.{Order}
use Rattle.model.specs.declared.build.Release.{Release}
use Rattle.model.specs.Limits.{most_tasks, most_period, zero_release}
use Rattle.model.specs.Rules.{WithinLimits}
use Rattle.demand.specs.Releases.{period_of}
use Rattle.machine.specs.Pattern.{record_of}
use Rattle.script.specs.Script.{release_fields, release_at, records_in, script_of, earliest}

pub script_length_lem : (s : List ℕ) → length (script_of s) ≡ records_in s
unfolding script_of
script_length_lem s = length-listed (release_at s) (records_in s)

pub script_record : (s : List ℕ) (i : ℕ) → i < records_in s → record_of (script_of s) i ≡ release_at s i
unfolding script_of
script_record s i below = get_or-listed (release_at s) zero_release (records_in s) i below

pub tick_small : (s : List ℕ) (i : ℕ) → (release_at s i).tick < 2 ^ 20
unfolding release_fields numbers_at
tick_small s i = field_lt s _ 20

pub task_small : (s : List ℕ) (i : ℕ) → (release_at s i).task < most_tasks
unfolding release_fields numbers_at
task_small s i = field_lt s _ 5

pub duration_small : (s : List ℕ) (i : ℕ) → (release_at s i).duration < 2 ^ 20
unfolding release_fields numbers_at
duration_small s i = field_lt s _ 20

-- a period of an order within the limits, zero past its tasks
pub period_few : (o : Order) → WithinLimits o → (task : ℕ) → period_of o task ≤ most_period
period_few o limits task = go (dec_lt task o.tasks)
  where
    go : Dec (task < o.tasks) → period_of o task ≤ most_period
    go (yes l) = (limits.each task l).period_in.1
    go (no l) = omega (arith, ap (λ (t : Task). t.period) (limits.zero_past task (omega arith)))

module _ (o : Order) (f : ℕ → Release) where
  pub earliest_none : (task : ℕ) → earliest o f task 0 ≡ 0
  unfolding earliest
  earliest_none task = refl

  pub earliest_own : (task i : ℕ) → (f i).task ≡ task → earliest o f task (i + 1) ≡ (f i).tick + period_of o task
  unfolding earliest
  earliest_own task i e = rw (add-one, eq-eqb (f i).task task e)

  pub earliest_other : (task i : ℕ) → ((f i).task ≡ task → ⊥) → earliest o f task (i + 1) ≡ earliest o f task i
  unfolding earliest
  earliest_other task i e = rw add-one (go (eqb (f i).task task) refl)
    where
      go : (b : Bool) → eqb (f i).task task ≡ b → pick b ((f i).tick + period_of o task) (earliest o f task i) ≡ earliest o f task i
      go true h = absurd (e (eqb-true _ _ h))
      go false h = refl

  -- no record of j's task below i is closer than T to j
  abbrev pub Far : ℕ → ℕ → Type 0
  Far i j = (x : ℕ) → x < i → (f x).task ≡ (f j).task → (f x).tick + period_of o (f x).task ≤ (f j).tick

  -- where the records of a task are far enough from one another, its last one decides
  pub far-earliest : (i j : ℕ) → Far i j → earliest o f (f j).task i ≤ (f j).tick
  unfolding earliest
  far-earliest zero j far = omega arith
  far-earliest (suc i) j far = go (eqb (f i).task (f j).task) refl (far-earliest i j (λ x l. far x (omega arith)))
    where
      go : (b : Bool) → eqb (f i).task (f j).task ≡ b → earliest o f (f j).task i ≤ (f j).tick
          → pick b ((f i).tick + period_of o (f j).task) (earliest o f (f j).task i) ≤ (f j).tick
      go true h ih = let e = eqb-true _ _ h in omega (arith, far i (omega arith) e, ap (period_of o) e)
      go false h ih = ih

  pub earliest-far : (task j : ℕ) → ((y : ℕ) → y < j → earliest o f (f y).task y ≤ (f y).tick)
      → (x : ℕ) → x < j → (f x).task ≡ task → (f x).tick + period_of o task ≤ earliest o f task j
  unfolding earliest
  earliest-far task zero gaps x l e = absurd (omega arith)
  earliest-far task (suc j) gaps x l e =
      go (eqb (f j).task task) refl (λ (m : x < j). earliest-far task j (λ y k. gaps y (omega arith)) x m e)
    where
      go : (b : Bool) → eqb (f j).task task ≡ b → (x < j → (f x).tick + period_of o task ≤ earliest o f task j)
          → (f x).tick + period_of o task ≤ pick b ((f j).tick + period_of o task) (earliest o f task j)
      go true h ih =
          ⊎_elim (λ (s : x ≡ j). omega (arith, ap (λ (y : ℕ). (f y).tick) s))
          (λ (m : x < j). let e : (f j).task ≡ task = eqb-true _ _ h in omega (arith, ih m, gaps j (omega arith), ap (λ (y : ℕ). earliest o f y j) e))
          (eq-or-lt_of_le (le_of_suc-le-suc l))
      go false h ih =
          ⊎_elim (λ (s : x ≡ j). let e' : (f j).task ≡ task = ap (λ (y : ℕ). (f y).task) (sym s) ∙ e in absurd (eqb-false _ _ h e')) ih (eq-or-lt_of_le (le_of_suc-le-suc l))

-- what the judge keeps: of each task the tick from which it may be released after the records below i
pub record EarliestKept (o : Order) (f : ℕ → Release) (kept : List ℕ) (i : ℕ) : Type 0 where
  pub places : length kept ≡ most_tasks
  pub each : (task : ℕ) → task < most_tasks → get_or kept task 0 ≡ earliest o f task i

module _ (o : Order) (f : ℕ → Release) where
  pub kept_none : EarliestKept o f (replicate most_tasks 0) 0
  kept_none = record { places = refl; each = λ task l. get_or-replicate 32 task 0 0 l ∙ sym (earliest_none o f task) }

  pub kept_more : {kept : List ℕ} (i : ℕ) → (f i).task < most_tasks → EarliestKept o f kept i → EarliestKept o f (set kept (f i).task ((f i).tick + period_of o (f i).task)) (i + 1)
  kept_more {kept} i small is = record { places = simp length-set is.places; each = λ task l. at task l (ℕ_discrete task (f i).task) }
    where
      at : (task : ℕ) → task < most_tasks → Dec (task ≡ (f i).task) → get_or (set kept (f i).task ((f i).tick + period_of o (f i).task)) task 0 ≡ earliest o f task (i + 1)
      at task l (yes e) = rw e (get_or-set_same kept (f i).task _ 0 (omega (arith, is.places)) ∙ sym (earliest_own o f (f i).task i refl))
      at task l (no e) = get_or-set_other kept (f i).task task _ 0 e ∙ (is.each task l ∙ sym (earliest_other o f task i (λ x. e (sym x))))
