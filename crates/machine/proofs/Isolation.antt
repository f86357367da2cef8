-- What is released to others does not reach a partition.
use Prim.Native.Nat.{ℕ, zero, suc}
use mathlib.Core.Path.{◌≡◌, refl, sym, ◌∙◌, ap, fun_ext}
use mathlib.Core.Bool.{Bool, true, false, ◌&&◌}
use mathlib.Core.List.{List, [], ◌∷◌}
use borrow.Author.Tests.{eqb-true, eq-eqb, ne_eqb}
use Rattle.laws.specs.Choice.{pick}
use Rattle.laws.proofs.Every.{clash}
use Rattle.laws.proofs.Only.{only_same}
use Rattle.model.specs.declared.order.Order.{Order}
use Rattle.model.specs.declared.build.Build.{Build}
use Rattle.model.specs.declared.build.Release.{Release}
use Rattle.model.specs.Limits.{home_of}
use Rattle.demand.specs.Priority.{Members, members_of}
use Rattle.machine.specs.Step.{Pattern, State, of_members, joining, during_tick, step, state_before}
use Rattle.machine.specs.Pattern.{pattern_of}
use Rattle.machine.specs.Box.{records_of, Finishes}
use Rattle.machine.specs.Claims.{AgreeOn, EachStepsApart, Isolation, ScriptIsolation}

-- a build's task is a member of the partition recorded for it, and of no other
pub home_member : (b : Build) (p task : ℕ) → home_of b task ≡ p → members_of b p task ≡ true
unfolding members_of
home_member b p task home = eq-eqb (home_of b task) p home

pub member_home : (b : Build) (p task : ℕ) → members_of b p task ≡ true → home_of b task ≡ p
unfolding members_of
member_home b p task mine = eqb-true (home_of b task) p mine

-- the releases of the members decide a step
module _ (o : Order) (member : Members) (one other : Pattern) where
  step_same : (tick : ℕ) → ((task : ℕ) → member task ≡ true → one tick task ≡ other tick task) → (before : State)
      → step o member one tick before ≡ step o member other tick before
  unfolding step during_tick joining of_members
  step_same tick agree before = rw join
    where
      same : (task : ℕ) → joining (of_members o member one) tick before.waiting task ≡ joining (of_members o member other) tick before.waiting task
      same task = rw (only_same (member task) (one tick task) (other tick task) (agree task))

      join : joining (of_members o member one) tick before.waiting ≡ joining (of_members o member other) tick before.waiting
      join = fun_ext same

  pub state_same : AgreeOn member one other → (tick : ℕ) → state_before o member one tick ≡ state_before o member other tick
  unfolding state_before
  state_same agree zero = refl
  state_same agree (suc tick) = rw (state_same agree tick) (step_same tick (agree tick) (state_before o member other tick))

pub each_steps_apart : EachStepsApart
unfolding state_before
each_steps_apart o b p =
    record {
      own_step = λ releases tick. refl;
      own_releases = λ one other tick agree. step_same o (members_of b p) one other tick (λ task mine. agree task (member_home b p task mine));
    }

pub isolation : Isolation
unfolding Finishes
isolation o b one other task release finish agree ends =
    ap (λ (s : State). s.running) (sym (state_same o (members_of b (home_of b task)) one other agree finish)) ∙ ends

and_false : (b : Bool) → (b && false) ≡ false
and_false true = refl
and_false false = refl

module _ (b : Build) (p : ℕ) where
  -- what a script gives a partition's task is given by the partition's records
  own_records : (script : List Release) (tick task : ℕ) → members_of b p task ≡ true → pattern_of script tick task ≡ pattern_of (records_of b p script) tick task
  unfolding pattern_of records_of
  own_records [] tick task mine = refl
  own_records (r ∷ script) tick task mine = go (members_of b p r.task) refl (own_records script tick task mine)
    where
      go : (x : Bool) → members_of b p r.task ≡ x → pattern_of script tick task ≡ pattern_of (records_of b p script) tick task
          → pattern_of (r ∷ script) tick task ≡ pattern_of (pick x (r ∷ records_of b p script) (records_of b p script)) tick task
      go true f ih = rw ih
      go false f ih = rw (ne_eqb r.task task (λ s. clash (sym f ∙ (ap (members_of b p) s ∙ mine))), and_false) ih

  -- scripts whose records for the partition's tasks agree
  pub agree_on : (one other : List Release) → records_of b p one ≡ records_of b p other → AgreeOn (members_of b p) (pattern_of one) (pattern_of other)
  agree_on one other same tick task mine =
      own_records one tick task mine ∙ (ap (λ (s : List Release). pattern_of s tick task) same ∙ sym (own_records other tick task mine))

pub script_isolation : ScriptIsolation
script_isolation o b one other task release finish same =
    isolation o b (pattern_of one) (pattern_of other) task release finish (agree_on b (home_of b task) one other same)
