-- Comings as a script: when a task comes, that they end, are legal, and how many records they make.
use Prim.Native.Nat.{ℕ, suc, ◌+◌, ◌-◌, ◌*◌, ◌/◌, ◌%◌, ◌≤◌, ◌<◌}
use mathlib.Core.Path.{◌≡◌, refl, sym, ap, ◌∙◌}
use mathlib.Core.Bool.{Bool, true, false, ◌&&◌}
use native.Mathlib.Decide.{dec_lt}
use native.Mathlib.Nat.{div-add-mod, mul-le-mul_left, mul-add, mul-one}
use native.Mathlib.Omega.{arith}
use lib.Dec.{ltb, eqb}
use lib.ListN.{length}
use borrow.Author.Tests.{lt-ltb, le-ltb, le-leb, lt-leb, ltb-true, eq-eqb, eqb-true}
use Rattle.laws.specs.Choice.{within}
use Rattle.laws.specs.Sums.{only, sum}
use Rattle.laws.proofs.Choice.{within_true, true_within}
use Rattle.laws.proofs.Every.{and_both, both_and}
use Rattle.laws.proofs.Only.{only_some, only_true}
use Rattle.laws.proofs.Sums.{sum_same, sum_zero}
use Rattle.laws.proofs.Inserted.{sum_front}
use Rattle.model.specs.declared.order.Order.{Order}
use Rattle.model.specs.Limits.{cost}
use Rattle.model.specs.Rules.{WithinLimits}
use Rattle.demand.specs.Releases.{period_of}
use Rattle.machine.specs.Pattern.{LegalPattern, run_of}
use Rattle.comings.specs.Comings.{Comings, comes_at, coming_pattern, coming_count}
use Rattle.comings.specs.Listed.{record_at, records_below, script_before, EndsBefore, ComeBefore, ComingsMakeScripts}
use Rattle.comings.proofs.Count.{come_count}
use Rattle.comings.proofs.Keys.{length_as_sum, sum_keys, sum_exchange}
use Rattle.comings.proofs.Script.{record_some, record_none}

-- two multiples are a period apart
pub multiples_apart : (period x y : ℕ) → x % period ≡ 0 → y % period ≡ 0 → x < y → x + period ≤ y
multiples_apart period x y p q l = elim (dec_lt (x / period) (y / period)) [
  | yes more ↦ (let far : x / period + 1 ≤ y / period = omega arith in
      omega (arith, whole x p, whole y q, mul-le-mul_left period far, mul-add period (x / period) 1, mul-one period))
  | no less ↦ (let near : y / period ≤ x / period = omega arith in absurd (omega (arith, whole x p, whole y q, mul-le-mul_left period near)))
]
  where
    whole : (z : ℕ) → z % period ≡ 0 → period * (z / period) ≡ z
    whole z e = omega (arith, div-add-mod z period, e)

module _ (o : Order) (c : Comings) where
  -- a task of the order comes at a tick
  pub record ComesThen (tick task : ℕ) : Type 0 where
    pub known : task < o.tasks
    pub part : c.takes_part task ≡ true
    pub from : c.first task ≤ tick
    pub upto : tick ≤ c.last task
    pub multiple : (tick - c.first task) % period_of o task ≡ 0

  comes_then : (tick task : ℕ) → (ltb task o.tasks && comes_at o c tick task) ≡ true → ComesThen tick task
  unfolding comes_at
  comes_then tick task e =
      let a = and_both (ltb task o.tasks) (comes_at o c tick task) e in
      let b = and_both (c.takes_part task) (within (c.first task) (c.last task) tick && eqb ((tick - c.first task) % period_of o task) 0) a.1 in
      let d = and_both (within (c.first task) (c.last task) tick) (eqb ((tick - c.first task) % period_of o task) 0) b.1 in
      let w = within_true (c.first task) (c.last task) tick d.0 in
      record { known = ltb-true _ _ a.0; part = b.0; from = w.0; upto = w.1; multiple = eqb-true _ _ d.1 }

  -- what the pattern gives comes then, and of a length C
  pub pattern_comes : (tick task : ℕ) → 0 < coming_pattern o c tick task → ComesThen tick task
  unfolding coming_pattern
  pattern_comes tick task some = comes_then tick task (only_some _ (run_of o task) some).0

  pub comes_pattern : (tick task : ℕ) → ComesThen tick task → coming_pattern o c tick task ≡ run_of o task
  unfolding coming_pattern comes_at
  comes_pattern tick task at =
      only_true _ (run_of o task) (both_and _ _ (lt-ltb _ _ at.known) (both_and _ _ at.part (both_and _ _ (true_within _ _ tick at.from at.upto) (eq-eqb _ _ at.multiple))))

  pub pattern_run : (tick task : ℕ) → 0 < coming_pattern o c tick task → coming_pattern o c tick task ≡ run_of o task
  pattern_run tick task some = comes_pattern tick task (pattern_comes tick task some)

  module _ (limits : WithinLimits o) where
    pub run_some : (task : ℕ) → task < o.tasks → 0 < run_of o task
    unfolding cost
    run_some task known = (limits.each task known).cost_in.0

    comings_legal : LegalPattern o (coming_pattern o c)
    comings_legal =
        record {
          known = λ tick task some. (pattern_comes tick task some).known;
          durations = λ tick task some. omega (arith, pattern_run tick task some);
          apart = λ earlier later task some more l.
              let a = pattern_comes earlier task some in
              let b = pattern_comes later task more in
              let f = a.from in
              omega (arith, f, multiples_apart (period_of o task) (earlier - c.first task) (later - c.first task) a.multiple b.multiple (omega (arith, f)));
        }

    comings_end : (ticks : ℕ) → ComeBefore o c ticks → EndsBefore (coming_pattern o c) ticks
    comings_end ticks come =
        record {
          early = λ tick task some. let a = pattern_comes tick task some in omega (arith, a.upto, come.early task a.known a.part);
          few = λ tick task some. omega (arith, (pattern_comes tick task some).known, limits.tasks.1);
        }

    -- how many records stand at a key: one where the task comes
    length_at : (tick task : ℕ) → task < 32 → length (record_at (coming_pattern o c) (tick * 32 + task)) ≡ only (ltb task o.tasks && comes_at o c tick task) 1
    unfolding coming_pattern
    length_at tick task few = go (ltb task o.tasks && comes_at o c tick task) refl
      where
        go : (b : Bool) → (ltb task o.tasks && comes_at o c tick task) ≡ b → length (record_at (coming_pattern o c) (tick * 32 + task)) ≡ only b 1
        go true e = ap length (record_some (coming_pattern o c) tick task few (rw (only_true _ (run_of o task) e) (run_some task (comes_then tick task e).known)))
        go false e =
            let t : (tick * 32 + task) / 32 ≡ tick = omega arith in
            let k : (tick * 32 + task) % 32 ≡ task = omega arith in
            ap length (record_none (coming_pattern o c) (tick * 32 + task) (rw (t, k, e)))

    -- how often a task comes
    task-count : (ticks task : ℕ) → ComeBefore o c ticks → task < o.tasks
        → sum (λ tick. only (ltb task o.tasks && comes_at o c tick task) 1) ticks ≡ only (c.takes_part task) ((c.last task - c.first task) / period_of o task + 1)
    unfolding comes_at
    task-count ticks task come known = rw (lt-ltb _ _ known) (go (c.takes_part task) refl)
      where
        go : (b : Bool) → c.takes_part task ≡ b
            → sum (λ tick. only (b && (within (c.first task) (c.last task) tick && eqb ((tick - c.first task) % period_of o task) 0)) 1) ticks ≡ only b ((c.last task - c.first task) / period_of o task + 1)
        go true part =
            let some = come.some task known part in
            let whole : c.first task + suc (c.last task - c.first task) ≡ suc (c.last task) = omega (arith, some) in
            sum_front _ (suc (c.last task)) ticks (come.early task known part) (λ tick past l. rw (le-leb (c.first task) tick (omega (arith, some)), lt-leb tick (c.last task) past))
            ∙ ap (sum _) (sym whole)
            ∙ come_count (c.first task) (c.last task) (period_of o task) (c.last task - c.first task) 1 (limits.each task known).period_in.0 (omega (arith, some))
            ∙ mul-one _
        go false part = sum_zero _ ticks (λ tick l. refl)

    comings_counted : (ticks : ℕ) → ComeBefore o c ticks → length (script_before (coming_pattern o c) ticks) ≡ coming_count o c
    unfolding coming_count records_below
    comings_counted ticks come =
        length_as_sum (record_at (coming_pattern o c)) (ticks * 32)
        ∙ sum_keys (λ key. length (record_at (coming_pattern o c) key)) ticks
        ∙ sum_exchange (λ tick task. length (record_at (coming_pattern o c) (tick * 32 + task))) ticks 32
        ∙ sum_same _ (λ task. sum (λ tick. only (ltb task o.tasks && comes_at o c tick task) 1) ticks) 32 (λ task few. sum_same _ _ ticks (λ tick l. length_at tick task few))
        ∙ sum_front _ o.tasks 32 limits.tasks.1 (λ task past few. sum_zero _ ticks (λ tick l. rw (le-ltb task o.tasks past)))
        ∙ sum_same _ _ o.tasks (λ task known. task-count ticks task come known)

pub comings_make_scripts : ComingsMakeScripts
comings_make_scripts o c ticks limits come =
    record { ends = comings_end o c limits ticks come; legal = comings_legal o c limits; counted = comings_counted o c limits ticks come }
