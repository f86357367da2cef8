-- The line and the rows that a trial makes, and what its answer says.
use Rattle.std.specs.Prelude.{Ok, Err}
use mathlib.Core.Path.{◌≡◌, refl, sym, ap, ◌∙◌, subst}
use mathlib.Core.Bool.{Bool, true, false}
use mathlib.Core.List.{List}
use Prim.Native.Nat.{ℕ, ◌+◌, ◌-◌, ◌<◌}
use native.Mathlib.Omega.{arith}
use lib.ListN.{get_or}
use Rattle.laws.specs.Joined.{overlaid}
use Rattle.laws.proofs.Overlaid.{overlaid_in}
use Rattle.model.specs.declared.order.Order.{Order}
use Rattle.demand.specs.Priority.{deadline_of}
use Rattle.asked.specs.declared.rows.Rows.{Rows}
use Rattle.asked.specs.Rows.{RowsFit}
use Rattle.trial.specs.Known.{KnownBefore, TriedAs}
use Rattle.trial.specs.declared.Results.{Results}
use Rattle.roster.specs.Keys.{key_of, home_in, key_at, lives_in, run_from, spot_for, with_key}
use Rattle.roster.specs.Rows.{RowsInLine}
use Rattle.roster.specs.Lined.{part_size}
use Rattle.roster.proofs.Lining.{home_of_key}
use Rattle.roster.proofs.Runs.{run_most}
use Rattle.fitting.specs.Steps.{accepts}
use Rattle.placing.specs.declared.TaskLine.{TaskLine}
use Rattle.placing.specs.Known.{TryingIn, TriedIn}
use Rattle.placing.proofs.Beside.{newcomer_in, fit, before, answer_is, known_now}

module _ (table : Rows) (line : TaskLine) (first key : ℕ) (so : TryingIn table line first key) where
  abbrev keys : List ℕ
  keys = line.keys

  abbrev placed : ℕ
  placed = line.placed

  abbrev results : Results ℕ
  results = line.results

  abbrev o : Order
  o = so.trying.order

  abbrev k : ℕ
  k = so.partition

  abbrev i : ℕ
  i = so.task

  near : deadline_of o i < 1_048_576
  near = (let task = so.trying.limits.each i so.trying.known_task in omega (arith, task.deadline_in.1, task.period_in.1))

  pub home_is : home_in key ≡ k
  home_is = ap home_in so.key_is ∙ home_of_key k (deadline_of o i) i (omega (arith, so.trying.known_task, so.trying.limits.tasks.1)) near

  pub size_is : (home size : ℕ) → home ≡ home_in key → size ≡ run_from (lives_in home keys) first (placed - first) → size ≡ part_size keys placed first k
  size_is home size e f = f ∙ ap (λ (h : ℕ). run_from (lives_in h keys) first (placed - first)) (e ∙ home_is)

  pub size_small : part_size keys placed first k < 32
  size_small = omega (arith, run_most (lives_in k keys) first (placed - first), so.trying.room)

  module _ (size newcomer : ℕ) (own₀ own₁ own₂ : List ℕ) (rows : Rows) (counted : size ≡ part_size keys placed first k)
      (copied : own₁ ≡ overlaid (λ r. get_or keys (first + r) 0) size own₀) (spot : newcomer ≡ spot_for key own₁ size)
      (put : own₂ ≡ overlaid (with_key key own₁ size) (size + 1) own₁) (filled : RowsInLine table own₂ (size + 1) rows) where
    copied' : (r : ℕ) → r < part_size keys placed first k → key_at own₁ r ≡ key_at keys (first + r)
    copied' r l = ap (λ (xs : List ℕ). key_at xs r) copied ∙ overlaid_in (λ s. get_or keys (first + s) 0) own₀ size r 0 (omega (arith, counted))

    put' : (r : ℕ) → r < part_size keys placed first k + 1 → key_at own₂ r ≡ with_key (key_of k (deadline_of o i) i) own₁ (part_size keys placed first k) r
    put' r l =
        ap (λ (xs : List ℕ). key_at xs r) put
        ∙ overlaid_in (with_key key own₁ size) own₁ (size + 1) r 0 (omega (arith, counted))
        ∙ ap (λ (s : ℕ). with_key key own₁ s r) counted
        ∙ ap (λ (x : ℕ). with_key x own₁ (part_size keys placed first k) r) so.key_is

    filled' : RowsInLine table own₂ (part_size keys placed first k + 1) rows
    filled' = subst (λ (s : ℕ). RowsInLine table own₂ (s + 1) rows) counted filled

    newcomer_at : newcomer ≡ spot_for (key_of k (deadline_of o i) i) own₁ (part_size keys placed first k)
    newcomer_at = spot ∙ ap (spot_for key own₁) counted ∙ ap (λ (x : ℕ). spot_for x own₁ (part_size keys placed first k)) so.key_is

    pub ready : (newcomer < size + 1) × RowsFit rows (size + 1) × KnownBefore rows own₂ (size + 1) newcomer results
    ready =
        let t = so.trying in
        rw (newcomer_at, counted) (
          newcomer_in o t.limits t.homes t.places i k t.known_task t.waits so.few keys placed first t.in_line so.members own₁ own₂ rows table copied' put' size_small t.rows filled',
          fit o t.limits t.homes t.places i k t.known_task t.waits so.few keys placed first t.in_line so.members own₁ own₂ rows table copied' put' size_small t.rows filled',
          before o t.limits t.homes t.places i k t.known_task t.waits so.few keys placed first t.in_line so.members own₁ own₂ rows table copied' put' size_small t.rows filled' results t.known,
        )

    -- the line with what the trial found
    abbrev tested : (results' : Results ℕ) → TaskLine
    tested results' = record { keys = keys; placed = placed; results = results' }

    answer_of : (passes : Bool) (results' : Results ℕ) → TriedAs rows own₂ (size + 1) results passes results' → passes ≡ accepts o so.trying.homes i k
    answer_of passes results' is =
        let t = so.trying in
        let is' = subst (λ (s : ℕ). TriedAs rows own₂ (s + 1) results passes results') counted is in
        answer_is o t.limits t.homes t.places i k t.known_task t.waits so.few keys placed first t.in_line so.members own₁ own₂ rows table copied' put' size_small t.rows filled' results t.known passes is'.all_pass

    -- the trial passes, or it does not
    pub told_takes : (passes : Bool) (results' : Results ℕ) → TriedAs rows own₂ (size + 1) results passes results' → passes ≡ true
        → TriedIn table line first key so (Ok tt) (tested results')
    told_takes passes results' is pass =
        let t = so.trying in
        let is' = subst (λ (s : ℕ). TriedAs rows own₂ (s + 1) results passes results') counted is in
        record {
          same_line = (refl, refl);
          takes = λ e. sym (answer_of passes results' is) ∙ pass;
          taken = λ e. known_now o t.limits t.homes t.places i k t.known_task t.waits so.few keys placed first t.in_line so.members own₁ own₂ rows table copied' put' size_small t.rows filled' results t.known results' (is'.taken pass);
          refuses = λ n e. absurd (cc e);
          refused = λ n e. absurd (cc e);
          members = λ n e. absurd (cc e);
        }

    pub told_refuses : (passes : Bool) (results' : Results ℕ) → TriedAs rows own₂ (size + 1) results passes results' → passes ≡ false
        → TriedIn table line first key so (Err size) (tested results')
    told_refuses passes results' is fail =
        record {
          same_line = (refl, refl);
          takes = λ e. absurd (cc e);
          taken = λ e. absurd (cc e);
          refuses = λ n e. sym (answer_of passes results' is) ∙ fail;
          refused = λ n e. ap tested (is.refused fail);
          members = λ n e. (let same : size ≡ n = cc e in sym same ∙ counted);
        }
