-- The pattern that a script gives.
use Prim.Native.Nat.{ℕ, zero, suc, ◌+◌, ◌≤◌, ◌<◌}
use mathlib.Core.Path.{◌≡◌, refl, sym, ◌∙◌, ap}
use mathlib.Core.Bool.{Bool, true, false, ◌&&◌}
use mathlib.Core.List.{List, [], ◌∷◌}
use mathlib.Core.Logic.{inl, inr}
use native.Mathlib.Decide.{dec_lt}
use native.Mathlib.Omega.{arith}
use lib.Dec.{eqb}
use lib.ListN.{length}
use borrow.Author.Tests.{eqb-true, eq-eqb}
use Rattle.laws.specs.Choice.{pick}
use Rattle.model.specs.declared.order.Order.{Order}
use Rattle.model.specs.declared.build.Release.{Release}
use Rattle.demand.specs.Releases.{period_of}
use Rattle.machine.specs.Pattern.{LegalPattern, LegalScript, Before, run_of, record_of, joins_at, pattern_of}
use Rattle.machine.specs.Claims.{LegalScriptIsLegal}

-- a record's job joins at its tick
pub joins_at_lem : (r : Release) → joins_at r ≡ r.tick
unfolding joins_at
joins_at_lem r = refl

-- record i joins at this tick and is of this task
abbrev pub IsOf : List Release → (tick task i : ℕ) → Type 0
IsOf script tick task i = (joins_at (record_of script i) ≡ tick) × ((record_of script i).task ≡ task)

-- what the pattern gives is given by a record
pub pattern_some : (script : List Release) (tick task : ℕ) → 0 < pattern_of script tick task
    → (i : ℕ) × (i < length script) × IsOf script tick task i × (pattern_of script tick task ≡ (record_of script i).duration)
unfolding pattern_of
pattern_some [] tick task h = absurd (omega arith)
pattern_some (r ∷ script) tick task h = go (λ (g : 0 < pattern_of script tick task). pattern_some script tick task g) (eqb (joins_at r) tick) refl (eqb r.task task) refl h
  where
    go : (0 < pattern_of script tick task → (i : ℕ) × (i < length script) × IsOf script tick task i × (pattern_of script tick task ≡ (record_of script i).duration))
        → (b : Bool) → eqb (joins_at r) tick ≡ b → (c : Bool) → eqb r.task task ≡ c → 0 < pick (b && c) r.duration (pattern_of script tick task)
        → (i : ℕ) × (i < suc (length script)) × IsOf (r ∷ script) tick task i × (pick (b && c) r.duration (pattern_of script tick task) ≡ (record_of (r ∷ script) i).duration)
    go ih true p true q g = (0, omega arith, (eqb-true _ _ p, eqb-true _ _ q), refl)
    go ih true p false q g = let x = ih g in (suc x.0, omega (arith, x.1), x.2, x.3)
    go ih false p c q g = let x = ih g in (suc x.0, omega (arith, x.1), x.2, x.3)

-- records of one task join in their order
abbrev JoinInOrder : List Release → Type 0
JoinInOrder script = (i j : ℕ) → i < j → j < length script → (record_of script i).task ≡ (record_of script j).task → joins_at (record_of script i) < joins_at (record_of script j)

-- then each record is found
pattern_found : (script : List Release) → JoinInOrder script → (i : ℕ) → i < length script
    → pattern_of script (joins_at (record_of script i)) (record_of script i).task ≡ (record_of script i).duration
unfolding pattern_of
pattern_found [] d i h = absurd (omega arith)
pattern_found (r ∷ script) d zero h = rw (eq-eqb (joins_at r) (joins_at r) refl, eq-eqb r.task r.task refl)
pattern_found (r ∷ script) d (suc i) h =
    go (eqb (joins_at r) (joins_at (record_of script i))) refl (eqb r.task (record_of script i).task) refl
    (pattern_found script (λ a b l m. d (suc a) (suc b) (omega arith) (omega arith)) i (omega arith))
  where
    go : (b : Bool) → eqb (joins_at r) (joins_at (record_of script i)) ≡ b → (c : Bool) → eqb r.task (record_of script i).task ≡ c
        → pattern_of script (joins_at (record_of script i)) (record_of script i).task ≡ (record_of script i).duration
        → pick (b && c) r.duration (pattern_of script (joins_at (record_of script i)) (record_of script i).task) ≡ (record_of script i).duration
    go true p true q ih = absurd (omega (arith, eqb-true (joins_at r) (joins_at (record_of script i)) p, d 0 (suc i) (omega arith) h (eqb-true _ _ q)))
    go true p false q ih = ih
    go false p c q ih = ih

later : (r s : Release) → Before r s → r.task ≡ s.task → joins_at r < joins_at s
later r s (inl p) e = omega (arith, joins_at_lem r, joins_at_lem s)
later r s (inr p) e = absurd (omega arith)

module _ (o : Order) (script : List Release) (legal : LegalScript o script) where
  join_in_order : JoinInOrder script
  join_in_order i j l m = later (record_of script i) (record_of script j) (legal.rise i j l m)

  -- of two records of one task, that which joins first stands first, and the other joins a period later at least
  join_apart : (i j : ℕ) → i < length script → j < length script → (record_of script i).task ≡ (record_of script j).task → joins_at (record_of script i) < joins_at (record_of script j)
      → joins_at (record_of script i) + period_of o (record_of script i).task ≤ joins_at (record_of script j)
  join_apart i j h g same l = go (dec_lt i j) (dec_lt j i)
    where
      go : Dec (i < j) → Dec (j < i) → joins_at (record_of script i) + period_of o (record_of script i).task ≤ joins_at (record_of script j)
      go (yes p) d = omega (arith, legal.apart i j p g same, joins_at_lem (record_of script i), joins_at_lem (record_of script j))
      go (no p) (yes q) = absurd (omega (arith, join_in_order j i q h (sym same)))
      go (no p) (no q) = let e : i ≡ j = omega arith in absurd (omega (arith, ap (λ (x : ℕ). joins_at (record_of script x)) e))

  pattern_legal : LegalPattern o (pattern_of script)
  pattern_legal =
      record {
        known = λ tick task h. let x = pattern_some script tick task h in rw x.2.1 at (legal.known x.0 x.1);
        durations = λ tick task h. let x = pattern_some script tick task h in
            omega (arith, x.3, (legal.durations x.0 x.1).1, ap (run_of o) x.2.1);
        apart = λ t u task h g l.
            let x = pattern_some script t task h in
            let y = pattern_some script u task g in
            omega (arith, join_apart x.0 y.0 x.1 y.1 (x.2.1 ∙ sym y.2.1) (omega (arith, x.2.0, y.2.0)), x.2.0, y.2.0, ap (period_of o) x.2.1);
      }

pub legal_script_is_legal : LegalScriptIsLegal
legal_script_is_legal o script legal =
    record {
      legal = pattern_legal o script legal;
      records = pattern_found script (join_in_order o script legal);
      no_others = λ tick task h. let x = pattern_some script tick task h in (x.0, x.1, x.2.0, x.2.1);
    }

-- each record is a job that its task releases at its tick
pub record_released : (o : Order) (script : List Release) → LegalScript o script → (i : ℕ) → i < length script → 0 < pattern_of script (record_of script i).tick (record_of script i).task
record_released o script legal i below =
    rw (← joins_at_lem (record_of script i)) (omega (arith, (legal_script_is_legal o script legal).records i below, (legal.durations i below).0))

-- records that rise from each to the next rise
before_chain : (r s u : Release) → Before r s → Before s u → Before r u
before_chain r s u (inl p) (inl q) = inl (omega arith)
before_chain r s u (inl p) (inr q) = inl (omega arith)
before_chain r s u (inr p) (inl q) = inl (omega arith)
before_chain r s u (inr p) (inr q) = inr (p.0 ∙ q.0, omega arith)

pub rise_by_neighbours : (script : List Release) → ((i : ℕ) → suc i < length script → Before (record_of script i) (record_of script (suc i)))
    → (i j : ℕ) → i < j → j < length script → Before (record_of script i) (record_of script j)
rise_by_neighbours script next i zero l m = absurd (omega arith)
rise_by_neighbours script next i (suc j) l m = go (λ (p : i < j). rise_by_neighbours script next i j p (omega arith)) (dec_lt i j)
  where
    go : (i < j → Before (record_of script i) (record_of script j)) → Dec (i < j) → Before (record_of script i) (record_of script (suc j))
    go ih (yes p) = before_chain (record_of script i) (record_of script j) (record_of script (suc j)) (ih p) (next j m)
    go ih (no p) = let e : i ≡ j = omega arith in rw e (next j m)
