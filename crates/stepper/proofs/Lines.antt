-- Laws of a task's records in line: the tick's release joins, the oldest leaves, quiet ticks change nothing.
use Prim.Native.Nat.{ℕ, zero, suc, ◌≤◌, ◌<◌}
use mathlib.Core.Path.{◌≡◌, refl, sym, ◌∙◌, ap, subst, subst₂}
use mathlib.Core.List.{List, [], ◌∷◌, ◌++◌, append-nil}
use mathlib.Core.Logic.{inl, inr}
use native.Mathlib.Decide.{dec_le, dec_lt}
use native.Mathlib.Omega.{arith}
use lib.ListN.{length}
use Rattle.model.specs.declared.order.Order.{Order}
use Rattle.model.specs.declared.build.Release.{Release}
use Rattle.machine.specs.Step.{Job, job, released}
use Rattle.machine.specs.Pattern.{record_of, pattern_of, Before, LegalScript}
use Rattle.machine.proofs.Script.{joins_at_lem, pattern_some, legal_script_is_legal}
use Rattle.stepper.specs.Lines.{record_task, record_joins, JobsInLine}

-- what the pattern of a script gives at a tick
pub released_none : (script : List Release) (tick task : ℕ) → ((i : ℕ) → i < length script → record_task script i ≡ task → record_joins script i ≡ tick → ⊥) → pattern_of script tick task ≡ 0
released_none script tick task none = go (pattern_of script tick task) refl
  where
    go : (x : ℕ) → pattern_of script tick task ≡ x → pattern_of script tick task ≡ 0
    go zero e = e
    go (suc x) e = let r = pattern_some script tick task (omega arith) in absurd (none r.0 r.1 r.2.1 r.2.0)

module _ {o : Order} {script : List Release} (legal : LegalScript o script) where
  -- within a task the ticks rise
  pub joins_later : (i j : ℕ) → i < j → j < length script → record_task script i ≡ record_task script j → record_joins script i < record_joins script j
  joins_later i j h g e = go (legal.rise i j h g)
    where
      go : Before (record_of script i) (record_of script j) → record_joins script i < record_joins script j
      go (inl l) = omega (arith, joins_at_lem (record_of script i), joins_at_lem (record_of script j))
      go (inr l) = absurd (omega (arith, l.1))

  -- in the script they fall nowhere
  pub joins_rise : (i j : ℕ) → i ≤ j → j < length script → record_joins script i ≤ record_joins script j
  joins_rise i j h g = go (dec_lt i j)
    where
      rises : Before (record_of script i) (record_of script j) → record_joins script i ≤ record_joins script j
      rises (inl l) = omega (arith, joins_at_lem (record_of script i), joins_at_lem (record_of script j))
      rises (inr l) = omega (arith, joins_at_lem (record_of script i), joins_at_lem (record_of script j), l.0)

      go : Dec (i < j) → record_joins script i ≤ record_joins script j
      go (yes p) = rises (legal.rise i j p g)
      go (no p) = let e : i ≡ j = omega arith in omega (arith, ap (record_joins script) e)

  pub released_at : (i tick task : ℕ) → i < length script → record_joins script i ≡ tick → record_task script i ≡ task → pattern_of script tick task ≡ (record_of script i).duration
  released_at i tick task h e e' = subst₂ (λ (x y : ℕ). pattern_of script x y ≡ (record_of script i).duration) e e' ((legal_script_is_legal o script legal).records i h)

  module _ (k : ℕ) where
    line_stays : (h : ℕ) (js : List Job) (t : ℕ) → ((i : ℕ) → i < length script → record_task script i ≡ k → record_joins script i ≡ t → ⊥)
        → JobsInLine script k h js t → JobsInLine script k h js (suc t)
    line_stays h [] t z l = λ i g g' e. after i g g' e (dec_lt t (record_joins script i))
      where
        after : (i : ℕ) → h ≤ i → i < length script → record_task script i ≡ k → Dec (t < record_joins script i) → suc t ≤ record_joins script i
        after i g g' e (yes d) = d
        after i g g' e (no d) = absurd (z i g' e (omega (arith, l i g g' e)))
    line_stays h (j ∷ js) t z l = (l.0, l.1, l.2, l.3, l.4, l.5, omega (arith, l.6), line_stays (suc l.0) js t z l.7)

    line_snoc : (h : ℕ) (js : List Job) (i t : ℕ) → i < length script → record_task script i ≡ k → record_joins script i ≡ t
        → ((x : ℕ) → x < h → x < length script → record_task script x ≡ k → record_joins script x < t) → JobsInLine script k h js t
        → JobsInLine script k h (js ++ (job t (record_of script i).duration ∷ [])) (suc t)
    line_snoc h [] i t g e s started l =
        (i, after (dec_le h i), g, e, (λ x y y' q. omega (arith, l x y (omega arith) q, joins_later x i y' g (q ∙ sym e))), ap (λ (a : ℕ). job a (record_of script i).duration) (sym s), omega arith, λ x y y' q. omega (arith, joins_later i x y y' (e ∙ sym q)))
      where
        after : Dec (h ≤ i) → h ≤ i
        after (yes d) = d
        after (no d) = absurd (omega (arith, started i (omega arith) g e))
    line_snoc h (j ∷ js) i t g e s started l =
        (l.0, l.1, l.2, l.3, l.4, l.5, omega (arith, l.6), line_snoc (suc l.0) js i t g e s (λ x y z q. before x y z q (dec_lt x h) (dec_lt x l.0)) l.7)
      where
        before : (x : ℕ) → x < suc l.0 → x < length script → record_task script x ≡ k → Dec (x < h) → Dec (x < l.0) → record_joins script x < t
        before x y z q (yes d) d' = started x d z q
        before x y z q (no d) (yes d') = absurd (l.4 x (omega arith) d' q)
        before x y z q (no d) (no d') = let s : l.0 ≡ x = omega arith in rw s at l.6

    -- the release of the tick joins
    pub line_joined : (h : ℕ) (js : List Job) (t : ℕ) → ((x : ℕ) → x < h → x < length script → record_task script x ≡ k → record_joins script x < t) → JobsInLine script k h js t
        → JobsInLine script k h (js ++ released t (pattern_of script t k)) (suc t)
    unfolding released
    line_joined h js t started l = go (pattern_of script t k) refl
      where
        go : (x : ℕ) → pattern_of script t k ≡ x → JobsInLine script k h (js ++ released t x) (suc t)
        go zero e = rw append-nil (line_stays h js t (λ i g q q'. omega (arith, released_at i t k g q' q, legal.durations i g)) l)
        go (suc x) e =
            let r = pattern_some script t k (omega arith) in
            let b : (record_of script r.0).duration ≡ suc x = sym r.3 ∙ e in
            rw (← b) (line_snoc h js r.0 t r.1 r.2.1 r.2.0 started l)

    -- a part without a record of k is passed over
    pub line_passed : (h h' : ℕ) (js : List Job) (t : ℕ) → h ≤ h' → ((x : ℕ) → h ≤ x → x < h' → x < length script → record_task script x ≡ k → ⊥) → JobsInLine script k h js t → JobsInLine script k h' js t
    line_passed h h' [] t g z l = λ i x. l i (omega arith)
    line_passed h h' (j ∷ js) t g z l = (l.0, after (dec_le h' l.0), l.2, l.3, (λ x y. l.4 x (omega arith)), l.5, l.6, l.7)
      where
        after : Dec (h' ≤ l.0) → h' ≤ l.0
        after (yes d) = d
        after (no d) = absurd (z l.0 l.1 (omega arith) l.2 l.3)

    -- the first in line is record h, where h is a record of k or past the last
    pub line_first : (h : ℕ) (j : Job) (js : List Job) (t : ℕ) → (h < length script → record_task script h ≡ k) → JobsInLine script k h (j ∷ js) t
        → (h < length script) × (j ≡ job (record_joins script h) (record_of script h).duration) × (record_joins script h < t) × JobsInLine script k (suc h) js t
    line_first h j js t own l =
        let s : l.0 ≡ h = same (dec_lt h l.0) in
        subst (λ (x : ℕ). (x < length script) × (j ≡ job (record_joins script x) (record_of script x).duration) × (record_joins script x < t) × JobsInLine script k (suc x) js t) s (l.2, l.5, l.6, l.7)
      where
        same : Dec (h < l.0) → l.0 ≡ h
        same (yes d) = absurd (l.4 h (omega arith) d (own (omega (arith, l.2))))
        same (no d) = omega (arith, l.1)

-- nothing of a task joins from a tick up to another
pub line_quiet : (script : List Release) (t e k h : ℕ) (js : List Job) → t ≤ e → ((i : ℕ) → i < length script → record_task script i ≡ k → t ≤ record_joins script i → e ≤ record_joins script i)
    → JobsInLine script k h js t → JobsInLine script k h js e
line_quiet script t e k h [] g quiet l = λ i x y z. quiet i y z (l i x y z)
line_quiet script t e k h (j ∷ js) g quiet l = (l.0, l.1, l.2, l.3, l.4, l.5, omega (arith, l.6), line_quiet script t e k (suc l.0) js g quiet l.7)
