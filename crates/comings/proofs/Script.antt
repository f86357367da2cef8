-- A pattern as a script is the pattern again, and legal where the pattern is.
use Prim.Native.Nat.{ℕ, zero, suc, ◌+◌, ◌*◌, ◌/◌, ◌%◌, ◌≤◌, ◌<◌}
use mathlib.Core.Path.{◌≡◌, refl, sym, ap, ◌∙◌, subst}
use mathlib.Core.Bool.{Bool, true, false}
use mathlib.Core.List.{List, [], ◌∷◌, ◌++◌, append-nil}
use mathlib.Core.Logic.{inl, inr, ⊎_elim}
use native.Mathlib.Decide.{dec_lt}
use native.Mathlib.Nat.{add-mul, eq-or-lt_of_le}
use native.Mathlib.Omega.{arith}
use lib.Dec.{ltb}
use lib.ListN.{length, length-append}
use borrow.Author.Tests.{lt-ltb, ltb-true, eq-eqb}
use Rattle.laws.specs.Choice.{pick}
use Rattle.laws.specs.Joined.{joined}
use Rattle.laws.proofs.Joined.{joined_same, joined_at}
use Rattle.model.specs.declared.order.Order.{Order}
use Rattle.model.specs.declared.build.Release.{Release}
use Rattle.machine.specs.Step.{Pattern}
use Rattle.machine.specs.Pattern.{LegalPattern, LegalScript, Before, record_of, pattern_of}
use Rattle.machine.proofs.Script.{joins_at_lem, pattern_some}
use Rattle.script.specs.Judged.{release_key}
use Rattle.comings.specs.Listed.{record_at, records_below, script_before, ScriptIsPattern, LegalAsScript, EndsWithTheLast}
use Rattle.comings.proofs.Keys.{joined_nothing}
use Rattle.comings.proofs.Records.{Each, Rise, each_append, rise_append, pattern_missed, pattern_kept}

module _ (releases : Pattern) where
  abbrev given : (tick task : ℕ) → Release
  given tick task = record { tick = tick; task = task; duration = releases tick task }

  -- the record at a key, and none where the pattern gives nothing
  pub record_some : (tick task : ℕ) → task < 32 → 0 < releases tick task → record_at releases (tick * 32 + task) ≡ given tick task ∷ []
  unfolding record_at
  record_some tick task few some =
      let t : (tick * 32 + task) / 32 ≡ tick = omega arith in
      let k : (tick * 32 + task) % 32 ≡ task = omega arith in
      rw (t, k, lt-ltb 0 (releases tick task) some)

  pub record_none : (key : ℕ) → releases (key / 32) (key % 32) ≡ 0 → record_at releases key ≡ []
  unfolding record_at
  record_none key none = rw none

  -- a record of a script that the pattern gives
  pub record Given (r : Release) : Type 0 where
    pub few : r.task < 32
    pub same : r.duration ≡ releases r.tick r.task
    pub some : 0 < r.duration

  -- what stands at a key is given
  at_key : (key : ℕ) → Each (λ r. Given r × (release_key r ≡ key)) (record_at releases key)
  unfolding record_at
  at_key key = go (ltb 0 (releases (key / 32) (key % 32))) refl
    where
      go : (b : Bool) → ltb 0 (releases (key / 32) (key % 32)) ≡ b → Each (λ r. Given r × (release_key r ≡ key)) (pick b (given (key / 32) (key % 32) ∷ []) [])
      go true e zero l = (record { few = omega arith; same = refl; some = ltb-true _ _ e }, omega arith)
      go true e (suc i) l = absurd (omega arith)
      go false e i l = absurd (omega arith)

  at_key_rise : (key : ℕ) → Rise (record_at releases key)
  unfolding record_at
  at_key_rise key = go (ltb 0 (releases (key / 32) (key % 32)))
    where
      go : (b : Bool) → Rise (pick b (given (key / 32) (key % 32) ∷ []) [])
      go true i zero l m = absurd (omega arith)
      go true i (suc j) l m = absurd (omega arith)
      go false i j l m = absurd (omega arith)

  pub below_more : (key : ℕ) → records_below releases (suc key) ≡ records_below releases key ++ record_at releases key
  unfolding records_below joined
  below_more key = refl

  -- between two keys nothing is released
  pub below_same : (from to : ℕ) → from ≤ to → ((key : ℕ) → from ≤ key → key < to → 0 < releases (key / 32) (key % 32) → ⊥) → records_below releases to ≡ records_below releases from
  unfolding records_below
  below_same from to le none = joined_nothing (record_at releases) from to le (λ key p q. record_none key (nothing key (none key p q) (dec_lt 0 (releases (key / 32) (key % 32)))))
    where
      nothing : (key : ℕ) → (0 < releases (key / 32) (key % 32) → ⊥) → Dec (0 < releases (key / 32) (key % 32)) → releases (key / 32) (key % 32) ≡ 0
      nothing key not_some (yes some) = absurd (not_some some)
      nothing key not_some (no none) = omega arith

  -- records that are as many as those below a later key are the same
  pub below_all : (from to : ℕ) → from ≤ to → length (records_below releases from) ≡ length (records_below releases to) → records_below releases from ≡ records_below releases to
  unfolding records_below
  below_all from to le same = ⊎_elim (λ e. ap (joined (record_at releases)) e) beginning (eq-or-lt_of_le le)
    where
      no_more : (xs rest whole : List Release) → whole ≡ xs ++ rest → length xs ≡ length whole → xs ≡ whole
      no_more xs [] whole e size = sym (e ∙ append-nil xs)
      no_more xs (r ∷ rest) whole e size = absurd (omega (arith, ap length e, size, length-append xs (r ∷ rest)))

      beginning : from < to → joined (record_at releases) from ≡ joined (record_at releases) to
      beginning l =
          let r = joined_at (record_at releases) to from l in
          no_more (joined (record_at releases) from) (record_at releases from ++ r.0) (joined (record_at releases) to) r.1 same

  -- the records below a key are given, and rise
  pub below_given : (key : ℕ) → Each (λ r. Given r × (release_key r < key)) (records_below releases key)
  unfolding records_below joined
  below_given zero = λ i l. absurd (omega arith)
  below_given (suc key) =
      each_append (records_below releases key) (record_at releases key) (λ r. Given r × (release_key r < suc key))
      (λ i l. let x = below_given key i l in (x.0, omega (arith, x.1)))
      (λ i l. let x = at_key key i l in (x.0, omega (arith, x.1)))

  pub below_rise : (key : ℕ) → Rise (records_below releases key)
  unfolding records_below joined
  below_rise zero = λ i j l m. absurd (omega arith)
  below_rise (suc key) =
      rise_append (records_below releases key) (record_at releases key) key (below_rise key) (at_key_rise key)
      (λ i l. (below_given key i l).1)
      (λ i l. omega (arith, (at_key key i l).1))

  -- the pattern of what stands at a key: there, and elsewhere
  pattern_here : (tick task : ℕ) → task < 32 → pattern_of (record_at releases (tick * 32 + task)) tick task ≡ releases tick task
  unfolding pattern_of
  pattern_here tick task few = elim (dec_lt 0 (releases tick task)) [
    | yes some ↦ rw (record_some tick task few some, joins_at_lem (given tick task), eq-eqb tick tick refl, eq-eqb task task refl)
    | no none ↦ (
        let t : (tick * 32 + task) / 32 ≡ tick = omega arith in
        let k : (tick * 32 + task) % 32 ≡ task = omega arith in
        let nothing : releases tick task ≡ 0 = omega arith in
        rw (record_none (tick * 32 + task) (rw (t, k) nothing), nothing))
  ]

  -- what the script below a key gives, the pattern gives
  pub pattern_only : (key tick task : ℕ) → 0 < pattern_of (records_below releases key) tick task → pattern_of (records_below releases key) tick task ≡ releases tick task
  pattern_only key tick task some =
      let x = pattern_some (records_below releases key) tick task some in
      let r = record_of (records_below releases key) x.0 in
      let at : r.tick ≡ tick = sym (joins_at_lem r) ∙ x.2.0 in
      x.3 ∙ (below_given key x.0 x.1).0.same ∙ ap (λ (t : ℕ). releases t r.task) at ∙ ap (releases tick) x.2.1

  pattern_elsewhere : (key tick task : ℕ) → task < 32 → (key ≡ tick * 32 + task → ⊥) → pattern_of (record_at releases key) tick task ≡ 0
  pattern_elsewhere key tick task few other = go (dec_lt 0 (pattern_of (record_at releases key) tick task))
    where
      go : Dec (0 < pattern_of (record_at releases key) tick task) → pattern_of (record_at releases key) tick task ≡ 0
      go (yes some) =
          let x = pattern_some (record_at releases key) tick task some in
          let r = record_of (record_at releases key) x.0 in
          absurd (other (omega (arith, (at_key key x.0 x.1).1, joins_at_lem r, x.2.0, x.2.1)))
      go (no none) = omega arith

  pub pattern_found : (key tick task : ℕ) → task < 32 → tick * 32 + task < key → pattern_of (records_below releases key) tick task ≡ releases tick task
  pattern_found zero tick task few l = absurd (omega arith)
  pattern_found (suc key) tick task few l = rw below_more (go (λ (p : tick * 32 + task < key). pattern_found key tick task few p) (dec_lt (tick * 32 + task) key))
    where
      go : (tick * 32 + task < key → pattern_of (records_below releases key) tick task ≡ releases tick task) → Dec (tick * 32 + task < key)
          → pattern_of (records_below releases key ++ record_at releases key) tick task ≡ releases tick task
      go ih (yes p) =
          pattern_kept (records_below releases key) (record_at releases key) tick task (pattern_elsewhere key tick task few (λ e. omega (arith, e))) ∙ ih p
      go ih (no p) =
          let e : tick * 32 + task ≡ key = omega arith in
          pattern_missed (records_below releases key) (record_at releases key) tick task
          (λ i m of. omega (arith, (below_given key i m).1, joins_at_lem (record_of (records_below releases key) i), of.0, of.1))
          ∙ subst (λ (x : ℕ). pattern_of (record_at releases x) tick task ≡ releases tick task) e (pattern_here tick task few)

pub script_is_pattern : ScriptIsPattern
script_is_pattern releases ticks ends tick task = go (dec_lt 0 (pattern_of (script_before releases ticks) tick task)) (dec_lt 0 (releases tick task))
  where
    go : Dec (0 < pattern_of (script_before releases ticks) tick task) → Dec (0 < releases tick task) → pattern_of (script_before releases ticks) tick task ≡ releases tick task
    go (yes some) d = pattern_only releases (ticks * 32) tick task some
    go (no none) (yes some) = pattern_found releases (ticks * 32) tick task (ends.few tick task some) (omega (arith, ends.early tick task some, ends.few tick task some))
    go (no none) (no nothing) = omega arith

module _ (o : Order) (releases : Pattern) (key : ℕ) (legal : LegalPattern o releases) where
  abbrev script : List Release
  script = records_below releases key

  released : Each (λ r. 0 < releases r.tick r.task) script
  released i l = let g = (below_given releases key i l).0 in omega (arith, g.same, g.some)

  by_tick : (i j : ℕ) → i < j → j < length script → Dec ((record_of script i).tick < (record_of script j).tick) → Before (record_of script i) (record_of script j)
  by_tick i j l m (yes p) = inl p
  by_tick i j l m (no p) =
      let rises = below_rise releases key i j l m in
      let before = (below_given releases key i (omega arith)).0.few in
      let after = (below_given releases key j m).0.few in
      inr (omega (arith, rises, before, after), omega (arith, rises, before, after))

  -- the records of a legal pattern below a key are legal
  pub below_legal : LegalScript o script
  below_legal =
      record {
        known = λ i l. legal.known (record_of script i).tick (record_of script i).task (released i l);
        rise = λ i j l m. by_tick i j l m (dec_lt (record_of script i).tick (record_of script j).tick);
        durations = λ i l.
            let g = (below_given releases key i l).0 in
            (g.some, omega (arith, g.same, legal.durations (record_of script i).tick (record_of script i).task (released i l)));
        apart = λ i j l m same.
            let later = below_rise releases key i j l m in
            legal.apart (record_of script i).tick (record_of script j).tick (record_of script i).task (released i (omega arith))
            (subst (λ (task : ℕ). 0 < releases (record_of script j).tick task) (sym same) (released j m))
            (omega (arith, later, same));
      }

pub legal_as_script : LegalAsScript
legal_as_script o releases ticks legal = below_legal o releases (ticks * 32) legal

pub ends_with_the_last : EndsWithTheLast
ends_with_the_last releases ticks more ends =
    below_same releases (ticks * 32) ((ticks + more) * 32) (omega (arith, add-mul ticks more 32)) (λ key from l some. omega (arith, ends.early (key / 32) (key % 32) some))

-- patterns that agree have one script
pub script_same : (one other : Pattern) → ((tick task : ℕ) → one tick task ≡ other tick task) → (ticks : ℕ) → script_before one ticks ≡ script_before other ticks
unfolding records_below record_at
script_same one other same ticks = joined_same (record_at one) (record_at other) (ticks * 32) (λ key l. rw (same (key / 32) (key % 32)))
