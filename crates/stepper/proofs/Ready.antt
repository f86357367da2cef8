-- The machine's tick from what its arrays hold.
use Prim.Native.Nat.{ℕ, suc, ◌+◌, ◌-◌, ◌*◌, ◌/◌, ◌^◌, ◌≤◌, ◌<◌}
use mathlib.Core.Path.{◌≡◌, sym, ap, ◌∙◌, subst}
use mathlib.Core.Bool.{Bool, ◌&&◌}
use mathlib.Core.List.{List}
use mathlib.Core.Logic.{inl}
use native.Mathlib.Decide.{dec_lt}
use native.Mathlib.Numerals.{add-one}
use native.Mathlib.Omega.{arith}
use lib.Bits.{bit_or}
use lib.Dec.{ltb}
use lib.ListN.{get_or, length, set}
use borrow.Author.Tests.{le-ltb}
use Rattle.laws.specs.Choice.{pick}
use Rattle.model.specs.declared.order.Order.{Order}
use Rattle.model.specs.declared.build.Build.{Build}
use Rattle.model.specs.declared.build.Release.{Release}
use Rattle.model.specs.Limits.{most_records}
use Rattle.machine.specs.Pattern.{record_of}
use Rattle.machine.proofs.Script.{joins_at_lem}
use Rattle.script.specs.Held.{Held}
use Rattle.stepper.specs.declared.Machine.{Machine}
use Rattle.stepper.specs.Ranks.{LowestRank}
use Rattle.stepper.specs.Lines.{record_task, record_joins}
use Rattle.stepper.specs.Follow.{Follows, StartsOne, LegalRun, Ready}
use Rattle.stepper.proofs.Tick.{goes_on_so, rests_so, starts_so, oldest_there}

-- a record's key holds the tick at which it joins, and its task
module _ {o : Order} {b : Build} {script : List Release} {keys durations : List ℕ} (legal_run : LegalRun o b script) (held : Held script keys durations) where
  pub key_joins : (i : ℕ) → i < length script → get_or keys i 0 / 32 ≡ record_joins script i
  key_joins i there = omega (arith, held.key i there, legal_run.legal.known i there, legal_run.few, joins_at_lem (record_of script i))

  pub key_task : (i : ℕ) → i < length script → get_or keys i 0 - get_or keys i 0 / 32 * 32 ≡ record_task script i
  key_task i there = omega (arith, held.key i there, legal_run.legal.known i there, legal_run.few)

  -- whether a record has joined before a tick, by its key
  pub joined_by_key : (i tick : ℕ) → (i < most_records → i < length script)
      → (ltb i most_records && ltb (get_or keys i 0 / 32) tick) ≡ (ltb i most_records && ltb (record_joins script i) tick)
  joined_by_key i tick there = go (dec_lt i most_records)
    where
      go : Dec (i < most_records) → (ltb i most_records && ltb (get_or keys i 0 / 32) tick) ≡ (ltb i most_records && ltb (record_joins script i) tick)
      go (yes p) = ap (λ (x : ℕ). ltb i most_records && ltb x tick) (key_joins i (there p))
      go (no p) = rw (le-ltb i most_records (omega arith))

module _ (m : Machine) (releases : ℕ) (keys durations next : List ℕ) (so : Ready m releases keys durations next) where
  abbrev Then : Machine → Type 0
  Then then = Follows so.order so.build so.script so.partition then × StartsOne so.order so.build so.script so.partition m then

  pub ready_goes_on : 0 < m.left → Then (record { tick = m.tick + 1; waiting = bit_or m.waiting releases; oldest = m.oldest; ahead = m.ahead; job = m.job; left = m.left - 1 })
  ready_goes_on more =
      subst (λ (t : ℕ). Then (record { tick = t; waiting = bit_or m.waiting releases; oldest = m.oldest; ahead = m.ahead; job = m.job; left = m.left - 1 })) (sym (add-one m.tick))
      (goes_on_so so.legal_run so.partition m so.follows releases so.due more, λ k i known home there own below. inl below)

  pub ready_rests : m.left ≤ 0 → bit_or m.waiting releases ≡ 0
      → Then (record { tick = m.tick + 1; waiting = bit_or m.waiting releases; oldest = m.oldest; ahead = m.ahead; job = 1024; left = m.left })
  ready_rests nothing empty =
      subst (λ (t : ℕ). Then (record { tick = t; waiting = bit_or m.waiting releases; oldest = m.oldest; ahead = m.ahead; job = 1024; left = m.left })) (sym (add-one m.tick))
      (rests_so so.legal_run so.partition m so.follows releases so.due (omega arith) empty, λ k i known home there own below. inl below)

  pub ready_oldest : (r : ℕ) → LowestRank (bit_or m.waiting releases) r → get_or m.oldest r 0 < length so.script
  ready_oldest r low = oldest_there so.legal_run so.partition m so.follows releases so.due r low

  pub ready_few : (r : ℕ) → LowestRank (bit_or m.waiting releases) r → get_or m.oldest r 0 < 1024
  ready_few r low = omega (arith, ready_oldest r low, so.legal_run.few_records)

  pub ready_lasts : (r : ℕ) → LowestRank (bit_or m.waiting releases) r → 1 ≤ get_or durations (get_or m.oldest r 0) 0
  ready_lasts r low =
      let i = get_or m.oldest r 0 in
      omega (arith, so.laid.held.duration i (ready_oldest r low), (so.legal_run.legal.durations i (ready_oldest r low)).0)

  pub ready_starts : (r : ℕ) → LowestRank (bit_or m.waiting releases) r → m.left ≤ 0 → (younger : ℕ) → younger ≡ get_or next (get_or m.oldest r 0) 0
      → (stays : Bool) → stays ≡ (ltb younger 1024 && ltb (get_or keys younger 0 / 32) (m.tick + 1)) → (waiting : ℕ)
      → waiting ≡ pick stays (bit_or m.waiting releases) (bit_or m.waiting releases - 2 ^ r)
      → Then (record { tick = m.tick + 1; waiting = waiting; oldest = set m.oldest r younger; ahead = m.ahead; job = get_or m.oldest r 0; left = get_or durations (get_or m.oldest r 0) 0 - 1 })
  ready_starts r low nothing younger e stays f waiting g =
      let i = get_or m.oldest r 0 in
      let there = ready_oldest r low in
      let after = so.laid.next_at i there in
      let same : stays ≡ (ltb younger 1024 && ltb (record_joins so.script younger) (suc m.tick)) =
      f ∙ ap (λ (t : ℕ). ltb younger 1024 && ltb (get_or keys younger 0 / 32) t) (add-one m.tick) ∙ joined_by_key so.legal_run so.laid.held younger (suc m.tick) (λ h. rw e (after.there (omega arith))) in
      subst (λ (w : ℕ). Then (record { tick = m.tick + 1; waiting = w; oldest = set m.oldest r younger; ahead = m.ahead; job = i; left = get_or durations i 0 - 1 })) (sym g)
      (subst (λ (t : ℕ). Then (record { tick = t; waiting = pick stays (bit_or m.waiting releases) (bit_or m.waiting releases - 2 ^ r); oldest = set m.oldest r younger; ahead = m.ahead; job = i; left = get_or durations i 0 - 1 })) (sym (add-one m.tick))
      (starts_so so.legal_run so.partition m so.follows releases so.due r low (omega arith) younger (get_or durations i 0 - 1) stays (rw e after) (ap (λ (x : ℕ). x - 1) (so.laid.held.duration i there)) same))
