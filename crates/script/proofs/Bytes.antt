-- The bytes of an accepted script, and how short it is.
use mathlib.Core.Path.{◌≡◌, refl, sym, ap, ◌∙◌}
use mathlib.Core.List.{List}
use Prim.Native.Nat.{ℕ, ◌+◌, ◌*◌, ◌<◌}
use native.Mathlib.Omega.{arith}
use lib.ListN.{take, drop}
use lib.Seq.{take_all}
use Rattle.laws.proofs.Joined.{joined_same, joined_parts}
use Rattle.bits.specs.Layout.{Bytes, record_bytes, numbers_at}
use Rattle.bits.proofs.Records.{writes_back}
use Rattle.model.specs.declared.order.Order.{Order}
use Rattle.model.specs.Layouts.{release_record, script_length}
use Rattle.machine.specs.Pattern.{record_of}
use Rattle.finish.specs.Claims.{Short}
use Rattle.script.specs.Script.{release_numbers, release_bytes, script_bytes, release_fields, records_in, script_of}
use Rattle.script.specs.Claims.{ScriptAccepted, ScriptBytes}
use Rattle.script.proofs.Records.{script_length_lem, script_record, tick_small, duration_small}

module _ (o : Order) (s : List ℕ) (places : ℕ) (accepted : ScriptAccepted o s places) where
  numbers_are : (i : ℕ) → i < records_in s → release_numbers (record_of (script_of s) i) 0 ≡ numbers_at s (8 * script_length 1 i) (release_record 1)
  unfolding release_fields numbers_at
  numbers_are i l = rw (script_record s i l, ← accepted.spares i l)

  record_bytes_lem : Bytes s → (i : ℕ) → i < records_in s → take 6 (drop (0 + 6 * i) s) ≡ release_bytes (record_of (script_of s) i)
  record_bytes_lem all i l =
      let whole = accepted.whole in
      let at : 0 + 6 * i ≡ 6 * i = omega arith in
      rw at (sym (ap (record_bytes (release_record 1)) (numbers_are i l) ∙ writes_back s (6 * i) 6 (release_record 1) all refl (omega arith)))

  pub script_bytes_are : Bytes s → s ≡ script_bytes (script_of s)
  unfolding script_bytes
  script_bytes_are all =
      rw (script_length_lem s) (
      sym (take_all (6 * records_in s) s (omega (arith, accepted.whole)))
      ∙ (sym (joined_parts s 0 6 (records_in s)) ∙ joined_same _ _ (records_in s) (record_bytes_lem all)))

  pub accepted_short : Short (script_of s)
  accepted_short =
      record {
        few = omega (arith, script_length_lem s, accepted.few);
        early = λ i l. (let m : i < records_in s = omega (arith, script_length_lem s) in rw (script_record s i m) (tick_small s i));
        brief = λ i l. (let m : i < records_in s = omega (arith, script_length_lem s) in rw (script_record s i m) (duration_small s i));
      }

pub script_bytes_lem : ScriptBytes
script_bytes_lem o s places all accepted = script_bytes_are o s places accepted all
