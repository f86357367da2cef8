-- What judging a script gives: a refusal holds no numbers, and the numbers of all records are the script's.
use Rattle.std.specs.Prelude.{Err}
use Prim.Native.Nat.{ℕ, ◌≤◌}
use mathlib.Core.Path.{◌≡◌, sym, ap, ◌∙◌}
use mathlib.Core.List.{List}
use native.Mathlib.Omega.{arith}
use Rattle.model.specs.declared.order.Order.{Order}
use Rattle.model.specs.declared.build.Release.{Release}
use Rattle.model.specs.declared.answer.Refusal.{Refusal}
use Rattle.model.specs.Limits.{most_records}
use Rattle.model.specs.Rules.{first_broken}
use Rattle.model.proofs.Rules.{never}
use Rattle.script.specs.Script.{records_in, script_of, script_rules}
use Rattle.script.specs.Held.{Held}
use Rattle.script.specs.Judged.{release_key, HeldBelow, JudgesScript}
use Rattle.script.proofs.Records.{script_length_lem, script_record}

pub refused : {o : Order} {s : List ℕ} {places : ℕ} {keys durations : List ℕ} {refusal : Refusal}
    → first_broken (records_in s) (script_rules o s places) ≡ Err refusal → JudgesScript o s places keys durations (Err refusal)
refused e = record { answer_is = sym e; numbers_held = λ count d. never d }

pub held_all : (s keys durations : List ℕ) → records_in s ≤ most_records → HeldBelow s (records_in s) keys durations → Held (script_of s) keys durations
held_all s keys durations few held =
    record {
      sizes = held.sizes;
      few = omega (arith, script_length_lem s);
      key = λ i l. held.keys_are i (omega (arith, script_length_lem s)) ∙ ap release_key (sym (script_record s i (omega (arith, script_length_lem s))));
      duration = λ i l. held.durations_are i (omega (arith, script_length_lem s)) ∙ ap (λ (r : Release). r.duration) (sym (script_record s i (omega (arith, script_length_lem s))));
    }
