-- A script's bytes, record by record, and that they read back as the script.
use mathlib.Core.Path.{◌≡◌, refl, ap, ◌∙◌}
use mathlib.Core.List.{List, [], ◌∷◌, ◌++◌}
use Prim.Native.Nat.{ℕ, ◌+◌, ◌*◌, ◌<◌}
use native.Mathlib.Omega.{arith}
use lib.ListN.{length, get_or, length-append, get_or-append}
use lib.Seq.{ext_get_or, get_or-append_seam}
use Rattle.laws.specs.Joined.{joined}
use Rattle.laws.proofs.Joined.{joined_more, joined_same, length-joined, drop-joined}
use Rattle.bits.specs.Layout.{FitIn}
use Rattle.bits.proofs.Records.{length_record, reads_back}
use Rattle.model.specs.declared.build.Release.{Release}
use Rattle.model.specs.Layouts.{release_record, script_length}
use Rattle.model.specs.Limits.{zero_release}
use Rattle.machine.specs.Pattern.{record_of}
use Rattle.script.specs.Script.{release_numbers, release_from, release_bytes, script_bytes, release_fields, spare_at, records_in, script_of}
use Rattle.script.proofs.Records.{script_length_lem, script_record}

pub script_bytes_none : script_bytes [] ≡ []
unfolding script_bytes joined
script_bytes_none = refl

-- a script with one record more
pub script_bytes_more : (script : List Release) (r : Release) → script_bytes (script ++ (r ∷ [])) ≡ script_bytes script ++ release_bytes r
unfolding script_bytes
script_bytes_more script r =
    let longer : length (script ++ (r ∷ [])) ≡ length script + 1 = length-append script (r ∷ []) in
    rw (longer, joined_more (λ i. release_bytes (record_of (script ++ (r ∷ [])) i)) (length script), get_or-append_seam script r [] zero_release)
    (ap (◌++ release_bytes r) (joined_same _ _ (length script) (λ i l. ap release_bytes (get_or-append script (r ∷ []) zero_release i l))))

pub bytes_length : (script : List Release) → length (script_bytes script) ≡ script_length 1 (length script)
unfolding script_bytes
bytes_length script = length-joined (λ i. release_bytes (record_of script i)) 6 (length script) (λ i. length_record (release_record 1) _)

pub records_back : (script : List Release) → records_in (script_bytes script) ≡ length script
unfolding records_in
records_back script = rw (bytes_length script) (omega arith)

-- where every record's numbers fit their fields
module _ (script : List Release) (fit : (i : ℕ) → i < length script → FitIn (release_record 1) (release_numbers (record_of script i) 0)) where
  fields_back : (i : ℕ) → i < length script → release_fields (script_bytes script) i ≡ release_numbers (record_of script i) 0
  unfolding release_fields script_bytes
  fields_back i below =
      let r = drop-joined (λ j. release_bytes (record_of script j)) 6 (length script) i (λ j. length_record (release_record 1) _) below in
      reads_back (script_bytes script) (6 * i) 6 (release_record 1) (release_numbers (record_of script i) 0) r.0 refl (fit i below) r.1

  pub script_back : script_of (script_bytes script) ≡ script
  script_back =
      ext_get_or zero_release (script_of (script_bytes script)) script (script_length_lem (script_bytes script) ∙ records_back script)
      (λ i l. let below : i < length script = omega (arith, l, script_length_lem (script_bytes script), records_back script) in
      script_record (script_bytes script) i (omega (arith, records_back script)) ∙ ap release_from (fields_back i below))

  pub spares_back : (i : ℕ) → i < length script → spare_at (script_bytes script) i ≡ 0
  spares_back i below = ap (λ (numbers : List ℕ). get_or numbers 3 0) (fields_back i below)
