-- The six bytes of a record as one number, and its fields cut from that number.
use mathlib.Core.Path.{◌≡◌, refl, sym, ap, ◌∙◌}
use mathlib.Core.List.{List, [], ◌∷◌}
use Prim.Native.Nat.{ℕ, ◌+◌, ◌*◌, ◌/◌, ◌%◌, ◌^◌, ◌<◌}
use native.Mathlib.Nat.{add-zero, zero-add, add_assoc}
use native.Mathlib.Omega.{arith}
use lib.ListN.{get_or}
use Rattle.bits.specs.Field.{field}
use Rattle.bits.proofs.Field.{field_none, field_lt, field_add, field-within, field_bytes_more}
use Rattle.bits.specs.Layout.{Layout, bits_in, numbers_at}
use Rattle.model.specs.Layouts.{release_record, script_length}
use Rattle.script.specs.declared.ReleaseTaken.{ReleaseTaken}
use Rattle.script.specs.Script.{release_fields, release_at, spare_at}
use Rattle.script.specs.Judged.{TakesRelease}

pub three_bytes_are : (s : List ℕ) (from : ℕ) → get_or s from 0 < 256 → get_or s (from + 1) 0 < 256 → get_or s (from + 2) 0 < 256
    → get_or s from 0 * 65_536 + get_or s (from + 1) 0 * 256 + get_or s (from + 2) 0 ≡ field s (8 * from) 24
three_bytes_are s from a b c =
    let from0 : get_or s (from + 0) 0 ≡ get_or s from 0 = rw add-zero in
    let one = field_bytes_more s from 0 (omega arith) in
    let two = field_bytes_more s from 1 b in
    let three = field_bytes_more s from 2 c in
    omega (arith, field_none s (8 * from))

-- a record's one number, cut into its fields
abbrev pub cut_by : Layout → ℕ → List ℕ
cut_by [] number = []
cut_by (width ∷ layout) number = (number / 2 ^ bits_in layout % 2 ^ width) ∷ cut_by layout number

-- the same from behind so many bits on
cut_behind : (s : List ℕ) (layout : Layout) (at front : ℕ) → numbers_at s (at + front) layout ≡ cut_by layout (field s at (front + bits_in layout))
unfolding numbers_at
cut_behind s [] at front = refl
cut_behind s (width ∷ layout) at front =
    let k = bits_in layout in
    let e : front + (width + k) ≡ front + width + k = sym (add_assoc front width k) in
    let tail : numbers_at s (at + front + width) layout ≡ cut_by layout (field s at (front + width + k)) =
    ap (λ (x : ℕ). numbers_at s x layout) (add_assoc at front width) ∙ cut_behind s layout at (front + width) in
    rw (e, field-within s at front width k, tail)

cut_at : (s : List ℕ) (at : ℕ) (layout : Layout) (number : ℕ) → number ≡ field s at (bits_in layout) → numbers_at s at layout ≡ cut_by layout number
cut_at s at layout number e =
    ap (λ (x : ℕ). numbers_at s x layout) (sym (add-zero at)) ∙ cut_behind s layout at 0 ∙ ap (λ (n : ℕ). cut_by layout (field s at n)) (zero-add (bits_in layout)) ∙ rw e

-- two threes of bytes are one record
pub six_bytes_are : (s : List ℕ) (from high low : ℕ) → high ≡ field s (8 * from) 24 → low ≡ field s (8 * (from + 3)) 24 → high * 16_777_216 + low ≡ field s (8 * from) 48
six_bytes_are s from high low h l =
    let at : 8 * (from + 3) ≡ 8 * from + 24 = omega arith in
    let e = field_add s (8 * from) 24 24 in
    omega (arith, ap (λ (x : ℕ). field s x 24) at)

-- "tick 20, task 5, length 20, spare 3", cut from the record's number
pub taken_from : (s : List ℕ) (i number : ℕ) → number ≡ field s (8 * script_length 1 i) 48 → (taken : ReleaseTaken)
    → taken.key ≡ number / 8_388_608 → taken.duration ≡ number / 8 % 1_048_576 → taken.spare ≡ number % 8 → TakesRelease s i taken
unfolding release_fields
taken_from s i number e taken key duration spare =
    let cut = cut_at s (8 * script_length 1 i) (release_record 1) number e in
    let small : number < 281_474_976_710_656 = rw e (field_lt s (8 * script_length 1 i) 48) in
    let tick : (release_at s i).tick ≡ number / 268_435_456 % 1_048_576 = ap (λ (xs : List ℕ). get_or xs 0 0) cut in
    let task : (release_at s i).task ≡ number / 8_388_608 % 32 = ap (λ (xs : List ℕ). get_or xs 1 0) cut in
    let length : (release_at s i).duration ≡ number / 8 % 1_048_576 = ap (λ (xs : List ℕ). get_or xs 2 0) cut in
    let rest : spare_at s i ≡ number / 1 % 8 = ap (λ (xs : List ℕ). get_or xs 3 0) cut in
    record { key_is = omega arith; duration_is = omega arith; spare_is = omega arith }
