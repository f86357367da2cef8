-- Laws of `field`: its bound, its parts, whole bytes in front of it, bytes behind it, and whole bytes read.
use mathlib.Core.Path.{◌≡◌, refl, sym, ap, ◌∙◌}
use mathlib.Core.List.{List, ◌++◌}
use Prim.Native.Nat.{ℕ, zero, suc, ◌+◌, ◌-◌, ◌*◌, ◌/◌, ◌%◌, ◌^◌, ◌≤◌, ◌<◌}
use native.Mathlib.Nat.{add-suc, add-zero, add_assoc, mul_assoc, mod-one, pow-suc, pow-zero, lt_of_lt_of_le}
use native.Mathlib.Numerals.{add-one}
use native.Mathlib.Omega.{arith}
use lib.ListN.{length, get_or, drop, get_or-append}
use lib.Seq.{get_or-drop}
use lib.Pow.{pow_mono, mod-pow-add, shr-shr, high, low}
use Rattle.bits.specs.Field.{bit_at, field}

pub bit_at_lt : (s : List ℕ) (k : ℕ) → bit_at s k < 2
unfolding bit_at
bit_at_lt s k = omega arith

pub field_none : (s : List ℕ) (at : ℕ) → field s at 0 ≡ 0
unfolding field
field_none s at = refl

pub field_lt : (s : List ℕ) (at width : ℕ) → field s at width < 2 ^ width
unfolding field
field_lt s at zero = omega arith
field_lt s at (suc width) = rw pow-suc (omega (arith, field_lt s at width, bit_at_lt s (at + width)))

-- the same, under a bound on the width
pub field_under : (s : List ℕ) (at width most : ℕ) → width ≤ most → field s at width < 2 ^ most
field_under s at width most h = lt_of_lt_of_le (field_lt s at width) (pow_mono {j = most} h)

-- the first a bits, then the next b
pub field_add : (s : List ℕ) (at a b : ℕ) → field s at (a + b) ≡ field s at a * 2 ^ b + field s (at + a) b
unfolding field
field_add s at a zero = rw (add-zero, pow-zero) (omega arith)
field_add s at a (suc b) = rw (add-suc, pow-suc, field_add s at a b, ← mul_assoc) (omega (arith, ap (bit_at s) (add_assoc at a b)))

-- the bits from at on, out of those from before it to past it
pub field-within : (s : List ℕ) (at front width past : ℕ) →
    field s (at + front) width ≡ field s at (front + width + past) / 2 ^ past % 2 ^ width
field-within s at front width past =
    let whole : field s at (front + width + past) / 2 ^ past ≡ field s at (front + width) =
    rw (field_add s at (front + width) past) (high (field s at (front + width)) past (field_lt s (at + (front + width)) past)) in
    rw (whole, field_add s at front width) (sym (low (field s at front) width (field_lt s (at + front) width)))

-- the same, out of the whole bytes around it
pub field_around : (s : List ℕ) (at width from count past : ℕ) → 8 * from ≤ at → 8 * (from + count) ≡ at + width + past →
    field s at width ≡ field s (8 * from) (8 * count) / 2 ^ past % 2 ^ width
field_around s at width from count past before whole =
    let front = at - 8 * from in
    let e : at ≡ 8 * from + front = omega arith in
    let n : 8 * count ≡ front + width + past = omega arith in
    ap (λ (x : ℕ). field s x width) e ∙ field-within s (8 * from) front width past ∙ rw n

-- whole bytes in front are dropped
pub bit_at-drop : (s : List ℕ) (p k : ℕ) → bit_at s (8 * p + k) ≡ bit_at (drop p s) k
unfolding bit_at
bit_at-drop s p k =
    let q : (8 * p + k) / 8 ≡ p + k / 8 = omega arith in
    let r : (8 * p + k) % 8 ≡ k % 8 = omega arith in
    simp (q, r, get_or-drop)

pub field-drop : (s : List ℕ) (p at width : ℕ) → field s (8 * p + at) width ≡ field (drop p s) at width
unfolding field
field-drop s p at zero = refl
field-drop s p at (suc width) = rw (field-drop s p at width, add_assoc, bit_at-drop)

-- a field that stands within the first byte
field_byte : (s : List ℕ) (j width : ℕ) → j + width ≤ 8 → field s j width ≡ get_or s 0 0 / 2 ^ (8 - (j + width)) % 2 ^ width
unfolding field bit_at
field_byte s j zero h = rw pow-zero (sym (mod-one _))
field_byte s j (suc width) h =
    let q : (j + width) / 8 ≡ 0 = omega arith in
    let r : (j + width) % 8 ≡ j + width = omega arith in
    let e : 8 - (j + width) ≡ 7 - (j + width) + 1 = omega arith in
    let f : 8 - (j + suc width) ≡ 7 - (j + width) = omega arith in
    rw (field_byte s j width (omega arith), q, r, e, f, ← add-one width, ← shr-shr (get_or s 0 0) (7 - (j + width)) 1) (sym (mod-pow-add (get_or s 0 0 / 2 ^ (7 - (j + width))) width 1))

-- one byte more
pub field_bytes_more : (s : List ℕ) (from i : ℕ) → get_or s (from + i) 0 < 256 →
    field s (8 * from) (8 * (i + 1)) ≡ field s (8 * from) (8 * i) * 256 + get_or s (from + i) 0
field_bytes_more s from i h =
    let n : 8 * (i + 1) ≡ 8 * i + 8 = omega arith in
    let at : 8 * from + 8 * i ≡ 8 * (from + i) + 0 = omega arith in
    let last : field s (8 * from + 8 * i) 8 ≡ get_or s (from + i) 0 =
    rw (at, field-drop s (from + i) 0 8, field_byte (drop (from + i) s) 0 8 (omega arith), get_or-drop, add-zero) (omega arith) in
    rw (n, field_add s (8 * from) (8 * i) 8, last)

-- what stands behind a list does not change its fields
bit_at-append : (s t : List ℕ) (k : ℕ) → k < 8 * length s → bit_at (s ++ t) k ≡ bit_at s k
unfolding bit_at
bit_at-append s t k h = simp (get_or-append s t 0 (k / 8) (omega arith))

pub field-append : (s t : List ℕ) (at width : ℕ) → at + width ≤ 8 * length s → field (s ++ t) at width ≡ field s at width
unfolding field
field-append s t at zero h = refl
field-append s t at (suc width) h = rw (field-append s t at width (omega arith), bit_at-append s t (at + width) (omega arith))
