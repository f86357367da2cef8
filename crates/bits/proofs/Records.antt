-- Laws of fields written: lengths, a number's first byte, what reading gives back, and what writing what was read gives back.
use mathlib.Core.Path.{◌≡◌, refl, sym, ap, ◌∙◌}
use mathlib.Core.List.{List, [], ◌∷◌, ◌++◌, append_assoc, append-nil}
use Prim.Native.Nat.{ℕ, zero, suc, ◌+◌, ◌-◌, ◌*◌, ◌/◌, ◌%◌, ◌^◌, ◌≤◌, ◌<◌}
use native.Mathlib.Nat.{add-zero, add-suc, zero-add, sub-zero, add-mul, mul_assoc, mul_comm, mul-le-mul_right, div-one, div-div-eq-div-mul, pow-suc}
use native.Mathlib.Numerals.{add-one}
use native.Mathlib.Omega.{arith}
use lib.ListN.{length, get_or, set, take, drop, length-append, length-drop, take-append-drop}
use lib.Seq.{get_or_at, get_or-drop, take-suc, set_at, append_snoc, length-take-le}
use lib.Arith.{digits_div}
use lib.Pow.{pow-add, high, low}
use Rattle.bits.specs.Field.{field}
use Rattle.bits.specs.Layout.{packed, Layout, bits_in, bytes_in, number_in, record_bytes, FitIn, numbers_at, Bytes}
use Rattle.bits.proofs.Field.{field_none, field_lt, field_add, field-drop, field-append, field_bytes_more}

pub length-packed : (count number : ℕ) → length (packed count number) ≡ count
unfolding packed
length-packed zero number = refl
length-packed (suc count) number = rw (length-append, length-packed count (number / 256), add-one)

pub length_record : (layout : Layout) (numbers : List ℕ) → length (record_bytes layout numbers) ≡ bytes_in layout
unfolding record_bytes
length_record layout numbers = length-packed (bytes_in layout) (number_in layout numbers)

-- the most significant byte stands first
pub packed_first : (count number : ℕ) → packed (suc count) number ≡ (number / 256 ^ count % 256) ∷ packed count number
unfolding packed
packed_first zero number = rw div-one
packed_first (suc count) number =
    let e : number / 256 / 256 ^ count ≡ number / 256 ^ suc count = div-div-eq-div-mul number 256 (256 ^ count) ∙ ap (λ (x : ℕ). number / x) (mul_comm 256 (256 ^ count) ∙ sym (pow-suc 256 count)) in
    rw (packed_first count (number / 256), e)

-- what stands above the bytes is not seen
packed_low : (count high low : ℕ) → packed count (high * 256 ^ count + low) ≡ packed count low
unfolding packed
packed_low zero high low = refl
packed_low (suc count) high low =
    let e : high * 256 ^ suc count ≡ high * 256 ^ count * 256 = ap (high *◌) (pow-suc 256 count) ∙ sym (mul_assoc high (256 ^ count) 256) in
    let q : (high * 256 ^ suc count + low) / 256 ≡ high * 256 ^ count + low / 256 = rw e (omega arith) in
    let r : (high * 256 ^ suc count + low) % 256 ≡ low % 256 = rw e (omega arith) in
    rw (q, r, packed_low count high (low / 256))

packed_add : (a b number : ℕ) → packed (a + b) number ≡ packed a (number / 256 ^ b) ++ packed b number
unfolding packed
packed_add a zero number = rw (add-zero, div-one, append-nil)
packed_add a (suc b) number =
    let e : number / 256 / 256 ^ b ≡ number / 256 ^ suc b = div-div-eq-div-mul number 256 (256 ^ b) ∙ ap (λ (x : ℕ). number / x) (mul_comm 256 (256 ^ b) ∙ sym (pow-suc 256 b)) in
    rw (add-suc, packed, packed_add a b (number / 256), e, append_assoc)

-- a number in two parts
pub packed_two : (a b high low : ℕ) → low < 256 ^ b → packed (a + b) (high * 256 ^ b + low) ≡ packed a high ++ packed b low
packed_two a b high low small =
    let q : (high * 256 ^ b + low) / 256 ^ b ≡ high = digits_div high small in
    packed_add a b (high * 256 ^ b + low) ∙ rw (q, packed_low b high low)

-- the bytes of a number, read as one field
pub field-packed : (count number : ℕ) → number < 256 ^ count → field (packed count number) 0 (8 * count) ≡ number
unfolding packed
field-packed zero number h = field_none [] 0 ∙ omega arith
field-packed (suc count) number h =
    let q : number < 256 ^ count * 256 = rw pow-suc at h in
    let front = packed count (number / 256) in
    let byte = number % 256 in
    let l : length front ≡ count = length-packed count (number / 256) in
    let b : get_or (front ++ (byte ∷ [])) (0 + count) 0 ≡ byte = rw zero-add (get_or_at front byte [] 0 count l) in
    let i : field (front ++ (byte ∷ [])) (8 * 0) (8 * count) ≡ number / 256 =
    field-append front (byte ∷ []) 0 (8 * count) (omega arith) ∙ field-packed count (number / 256) (omega arith) in
    ap (λ (n : ℕ). field (front ++ (byte ∷ [])) 0 (8 * n)) (sym (add-one count))
    ∙ field_bytes_more (front ++ (byte ∷ [])) 0 count (omega arith) ∙ rw (i, b) (omega arith)

byte_power : (count : ℕ) → 2 ^ (8 * count) ≡ 256 ^ count
byte_power zero = refl
byte_power (suc count) = let e : 8 * suc count ≡ 8 * count + 8 = omega arith in rw (e, pow-add 2 (8 * count) 8, byte_power count, pow-suc 256 count)

pub number_lt : (layout : Layout) (numbers : List ℕ) → FitIn layout numbers → number_in layout numbers < 2 ^ bits_in layout
number_lt [] [] fit = omega arith
number_lt [] (x ∷ numbers) fit = absurd fit
number_lt (width ∷ layout) [] fit = absurd fit
number_lt (width ∷ layout) (x ∷ numbers) fit =
    let rest = number_lt layout numbers fit.1 in
    let more = mul-le-mul_right (2 ^ bits_in layout) fit.0 in
    rw pow-add (omega (arith, more, add-mul x 1 (2 ^ bits_in layout)))

-- two numbers in two parts each: equal parts
parts_same : (k a b c d : ℕ) → b < 2 ^ k → d < 2 ^ k → a * 2 ^ k + b ≡ c * 2 ^ k + d → (a ≡ c) × (b ≡ d)
parts_same k a b c d small few e =
    let high_same : a ≡ c = sym (high a k small) ∙ (ap (λ (x : ℕ). x / 2 ^ k) e ∙ high c k few) in
    (high_same, omega (arith, ap (λ (x : ℕ). x * 2 ^ k) high_same))

-- a record whose bits as one number are those numbers' holds those numbers
pub numbers_are : (s : List ℕ) (layout : Layout) (at : ℕ) (numbers : List ℕ) → FitIn layout numbers → field s at (bits_in layout) ≡ number_in layout numbers → numbers_at s at layout ≡ numbers
unfolding numbers_at
numbers_are s [] at [] fit e = refl
numbers_are s [] at (x ∷ numbers) fit e = absurd fit
numbers_are s (width ∷ layout) at [] fit e = absurd fit
numbers_are s (width ∷ layout) at (x ∷ numbers) fit e =
    let k = bits_in layout in
    let p = parts_same k (field s at width) (field s (at + width) k) x (number_in layout numbers) (field_lt s (at + width) k) (number_lt layout numbers fit.1) (sym (field_add s at width k) ∙ e) in
    rw (p.0, numbers_are s layout (at + width) numbers fit.1 p.1)

-- what is written reads back, wherever it stands behind whole bytes
pub reads_back : (s : List ℕ) (behind count : ℕ) (layout : Layout) (numbers rest : List ℕ) → bits_in layout ≡ 8 * count → FitIn layout numbers → drop behind s ≡ record_bytes layout numbers ++ rest →
    numbers_at s (8 * behind) layout ≡ numbers
unfolding record_bytes
reads_back s behind count layout numbers rest whole fit stands =
    let N = number_in layout numbers in
    let size : bytes_in layout ≡ count = omega arith in
    let small : N < 256 ^ count = rw (← byte_power count, ← whole) (number_lt layout numbers fit) in
    let at : 8 * behind ≡ 8 * behind + 0 = sym (add-zero _) in
    let room : 0 + 8 * count ≤ 8 * length (packed count N) = rw (length-packed count N) (omega arith) in
    numbers_are s layout (8 * behind) numbers fit
    (rw whole (ap (λ (x : ℕ). field s x (8 * count)) at ∙ field-drop s behind 0 (8 * count)
    ∙ ap (λ (t : List ℕ). field t 0 (8 * count)) (stands ∙ ap (λ (x : ℕ). packed x N ++ rest) size)
    ∙ field-append (packed count N) rest 0 (8 * count) room ∙ field-packed count N small))

-- the numbers in a record, as one number
pub number_at : (s : List ℕ) (at : ℕ) (layout : Layout) → number_in layout (numbers_at s at layout) ≡ field s at (bits_in layout)
unfolding numbers_at
number_at s at [] = sym (field_none s at)
number_at s at (width ∷ layout) = rw (number_at s (at + width) layout) (sym (field_add s at width _))

-- each number that is read fits its field
pub fit_at : (s : List ℕ) (at : ℕ) (layout : Layout) → FitIn layout (numbers_at s at layout)
unfolding numbers_at
fit_at s at [] = tt
fit_at s at (width ∷ layout) = (field_lt s at width, fit_at s (at + width) layout)

pub bytes_at : (s : List ℕ) (i : ℕ) → Bytes s → get_or s i 0 < 256
unfolding Bytes
bytes_at [] i all = omega arith
bytes_at (b ∷ s) zero all = all.0
bytes_at (b ∷ s) (suc i) all = bytes_at s i all.1

-- whole bytes, read as one number and written again
pub packed-field : (s : List ℕ) (from count : ℕ) → Bytes s → from + count ≤ length s → packed count (field s (8 * from) (8 * count)) ≡ take count (drop from s)
unfolding packed
packed-field s from zero all fits = refl
packed-field s from (suc count) all fits =
    let b = get_or s (from + count) 0 in
    let F = field s (8 * from) (8 * count) in
    let small : b < 256 = bytes_at s (from + count) all in
    let e : field s (8 * from) (8 * suc count) ≡ F * 256 + b = ap (λ (n : ℕ). field s (8 * from) (8 * n)) (sym (add-one count)) ∙ field_bytes_more s from count small in
    let q : (F * 256 + b) / 256 ≡ F = omega arith in
    let r : (F * 256 + b) % 256 ≡ b = omega arith in
    rw (e, q, r, packed-field s from count all (omega arith), take-suc (drop from s) count 0 (simp length-drop (omega arith)), get_or-drop)

-- writing what was read gives the bytes
pub writes_back : (s : List ℕ) (from count : ℕ) (layout : Layout) → Bytes s → bits_in layout ≡ 8 * count → from + count ≤ length s → record_bytes layout (numbers_at s (8 * from) layout) ≡ take count (drop from s)
unfolding record_bytes
writes_back s from count layout all whole fits =
    let size : bytes_in layout ≡ count = omega arith in
    rw (size, number_at s (8 * from) layout, whole) (packed-field s from count all fits)

-- a number's bytes written from the last to the first: what the output holds, and what is left of the number, before byte i
abbrev pub WrittenFrom : List ℕ → ℕ → ℕ → List ℕ → ℕ → ℕ → Type 0
WrittenFrom output₀ count number output left i =
    (left ≡ number / 256 ^ (count - i)) × (output ≡ take i output₀ ++ (packed (count - i) number ++ drop count output₀))

module _ (output : List ℕ) (count number : ℕ) (room : count ≤ length output) where
  pub written_none : WrittenFrom output count number output number count
  unfolding packed
  written_none = let e : count - count ≡ 0 = omega arith in (rw (e, div-one), rw (e, take-append-drop))

  pub written_more : (now : List ℕ) (left i : ℕ) → 0 < i → i ≤ count → WrittenFrom output count number now left i →
      WrittenFrom output count number (set now (i - 1) (left % 256)) (left / 256) (i - 1)
  written_more now left zero some fits w = absurd (omega arith)
  written_more now left (suc i) some fits w =
      let k : suc i - 1 ≡ i = omega arith in
      let n : count - i ≡ suc (count - suc i) = omega arith in
      let t : take (suc i) output ≡ take i output ++ (get_or output i 0 ∷ []) = take-suc output i 0 (omega arith) in
      let l : length (take i output) ≡ i = length-take-le i output (omega arith) in (
        rw (k, n, w.0, pow-suc) (div-div-eq-div-mul number (256 ^ (count - suc i)) 256),
        rw (k, n, w.1, t, append_snoc, set_at (take i output) (get_or output i 0) _ (left % 256) i l, packed_first (count - suc i) number, w.0),
      )

  pub written_all : (now : List ℕ) (left i : ℕ) → i ≤ 0 → WrittenFrom output count number now left i → now ≡ packed count number ++ drop count output
  written_all now left i end w = let z : i ≡ 0 = omega arith in w.1 ∙ rw (z, sub-zero)
