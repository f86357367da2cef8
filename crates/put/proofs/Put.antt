-- Laws of bytes put into the output: one, digits from the last to the first, one part behind another, and all from the front.
use mathlib.Core.Path.{◌≡◌, refl, sym, ap, ◌∙◌}
use mathlib.Core.List.{List, [], ◌∷◌, ◌++◌, append_assoc}
use Prim.Native.Nat.{ℕ, zero, suc, ◌+◌, ◌-◌, ◌/◌, ◌%◌, ◌^◌, ◌≤◌, ◌<◌}
use native.Mathlib.Nat.{add-zero, add_assoc, zero-add, sub-zero, div-one, div-div-eq-div-mul, pow-suc}
use native.Mathlib.Numerals.{add-one}
use native.Mathlib.Omega.{arith}
use lib.ListN.{length, get_or, set, take, drop, length-append, length-take, length-drop, take-append-drop}
use lib.Seq.{set_split, set_at, take-suc, take_at, drop_at, drop-drop, append_snoc, length-take-le}
use Rattle.laws.specs.Joined.{joined}
use Rattle.laws.proofs.Joined.{joined_none, joined_more, joined_at}
use Rattle.form.specs.Written.{digit_for, last_digits}
use Rattle.form.proofs.Written.{length-last_digits, last_digits_first}
use Rattle.put.specs.Put.{put_at, HasRoom, PutsAt}

pub length-put : (at : ℕ) (bytes output : List ℕ) → at + length bytes ≤ length output → length (put_at at bytes output) ≡ length output
unfolding put_at
length-put at bytes output room = simp (length-append, length-take, length-drop) (omega arith)

-- nothing put yet
pub put_none : (at : ℕ) (output : List ℕ) → put_at at [] output ≡ output
unfolding put_at
put_none at output = rw (add-zero, take-append-drop)

pub put_one : (at byte : ℕ) (output : List ℕ) → at < length output → set output at byte ≡ put_at at (byte ∷ []) output
unfolding put_at
put_one at byte output below = rw add-one (set_split output at byte below)

-- the front
pub put_front : (bytes output : List ℕ) → put_at 0 bytes output ≡ bytes ++ drop (length bytes) output
unfolding put_at
put_front bytes output = rw zero-add

-- one part behind another
pub put_two : (at : ℕ) (a b output : List ℕ) → at + length a ≤ length output → put_at (at + length a) b (put_at at a output) ≡ put_at at (a ++ b) output
unfolding put_at
put_two at a b output room =
    let front = take at output ++ a in
    let size : length front ≡ at + length a = length-append (take at output) a ∙ ap (◌+ length a) (length-take-le at output (omega arith)) in
    let whole : take at output ++ (a ++ drop (at + length a) output) ≡ front ++ drop (at + length a) output = sym (append_assoc (take at output) a (drop (at + length a) output)) in
    rw (whole, take_at front (drop (at + length a) output) (at + length a) size, ← drop-drop (length b) (at + length a) (front ++ drop (at + length a) output), drop_at front (drop (at + length a) output) (at + length a) size, drop-drop, length-append, add_assoc) (simp append_assoc)

module _ {at : ℕ} {a output : List ℕ} (b : List ℕ) (room : HasRoom at (a ++ b) output) where
  -- the first part has its room
  pub room_first : HasRoom at a output
  room_first = record { fits = omega (arith, room.fits, length-append a b) }

  module _ {next : ℕ} {middle : List ℕ} (first : PutsAt at a output next middle) where
    -- and then the next
    pub room_next : HasRoom next b middle
    room_next =
        let fits = room_first.fits in
        let same : length middle ≡ length output = ap length first.written ∙ length-put at a output fits in
        record { fits = omega (arith, room.fits, first.next_at, length-append a b) }

    pub puts_two : {after : List ℕ} {end : ℕ} → PutsAt next b middle end after → PutsAt at (a ++ b) output end after
    puts_two second =
        record {
          written = second.written ∙ rw (first.next_at, first.written) (put_two at a b output room_first.fits);
          next_at = omega (arith, first.next_at, second.next_at, length-append a b);
        }

-- parts put one behind another, from the front
pub parts_none : (f : ℕ → List ℕ) (output : List ℕ) → PutsAt 0 (joined f 0) output 0 output
parts_none f output = rw joined_none (record { written = sym (put_none 0 output); next_at = refl })

module _ (f : ℕ → List ℕ) (n : ℕ) (output : List ℕ) (room : HasRoom 0 (joined f n) output) where
  module _ (i : ℕ) (below : i < n) where
    up_to : HasRoom 0 (joined f i ++ f i) output
    up_to =
        let r = joined_at f n i below in
        room_first r.0 (rw (r.1, ← append_assoc (joined f i) (f i) r.0) at room)

    module _ {at : ℕ} {middle : List ℕ} (before : PutsAt 0 (joined f i) output at middle) where
      pub part_room : HasRoom at (f i) middle
      part_room = room_next (f i) up_to before

      pub parts_more : {next : ℕ} {after : List ℕ} → PutsAt at (f i) middle next after → PutsAt 0 (joined f (i + 1)) output next after
      parts_more put = rw joined_more (puts_two (f i) up_to before put)

-- one byte put before those that are put
pub put_before : (at byte : ℕ) (bytes output : List ℕ) → at < length output → set (put_at (suc at) bytes output) at byte ≡ put_at at (byte ∷ bytes) output
unfolding put_at
put_before at byte bytes output below =
    let e : at + suc (length bytes) ≡ suc at + length bytes = omega arith in
    rw (e, take-suc output at 0 below, append_snoc, set_at (take at output) (get_or output at 0) (bytes ++ drop (suc at + length bytes) output) byte at (length-take-le at output (omega arith)))

-- digits put from the last to the first: what the output holds, and what is left of the number, before digit i
abbrev pub DigitsFrom : (at digits number : ℕ) → List ℕ → List ℕ → (left i : ℕ) → Type 0
DigitsFrom at digits number output₀ output left i =
    (left ≡ number / 10 ^ (digits - i)) × (output ≡ put_at (at + i) (last_digits (digits - i) number) output₀)

module _ (at digits number : ℕ) (output : List ℕ) (room : at + digits ≤ length output) where
  pub digits_none : DigitsFrom at digits number output output number digits
  unfolding last_digits
  digits_none = let e : digits - digits ≡ 0 = omega arith in (rw (e, div-one), rw (e, put_none))

  pub digits_more : (now : List ℕ) (left i : ℕ) → 0 < i → i ≤ digits → DigitsFrom at digits number output now left i →
      DigitsFrom at digits number output (set now (at + (i - 1)) (digit_for (left % 10))) (left / 10) (i - 1)
  digits_more now left zero some fits put = absurd (omega arith)
  digits_more now left (suc i) some fits put =
      let k : suc i - 1 ≡ i = omega arith in
      let n : digits - i ≡ suc (digits - suc i) = omega arith in
      let s : at + suc i ≡ suc (at + i) = omega arith in (
        rw (k, n, put.0, pow-suc) (div-div-eq-div-mul number (10 ^ (digits - suc i)) 10),
        rw (k, n, put.1, s, put_before (at + i) (digit_for (left % 10)) (last_digits (digits - suc i) number) output (omega arith), put.0, last_digits_first (digits - suc i) number),
      )

  pub digits_all : (now : List ℕ) (left i : ℕ) → i ≤ 0 → DigitsFrom at digits number output now left i → PutsAt at (last_digits digits number) output (at + digits) now
  digits_all now left i end put =
      let z : i ≡ 0 = omega arith in
      record {
        written = put.1 ∙ rw (z, sub-zero, add-zero);
        next_at = rw length-last_digits;
      }
