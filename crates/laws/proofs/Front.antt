-- The front of a buffer written part by part: what a part `&mut xs[a..]` holds, and the whole once it came back.
use mathlib.Core.Path.{◌≡◌, ap, ◌∙◌}
use mathlib.Core.List.{List, ◌++◌, append_assoc, append-nil}
use Prim.Native.Nat.{ℕ, ◌+◌, ◌-◌}
use native.Mathlib.Omega.{arith}
use lib.ListN.{length, take, drop, length-drop, drop_of_length-le}
use lib.Seq.{take_all, take_at, drop_at, drop-drop}
use borrow.Rule.Slice.PartMut.{put_mid}

pub part_from : (a : ℕ) (xs : List ℕ) → take (length xs - a) (drop a xs) ≡ drop a xs
part_from a xs = take_all (length xs - a) (drop a xs) (omega (arith, length-drop a xs))

pub put_from : (a : ℕ) (xs ys : List ℕ) → put_mid a (length xs - a) xs ys ≡ take a xs ++ ys
put_from a xs ys = rw (drop_of_length-le (drop a xs) {i = length xs - a} (omega (arith, length-drop a xs)), append-nil)

-- the front P of out was written to give xs; then B goes into the front of the rest, which gives ys
pub front_step : (P B out xs ys : List ℕ) (a k : ℕ) → length P ≡ a → xs ≡ P ++ drop a out → ys ≡ B ++ drop k (take (length xs - a) (drop a xs)) →
    put_mid a (length xs - a) xs ys ≡ (P ++ B) ++ drop (a + k) out
front_step P B out xs ys a k e x y =
    let d : drop a xs ≡ drop a out = ap (drop a) x ∙ drop_at P (drop a out) a e in
    let t : take a xs ≡ P = ap (take a) x ∙ take_at P (drop a out) a e in
    put_from a xs ys ∙ rw (y, part_from, d, t, drop-drop, append_assoc)
