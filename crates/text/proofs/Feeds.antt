-- The line feeds of a text, counted one by one.
use mathlib.Core.Path.{◌≡◌, refl, sym, ap, ◌∙◌}
use mathlib.Core.Bool.{Bool, true, false, not}
use mathlib.Core.List.{List, [], ◌∷◌}
use Prim.Native.Nat.{ℕ, zero, suc, ◌+◌, ◌-◌, ◌≤◌, ◌<◌}
use native.Mathlib.Omega.{arith}
use native.Mathlib.Numerals.{add-one}
use lib.ListN.{length, get_or, drop, drop_of_length-le, get_or-eq_default}
use lib.Seq.{drop-cons}
use Rattle.laws.specs.Choice.{pick}
use Rattle.laws.specs.Sums.{only}
use Rattle.laws.proofs.Only.{only_le}
use Rattle.form.specs.Bytes.{line_feed, is_line_feed}
use Rattle.form.specs.Parts.{count}
use Rattle.form.specs.Text.{finished_lines, is_unfinished}
use Rattle.form.proofs.Parts.{count_nil, count_cons}

-- so many are found before place i
pub record Counting (text : List ℕ) (lines i : ℕ) : Type 0 where
  pub inside : i ≤ length text
  pub few : lines ≤ i
  pub rest : finished_lines text ≡ lines + count is_line_feed (drop i text)

pub counting_first : (text : List ℕ) → Counting text 0 0
counting_first text = record { inside = omega arith; few = omega arith; rest = omega arith }

pub counting_more : (text : List ℕ) (lines i : ℕ) (feed : Bool) → Counting text lines i → i < length text → is_line_feed (get_or text i 0) ≡ feed → Counting text (lines + only feed 1) (i + 1)
counting_more text lines i feed c more e =
    let cut : count is_line_feed (drop i text) ≡ only feed 1 + count is_line_feed (drop (i + 1) text) =
    ap (count is_line_feed) (drop-cons text i 0 more) ∙ count_cons is_line_feed (get_or text i 0) (drop (suc i) text)
    ∙ ap (λ (b : Bool). only b 1 + count is_line_feed (drop (suc i) text)) e ∙ ap (λ (n : ℕ). only feed 1 + count is_line_feed (drop n text)) (sym (add-one i)) in
    record { inside = omega (arith, more); few = omega (arith, c.few, only_le feed 1); rest = omega (arith, c.rest, cut) }

pub counting_last : (text : List ℕ) (lines i : ℕ) → Counting text lines i → length text ≤ i → (lines ≡ finished_lines text) × (lines ≤ length text)
counting_last text lines i c past =
    let none : count is_line_feed (drop i text) ≡ 0 = ap (count is_line_feed) (drop_of_length-le text past) ∙ count_nil is_line_feed in
    (omega (arith, c.rest, none), omega (arith, c.few, c.inside))

-- within a list nothing else is asked for
within_list : (l : List ℕ) (i one other : ℕ) → i < length l → get_or l i one ≡ get_or l i other
within_list [] i one other inside = absurd (omega arith)
within_list (b ∷ l) zero one other inside = refl
within_list (b ∷ l) (suc i) one other inside = within_list l i one other (omega (arith, inside))

-- the last byte of a text
pub none_unfinished : (text : List ℕ) → length text ≡ 0 → false ≡ is_unfinished text
unfolding is_unfinished
none_unfinished text none = rw (get_or-eq_default text line_feed {n = length text - 1} (omega (arith, none)))

pub last_unfinished : (text : List ℕ) (feed : Bool) → (length text ≡ 0 → ⊥) → is_line_feed (get_or text (length text - 1) 0) ≡ feed → not feed ≡ is_unfinished text
unfolding is_unfinished
last_unfinished text feed some e = rw (within_list text (length text - 1) line_feed 0 (omega (arith, some)), e) (turned feed)
  where
    turned : (x : Bool) → not x ≡ pick x false true
    turned true = refl
    turned false = refl
