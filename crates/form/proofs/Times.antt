-- Times as typed: the test tells, the ticks are those typed, and what is not in them.
use mathlib.Core.Path.{◌≡◌, refl, sym, ap, ◌∙◌}
use mathlib.Core.Bool.{Bool, true, false}
use mathlib.Core.List.{List, ◌∷◌, ◌++◌}
use mathlib.Core.Logic.{◌⊎◌, ⊎_elim, inl, inr}
use Prim.Native.Nat.{ℕ, suc, ◌+◌, ◌-◌, ◌*◌, ◌^◌}
use native.Mathlib.Omega.{arith}
use lib.Dec.{eqb}
use lib.ListN.{length}
use borrow.Author.Tests.{eq-eqb, eqb-true}
use Rattle.laws.specs.Choice.{pick, within}
use Rattle.laws.proofs.Choice.{both, within_true, true_within}
use Rattle.laws.proofs.Every.{clash}
use Rattle.form.specs.Bytes.{IsDigit, IsMark, is_mark, is_semicolon, is_line_feed}
use Rattle.form.specs.Parts.{count, up_to, behind, part}
use Rattle.form.specs.Numbers.{all_digits, value_of, is_number}
use Rattle.form.specs.Times.{IsDecimals, is_decimals, IsTime, is_time, ticks_of}
use Rattle.form.proofs.Parts.{cut, none_up_to, count-behind, count-append, count_at, none_cons, part_first, part-only, part_past, part_two}
use Rattle.form.proofs.Bytes.{digit_no_mark, digit_no_semicolon, digit_no_line_feed, mark_true, true_mark, mark_no_semicolon, mark_no_line_feed}
use Rattle.form.proofs.Numbers.{digits_true, true_digits, digits_none, value_nil, number_true, true_number}

-- the test of decimals
decimals_true : (s : List ℕ) → is_decimals s ≡ true → IsDecimals s (value_of s * 10 ^ (2 - length s))
decimals_true s e =
    let r = both (within 1 2 (length s)) (all_digits s) e in
    record { digits = digits_true s r.1; one_or_two = within_true 1 2 (length s) r.0; valued = refl }

true_decimals : (s : List ℕ) (hundredths : ℕ) → IsDecimals s hundredths → is_decimals s ≡ true
true_decimals s hundredths d = rw (true_within 1 2 (length s) d.one_or_two.0 d.one_or_two.1) (true_digits s d.digits)

-- a string of digits, as a time
module _ (s : List ℕ) (none : count is_mark s ≡ 0) where
  pub ticks_whole : ticks_of s ≡ 100 * value_of s
  unfolding ticks_of
  ticks_whole = rw (part-only is_mark s none, part_past is_mark s none, value_nil) (omega arith)

  pub time_whole : is_time s ≡ is_number s
  unfolding is_time
  time_whole = rw (eq-eqb (count is_mark s) 0 none)

-- one cut at its comma or point
module _ (whole : List ℕ) (mark : ℕ) (decimals : List ℕ) (before : count is_mark whole ≡ 0) (marked : is_mark mark ≡ true) (after : count is_mark decimals ≡ 0) where
  abbrev pub typed : List ℕ
  typed = whole ++ (mark ∷ decimals)

  pub one_mark : count is_mark typed ≡ 1
  one_mark = count_at is_mark whole mark decimals before marked ∙ ap suc after

  pub ticks_decimal : ticks_of typed ≡ 100 * value_of whole + value_of decimals * 10 ^ (2 - length decimals)
  unfolding ticks_of
  ticks_decimal = rw (part_first is_mark whole mark decimals before marked, part_two is_mark whole mark decimals before marked after)

  pub time_decimal : is_time typed ≡ pick (is_number whole) (is_decimals decimals) false
  unfolding is_time
  time_decimal = rw (one_mark, part_first is_mark whole mark decimals before marked, part_two is_mark whole mark decimals before marked after)

-- no comma or point, or one
pub marks : (s : List ℕ) → is_time s ≡ true → (count is_mark s ≡ 0) ⊎ (count is_mark s ≡ 1)
unfolding is_time
marks s e = go (eqb (count is_mark s) 0) (eqb (count is_mark s) 1) refl refl e
  where
    go : (a b : Bool) → eqb (count is_mark s) 0 ≡ a → eqb (count is_mark s) 1 ≡ b → pick a (is_number s) (pick b (pick (is_number (part is_mark 0 s)) (is_decimals (part is_mark 1 s)) false) false) ≡ true
        → (count is_mark s ≡ 0) ⊎ (count is_mark s ≡ 1)
    go true b h k e = inl (eqb-true (count is_mark s) 0 h)
    go false true h k e = inr (eqb-true (count is_mark s) 1 k)
    go false false h k e = clash e

pub time_true : (s : List ℕ) → is_time s ≡ true → IsTime s (ticks_of s)
time_true s e = ⊎_elim whole decimal (marks s e)
  where
    whole : count is_mark s ≡ 0 → IsTime s (ticks_of s)
    whole none = inl (record { milliseconds = value_of s; number = number_true s (sym (time_whole s none) ∙ e); valued = ticks_whole s none })

    decimal : count is_mark s ≡ 1 → IsTime s (ticks_of s)
    decimal one =
        let r = cut is_mark s (omega arith) in
        let before = none_up_to is_mark s in
        let after : count is_mark (behind is_mark s) ≡ 0 = omega (arith, count-behind is_mark s (omega arith)) in
        let tests = both (is_number (up_to is_mark s)) (is_decimals (behind is_mark s)) (sym (ap is_time r.2 ∙ time_decimal (up_to is_mark s) r.0 (behind is_mark s) before r.1 after) ∙ e) in
        inr (record {
          whole = up_to is_mark s;
          mark = r.0;
          decimals = behind is_mark s;
          milliseconds = value_of (up_to is_mark s);
          hundredths = value_of (behind is_mark s) * 10 ^ (2 - length (behind is_mark s));
          bytes = r.2;
          number = number_true (up_to is_mark s) tests.0;
          marked = mark_true r.0 r.1;
          decimal = decimals_true (behind is_mark s) tests.1;
          valued = ap ticks_of r.2 ∙ ticks_decimal (up_to is_mark s) r.0 (behind is_mark s) before r.1 after;
        })

pub true_time : (s : List ℕ) (ticks : ℕ) → IsTime s ticks → (is_time s ≡ true) × (ticks ≡ ticks_of s)
true_time s ticks (inl w) =
    let none = digits_none is_mark digit_no_mark s w.number.digits in
    (time_whole s none ∙ true_number s _ w.number, w.valued ∙ ap (100 *◌) w.number.valued ∙ sym (ticks_whole s none))
true_time s ticks (inr d) =
    let before = digits_none is_mark digit_no_mark d.whole d.number.digits in
    let after = digits_none is_mark digit_no_mark d.decimals d.decimal.digits in
    let marked = true_mark d.mark d.marked in
    let told : pick (is_number d.whole) (is_decimals d.decimals) false ≡ true = rw (true_number d.whole _ d.number) (true_decimals d.decimals _ d.decimal) in
    let sum : 100 * d.milliseconds + d.hundredths ≡ 100 * value_of d.whole + value_of d.decimals * 10 ^ (2 - length d.decimals) = rw (d.number.valued, d.decimal.valued) in (
      ap is_time d.bytes ∙ time_decimal d.whole d.mark d.decimals before marked after ∙ told,
      d.valued ∙ sum ∙ sym (ap ticks_of d.bytes ∙ ticks_decimal d.whole d.mark d.decimals before marked after),
    )

pub time_once : (s : List ℕ) (one other : ℕ) → IsTime s one → IsTime s other → one ≡ other
time_once s one other t u = (true_time s one t).1 ∙ sym (true_time s other u).1

-- a time has none of what neither a digit nor a comma nor a point is
pub time_none : (passes : ℕ → Bool) → ((b : ℕ) → IsDigit b → passes b ≡ false) → ((b : ℕ) → IsMark b → passes b ≡ false) → (s : List ℕ) (ticks : ℕ) → IsTime s ticks → count passes s ≡ 0
time_none passes digits marks s ticks (inl w) = digits_none passes digits s w.number.digits
time_none passes digits marks s ticks (inr d) =
    let before = digits_none passes digits d.whole d.number.digits in
    let after = digits_none passes digits d.decimals d.decimal.digits in
    let here = none_cons passes d.mark d.decimals (marks d.mark d.marked) after in
    ap (count passes) d.bytes ∙ omega (arith, count-append passes d.whole (d.mark ∷ d.decimals))

pub time_no_semicolon : (s : List ℕ) (ticks : ℕ) → IsTime s ticks → count is_semicolon s ≡ 0
time_no_semicolon = time_none is_semicolon digit_no_semicolon mark_no_semicolon

pub time_no_line_feed : (s : List ℕ) (ticks : ℕ) → IsTime s ticks → count is_line_feed s ≡ 0
time_no_line_feed = time_none is_line_feed digit_no_line_feed mark_no_line_feed
