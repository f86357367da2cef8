-- What is written is a text of the order: digits and their value, no leading zero, times, lines, the text, and its length.
use mathlib.Core.Path.{◌≡◌, refl, sym, ap, ◌∙◌}
use mathlib.Core.List.{List, [], ◌∷◌, ◌++◌, append_assoc}
use mathlib.Core.Logic.{inr}
use Prim.Native.Nat.{ℕ, zero, suc, ◌+◌, ◌-◌, ◌*◌, ◌/◌, ◌%◌, ◌^◌, ◌≤◌, ◌<◌}
use native.Mathlib.Decide.{dec_lt}
use native.Mathlib.Nat.{div-one, mod-one, div-div-eq-div-mul, mul_comm, pow-suc, one-le-pow, mod-eq_of_lt, le-div_iff_mul-le, div-lt_iff_lt-mul}
use native.Mathlib.Numerals.{add-one}
use native.Mathlib.Omega.{arith}
use borrow.Author.Tests.{lt-ltb, le-ltb}
use lib.Arith.{mod-mul}
use lib.ListN.{length, get_or, length-append}
use Rattle.model.specs.declared.order.Task.{Task}
use Rattle.model.specs.declared.order.Order.{Order}
use Rattle.laws.proofs.Joined.{joined_same, length_joined_most}
use Rattle.model.specs.Limits.{most_processors, most_period, task_of, cost}
use Rattle.model.specs.Rules.{InRange, TaskInRange, WithinLimits}
use Rattle.form.specs.Bytes.{zero_digit, point, semicolon, line_feed}
use Rattle.form.specs.Numbers.{Digits, value_of, IsNumber}
use Rattle.form.specs.Times.{IsTime}
use Rattle.form.specs.Lines.{IsLine}
use Rattle.form.specs.Text.{IsText}
use Rattle.form.specs.Written.{digit_for, last_digits, digit_count, digits_in, numeral, time_text, line_text, order_text, most_line_bytes, most_text_bytes}

pub length-last_digits : (digits x : ℕ) → length (last_digits digits x) ≡ digits
unfolding last_digits
length-last_digits zero x = refl
length-last_digits (suc digits) x = rw (length-append, length-last_digits digits (x / 10), add-one)

-- the first of them
pub last_digits_first : (digits x : ℕ) → last_digits (suc digits) x ≡ digit_for (x / 10 ^ digits % 10) ∷ last_digits digits x
unfolding last_digits
last_digits_first zero x = rw div-one
last_digits_first (suc digits) x =
    let e : x / 10 / 10 ^ digits ≡ x / 10 ^ suc digits = div-div-eq-div-mul x 10 (10 ^ digits) ∙ ap (λ (y : ℕ). x / y) (mul_comm 10 (10 ^ digits) ∙ sym (pow-suc 10 digits)) in
    rw (last_digits_first digits (x / 10), e)

pub last_digits_digits : (digits x : ℕ) → Digits (last_digits digits x)
unfolding Digits last_digits
last_digits_digits zero x = tt
last_digits_digits (suc digits) x = rw (last_digits_first digits x) ((omega arith, omega arith), last_digits_digits digits x)

pub last_digits_value : (digits x : ℕ) → value_of (last_digits digits x) ≡ x % 10 ^ digits
unfolding value_of last_digits
last_digits_value zero x = sym (mod-one x)
last_digits_value (suc digits) x =
    let e : digit_for (x / 10 ^ digits % 10) - zero_digit ≡ x / 10 ^ digits % 10 = omega arith in
    rw (last_digits_first digits x, length-last_digits digits x, e, last_digits_value digits x, pow-suc 10 digits, mul_comm (10 ^ digits) 10) (sym (mod-mul x (omega arith) (one-le-pow digits 10 (omega arith))))

-- how many digits a number has
pub digit_count_one : (more x : ℕ) → x < 10 → digit_count more x ≡ 1
unfolding digit_count
digit_count_one zero x small = refl
digit_count_one (suc more) x small = rw (lt-ltb x 10 small)

pub digit_count_more : (more x : ℕ) → 10 ≤ x → digit_count (suc more) x ≡ suc (digit_count more (x / 10))
unfolding digit_count
digit_count_more more x large = rw (le-ltb x 10 large)

-- at least one, and at most one more than it may
pub digit_count_in : (more x : ℕ) → InRange 1 (suc more) (digit_count more x)
unfolding digit_count
digit_count_in zero x = (omega arith, omega arith)
digit_count_in (suc more) x = go (digit_count_in more (x / 10)) (dec_lt x 10)
  where
    go : InRange 1 (suc more) (digit_count more (x / 10)) → Dec (x < 10) → InRange 1 (suc (suc more)) (digit_count (suc more) x)
    go rest (yes small) = rw (digit_count_one (suc more) x small) (omega arith, omega arith)
    go rest (no large) = rw (digit_count_more more x (omega arith)) (omega arith, omega arith)

-- a number has no more digits than one that is larger
pub digit_count_below : (more digits x : ℕ) → x < 10 ^ suc digits → digit_count more x ≤ suc digits
unfolding digit_count
digit_count_below zero digits x small = omega arith
digit_count_below (suc more) zero x small = rw (digit_count_one (suc more) x small) (omega arith)
digit_count_below (suc more) (suc digits) x small = go (λ (rest : x / 10 < 10 ^ suc digits). digit_count_below more digits (x / 10) rest) (dec_lt x 10)
  where
    go : (x / 10 < 10 ^ suc digits → digit_count more (x / 10) ≤ suc digits) → Dec (x < 10) → digit_count (suc more) x ≤ suc (suc digits)
    go rest (yes few) = rw (digit_count_one (suc more) x few) (omega arith)
    go rest (no large) = rw (digit_count_more more x (omega arith)) (omega (arith, rest (omega (arith, pow-suc 10 (suc digits)))))

-- its digits are enough
pub digit_count_fits : (more x : ℕ) → x < 10 ^ suc more → x < 10 ^ digit_count more x
unfolding digit_count
digit_count_fits zero x small = small
digit_count_fits (suc more) x small = go (λ (rest : x / 10 < 10 ^ suc more). digit_count_fits more (x / 10) rest) (dec_lt x 10)
  where
    go : (x / 10 < 10 ^ suc more → x / 10 < 10 ^ digit_count more (x / 10)) → Dec (x < 10) → x < 10 ^ digit_count (suc more) x
    go rest (yes few) = rw (digit_count_one (suc more) x few) few
    go rest (no large) = rw (digit_count_more more x (omega arith)) (omega (arith, rest (omega (arith, pow-suc 10 (suc more))), pow-suc 10 (digit_count more (x / 10))))

-- none of them is more than it needs
pub digit_count_needed : (more x : ℕ) → 1 ≤ x → 10 ^ digit_count more x ≤ 10 * x
unfolding digit_count
digit_count_needed zero x some = omega arith
digit_count_needed (suc more) x some = go (λ (rest : 1 ≤ x / 10). digit_count_needed more (x / 10) rest) (dec_lt x 10)
  where
    go : (1 ≤ x / 10 → 10 ^ digit_count more (x / 10) ≤ 10 * (x / 10)) → Dec (x < 10) → 10 ^ digit_count (suc more) x ≤ 10 * x
    go rest (yes few) = rw (digit_count_one (suc more) x few) (omega arith)
    go rest (no large) = rw (digit_count_more more x (omega arith)) (omega (arith, rest (omega arith), pow-suc 10 (digit_count more (x / 10))))

-- a number in digits
pub length-numeral : (x : ℕ) → length (numeral x) ≡ digits_in x
unfolding numeral
length-numeral x = length-last_digits (digits_in x) x

pub numeral_in : (x : ℕ) → InRange 1 10 (length (numeral x))
numeral_in x = rw length-numeral (digit_count_in 9 x)

numeral_fits : (x : ℕ) → x < 2 ^ 32 → x < 10 ^ digits_in x
numeral_fits x small = digit_count_fits 9 x (omega arith)

pub numeral-is_number : (x : ℕ) → x < 2 ^ 32 → IsNumber (numeral x) x
unfolding numeral
numeral-is_number x small =
    record {
      some = (numeral_in x).0;
      digits = last_digits_digits (digits_in x) x;
      valued = sym (last_digits_value (digits_in x) x ∙ mod-eq_of_lt (numeral_fits x small));
    }

-- where a number needs its digits, the first of them is no zero
first_digit : (digits x : ℕ) → x < 10 ^ digits → 10 ^ digits ≤ 10 * x → get_or (last_digits digits x) 0 zero_digit ≡ zero_digit → ⊥
first_digit zero x fits needed zero_first = omega arith
first_digit (suc digits) x fits needed zero_first =
    let tens = pow-suc 10 digits in
    let least : 1 ≤ x / 10 ^ digits = (le-div_iff_mul-le (one-le-pow digits 10 (omega arith))).1 (omega arith) in
    let most : x / 10 ^ digits < 10 = (div-lt_iff_lt-mul (one-le-pow digits 10 (omega arith))).1 (omega arith) in
    omega (arith, rw (last_digits_first digits x) at zero_first)

pub no_leading_zero : (x : ℕ) → x < 2 ^ 32 → 1 < length (numeral x) → get_or (numeral x) 0 zero_digit ≡ zero_digit → ⊥
unfolding numeral
no_leading_zero x small several zero_first = go (dec_lt x 10)
  where
    go : Dec (x < 10) → ⊥
    go (yes few) = omega (arith, length-numeral x, digit_count_one 9 x few)
    go (no large) = first_digit (digits_in x) x (numeral_fits x small) (digit_count_needed 9 x (omega arith)) zero_first

-- a time: whole milliseconds, a point, and two decimals
pub length_time : (ticks : ℕ) → length (time_text ticks) ≡ 3 + digits_in (ticks / 100)
unfolding time_text
length_time ticks = rw (length-append, length-numeral) (omega (arith, length-last_digits 2 ticks))

time_below : (ticks : ℕ) → ticks ≤ most_period → length (time_text ticks) ≤ 8
time_below ticks small = omega (arith, length_time ticks, digit_count_below 9 4 (ticks / 100) (omega arith))

pub time_is_time : (ticks : ℕ) → ticks < 2 ^ 32 → IsTime (time_text ticks) ticks
unfolding time_text
time_is_time ticks small =
    let two = length-last_digits 2 ticks in
    inr
    (record {
      whole = numeral (ticks / 100);
      mark = point;
      decimals = last_digits 2 ticks;
      milliseconds = ticks / 100;
      hundredths = ticks % 100;
      bytes = refl;
      number = numeral-is_number (ticks / 100) (omega arith);
      marked = inr refl;
      decimal = record { digits = last_digits_digits 2 ticks; one_or_two = rw two (omega arith, omega arith); valued = rw (two, last_digits_value 2 ticks) (omega arith) };
      valued = omega arith;
    })

-- a line, but for its line feed
unfoldable pub line_body : Task → List ℕ
line_body t = numeral t.width ++ (semicolon ∷ (time_text t.period ++ (semicolon ∷ (time_text t.deadline ++ (semicolon ∷ time_text t.run)))))

pub line_ended : (t : Task) → line_text t ≡ line_body t ++ (line_feed ∷ [])
unfolding line_text line_body
line_ended t = simp append_assoc

pub length_line : (t : Task) → length (line_text t) ≡ 4 + digits_in t.width + length (time_text t.period) + length (time_text t.deadline) + length (time_text t.run)
unfolding line_text
length_line t = simp (length-append, length-numeral) (omega arith)

pub line_is_line : (t : Task) → t.width < 2 ^ 32 → t.period < 2 ^ 32 → t.deadline < 2 ^ 32 → t.run < 2 ^ 32 → IsLine (line_body t) t
unfolding line_body
line_is_line t width period deadline run =
    record {
      width_typed = numeral t.width;
      period_typed = time_text t.period;
      deadline_typed = time_text t.deadline;
      run_typed = time_text t.run;
      bytes = refl;
      width = numeral-is_number t.width width;
      period = time_is_time t.period period;
      deadline = time_is_time t.deadline deadline;
      run = time_is_time t.run run;
    }

-- the numbers of a task in range are small
pub record Small (t : Task) : Type 0 where
  pub width : t.width ≤ most_processors
  pub period : t.period ≤ most_period
  pub deadline : t.deadline ≤ most_period
  pub run : t.run ≤ most_period

pub small_task : (processors : ℕ) (t : Task) → processors ≤ most_processors → TaskInRange processors t → Small t
unfolding cost
small_task processors t few inside =
    let period = inside.period_in.1 in
    let deadline = inside.deadline_in.1 in
    let run = inside.cost_in.1 in
    record { width = omega (arith, inside.width_in.1); period = period; deadline = omega arith; run = omega arith }

line_below : (t : Task) → Small t → length (line_text t) ≤ most_line_bytes
line_below t small =
    omega (arith, length_line t, digit_count_below 9 1 t.width (omega (arith, small.width)), time_below t.period small.period, time_below t.deadline small.deadline, time_below t.run small.run)

module _ (o : Order) (limits : WithinLimits o) where
  small_at : (i : ℕ) → i < o.tasks → Small (task_of o i)
  small_at i below = small_task o.processors (task_of o i) limits.processors.1 (limits.each i below)

  pub written_is_text : IsText (order_text o) o
  unfolding order_text
  written_is_text =
      record {
        lines = λ i. line_body (task_of o i);
        bytes = joined_same _ _ o.tasks (λ i below. line_ended (task_of o i));
        each = λ i below. let small = small_at i below in line_is_line (task_of o i) (omega (arith, small.width)) (omega (arith, small.period)) (omega (arith, small.deadline)) (omega (arith, small.run));
      }

  pub written_is_short : length (order_text o) ≤ most_text_bytes
  unfolding order_text
  written_is_short = omega (arith, limits.tasks.1, length_joined_most (λ i. line_text (task_of o i)) most_line_bytes o.tasks (λ i below. line_below (task_of o i) (small_at i below)))
