-- Line i of a text, taken from the place where the i lines before it end.
use Rattle.std.specs.Prelude.{Err, Option, Some, None, is_some}
use mathlib.Core.Path.{◌≡◌, refl, sym, ap, ◌∙◌}
use mathlib.Core.Bool.{Bool, true, false}
use mathlib.Core.List.{List}
use Prim.Native.Nat.{ℕ, suc, ◌+◌, ◌-◌, ◌≤◌}
use native.Mathlib.Omega.{arith}
use native.Mathlib.Decide.{dec_le}
use native.Mathlib.Numerals.{add-one}
use lib.Dec.{leb, ltb}
use mir.Val.{bool_byte}
use lib.ListN.{length, drop}
use lib.Seq.{drop-drop}
use borrow.Author.Tests.{le-leb, lt-leb, lt-ltb, le-ltb}
use Rattle.laws.specs.Sums.{only}
use Rattle.model.specs.declared.order.Task.{Task}
use Rattle.model.specs.declared.answer.Refusal.TheVariants.{OfText}
use Rattle.model.specs.declared.answer.TextCause.TheVariants.{LineShape, LineNumber}
use Rattle.model.specs.Rules.{first_broken}
use Rattle.model.proofs.Rules.{AllPass}
use Rattle.form.specs.Bytes.{is_line_feed}
use Rattle.form.specs.Parts.{count, up_to, behind, behind_all}
use Rattle.form.specs.Numbers.{most_typed, capped}
use Rattle.form.specs.Lines.{line_task, numbers_fit}
use Rattle.form.specs.Text.{typed_line, finished_lines, is_unfinished, line_count, typed_task}
use Rattle.form.proofs.Parts.{count-behind_all, behind_all_more}
use Rattle.form.proofs.Lines.{fit_true}
use Rattle.typed_line.specs.Taken.{first_line, is_finished, capped_task, TakesLine}
use Rattle.text.specs.Read.{shaped, typed_fits, line_rules}

-- a place where i lines have ended
abbrev pub LineBegins : List ℕ → (i at : ℕ) → Type 0
LineBegins text i at = drop at text ≡ behind_all is_line_feed i text

pub first_begins : (text : List ℕ) → LineBegins text 0 0
unfolding behind_all
first_begins text = refl

-- what is over stays over
capped_fits : (value : ℕ) → leb (capped value) most_typed ≡ leb value most_typed
capped_fits value = go (dec_le value most_typed)
  where
    go : Dec (value ≤ most_typed) → leb (capped value) most_typed ≡ leb value most_typed
    go (yes few) = le-leb (capped value) most_typed (omega (arith, few)) ∙ sym (le-leb value most_typed few)
    go (no many) = lt-leb (capped value) most_typed (omega (arith, many)) ∙ sym (lt-leb value most_typed (omega (arith, many)))

pub fits_capped : (t : Task) → numbers_fit (capped_task t) ≡ numbers_fit t
unfolding numbers_fit
fits_capped t = rw (capped_fits t.width, capped_fits t.period, capped_fits t.deadline, capped_fits t.run)

exact : (value : ℕ) → value ≤ most_typed → capped value ≡ value
exact value few = omega (arith, few)

capped_exact : (t : Task) → numbers_fit t ≡ true → capped_task t ≡ t
capped_exact t e =
    let f = fit_true t e in
    let made : ℕ → ℕ → ℕ → ℕ → Task = λ w p d r. record { width = w; period = p; deadline = d; run = r } in
    let same : made (capped t.width) (capped t.period) (capped t.deadline) (capped t.run) ≡ made t.width t.period t.deadline t.run =
    rw (exact t.width f.width, exact t.period f.period, exact t.deadline f.deadline, exact t.run f.run) in
    same

module _ (text : List ℕ) (i at : ℕ) (begins : LineBegins text i at) (found : Option Task) (next : ℕ) (taken : TakesLine (drop at text) at found next) where
  line_is : first_line (drop at text) ≡ typed_line text i
  unfolding first_line typed_line
  line_is = ap (up_to is_line_feed) begins

  left : count is_line_feed (drop at text) ≡ finished_lines text - i
  left = ap (count is_line_feed) begins ∙ count-behind_all is_line_feed i text

  finished_is : is_finished (drop at text) ≡ ltb i (finished_lines text)
  unfolding is_finished
  finished_is = go (dec_le (finished_lines text) i)
    where
      go : Dec (finished_lines text ≤ i) → ltb 0 (count is_line_feed (drop at text)) ≡ ltb i (finished_lines text)
      go (yes none) = le-ltb 0 (count is_line_feed (drop at text)) (omega (arith, left, none)) ∙ sym (le-ltb i (finished_lines text) none)
      go (no some) = lt-ltb 0 (count is_line_feed (drop at text)) (omega (arith, left, some)) ∙ sym (lt-ltb i (finished_lines text) (omega (arith, some)))

  -- 50 of line i
  pub shaped_told : is_some found ≡ (shaped text i).test
  unfolding shaped
  shaped_told = taken.told ∙ rw (finished_is, line_is)

  pub unshaped : found ≡ None → (shaped text i).test ≡ false
  unshaped none = sym shaped_told ∙ ap is_some none

  module _ (task : Task) (good : found ≡ Some task) where
    pub shape_told : (shaped text i).test ≡ true
    shape_told = sym shaped_told ∙ ap is_some good

    task_told : task ≡ capped_task (typed_task text i)
    task_told = taken.typed task good ∙ ap (λ (l : List ℕ). capped_task (line_task l)) line_is

    -- 51 of line i
    pub fits_told : numbers_fit task ≡ (typed_fits text i).test
    unfolding typed_fits
    fits_told = ap numbers_fit task_told ∙ fits_capped (typed_task text i)

    pub task_exact : (typed_fits text i).test ≡ true → task ≡ typed_task text i
    unfolding typed_fits
    task_exact fit = task_told ∙ capped_exact (typed_task text i) fit

    -- the next line begins behind it
    pub next_begins : LineBegins text (i + 1) next
    unfolding first_line
    next_begins =
        ap (λ (n : ℕ). drop n text) (taken.next_at task good) ∙ sym (drop-drop (suc (length (first_line (drop at text)))) at text)
        ∙ ap (behind is_line_feed) begins ∙ sym (behind_all_more is_line_feed i text) ∙ ap (λ (n : ℕ). behind_all is_line_feed n text) (sym (add-one i))

-- 50 and 51 of line i in turn
module _ (text : List ℕ) (i : ℕ) where
  pub line_passes : (shaped text i).test ≡ true → (typed_fits text i).test ≡ true → AllPass (line_rules text i)
  unfolding line_rules AllPass
  line_passes shape fit = (shape, (fit, tt))

  pub shape_stops : (count : ℕ) → (shaped text i).test ≡ false → first_broken count (line_rules text i) ≡ Err (OfText (LineShape i))
  unfolding line_rules first_broken
  shape_stops count shape = rw shape

  pub number_stops : (count : ℕ) → (shaped text i).test ≡ true → (typed_fits text i).test ≡ false → first_broken count (line_rules text i) ≡ Err (OfText (LineNumber i))
  unfolding line_rules first_broken
  number_stops count shape fit = rw (shape, fit)

-- a test as the number that it is taken as
pub byte_is : (test : Bool) → bool_byte test ≡ only test 1
byte_is true = refl
byte_is false = refl

-- the lines, an unfinished last one counted
pub count_is : (text : List ℕ) (lines : ℕ) (unfinished : Bool) → lines ≡ finished_lines text → is_unfinished text ≡ unfinished → line_count text ≡ lines + only unfinished 1
unfolding line_count
count_is text lines unfinished e u = rw (sym e, u)
