-- A text: its lines are those typed, its order is the one typed, and lines that pass make it such a text.
use mathlib.Core.Path.{◌≡◌, refl, sym, ap, ◌∙◌, subst}
use mathlib.Core.Bool.{Bool, true, false}
use mathlib.Core.List.{List, [], ◌∷◌, ◌++◌, append_assoc, append-nil}
use Prim.Native.Nat.{ℕ, zero, suc, ◌+◌, ◌-◌, ◌≤◌, ◌<◌}
use native.Mathlib.Omega.{arith}
use lib.ListN.{length, get_or, length-append}
use lib.Seq.{get_or-append-add, get_or_at, append_snoc}
use Rattle.laws.specs.Joined.{joined, filled}
use Rattle.laws.specs.Sums.{only}
use Rattle.laws.proofs.Every.{clash}
use Rattle.laws.proofs.Filled.{filled_in, filled_same, filled_all}
use Rattle.laws.proofs.Joined.{joined_at}
use Rattle.model.specs.declared.order.Order.{Order}
use Rattle.model.specs.Limits.{most_tasks, zero_task, task_of}
use Rattle.form.specs.Bytes.{line_feed, is_line_feed}
use Rattle.form.specs.Parts.{count, up_to, behind, behind_all}
use Rattle.form.specs.Lines.{IsLine, is_line}
use Rattle.form.specs.Text.{IsText, typed_line, finished_lines, is_unfinished, line_count, typed_task, text_order}
use Rattle.form.proofs.Parts.{count_nil, count-append, count_at, none_first, none_rest, none_part, part_last, up_to_at, behind_at, behind_all_none, behind_all_more, cut_byte}
use Rattle.form.proofs.Lines.{line_true, line_task_lem, line_no_line_feed}

-- lines, each ended by a line feed
abbrev ended : (ℕ → List ℕ) → ℕ → List ℕ
ended lines i = lines i ++ (line_feed ∷ [])

module _ (lines : ℕ → List ℕ) where
  -- what stands behind the first n of them
  behind_lines : (n : ℕ) (rest : List ℕ) → ((i : ℕ) → i < n → count is_line_feed (lines i) ≡ 0) → behind_all is_line_feed n (joined (ended lines) n ++ rest) ≡ rest
  unfolding joined
  behind_lines zero rest none = behind_all_none is_line_feed rest
  behind_lines (suc n) rest none =
      let same : (joined (ended lines) n ++ ended lines n) ++ rest ≡ joined (ended lines) n ++ (lines n ++ (line_feed ∷ rest)) = simp append_assoc in
      let earlier = behind_lines n (lines n ++ (line_feed ∷ rest)) (λ i l. none i (omega arith)) in
      behind_all_more is_line_feed n _ ∙ ap (behind is_line_feed) (ap (behind_all is_line_feed n) same ∙ earlier) ∙ behind_at is_line_feed (lines n) line_feed rest (none n (omega arith)) refl

  finished_lines_lem : (n : ℕ) → ((i : ℕ) → i < n → count is_line_feed (lines i) ≡ 0) → finished_lines (joined (ended lines) n) ≡ n
  unfolding joined
  finished_lines_lem zero none = count_nil is_line_feed
  finished_lines_lem (suc n) none =
      omega (
        arith,
        finished_lines_lem n (λ i l. none i (omega arith)),
        count-append is_line_feed (joined (ended lines) n) (ended lines n),
        count_at is_line_feed (lines n) line_feed [] (none n (omega arith)) refl,
        count_nil is_line_feed,
      )

  line_at : (n : ℕ) → ((i : ℕ) → i < n → count is_line_feed (lines i) ≡ 0) → (i : ℕ) → i < n → typed_line (joined (ended lines) n) i ≡ lines i
  unfolding typed_line
  line_at n none i below =
      let r = joined_at (ended lines) n i below in
      let from : behind_all is_line_feed i (joined (ended lines) n) ≡ ended lines i ++ r.0 =
      ap (behind_all is_line_feed i) r.1 ∙ behind_lines i (ended lines i ++ r.0) (λ j l. none j (omega arith)) in
      ap (up_to is_line_feed) (from ∙ append_snoc (lines i) line_feed r.0) ∙ up_to_at is_line_feed (lines i) line_feed r.0 (none i below) refl

-- the last byte is a line feed, or there is none
finished_nil : is_unfinished [] ≡ false
unfolding is_unfinished
finished_nil = refl

finished_end : (s : List ℕ) → is_unfinished (s ++ (line_feed ∷ [])) ≡ false
unfolding is_unfinished
finished_end s =
    let last : get_or (s ++ (line_feed ∷ [])) (length (s ++ (line_feed ∷ [])) - 1) line_feed ≡ line_feed = get_or_at s line_feed [] line_feed _ (omega (arith, length-append s (line_feed ∷ []))) in
    rw last

finished_joined : (lines : ℕ → List ℕ) (n : ℕ) → is_unfinished (joined (ended lines) n) ≡ false
unfolding joined
finished_joined lines zero = finished_nil
finished_joined lines (suc n) = ap is_unfinished (sym (append_assoc (joined (ended lines) n) (lines n) (line_feed ∷ []))) ∙ finished_end (joined (ended lines) n ++ lines n)

-- what a text of an order holds
module _ {text : List ℕ} {o : Order} (typed : IsText text o) where
  none_typed : (i : ℕ) → i < o.tasks → count is_line_feed (typed.lines i) ≡ 0
  none_typed i below = line_no_line_feed (typed.each i below)

  pub text_finished : finished_lines text ≡ o.tasks
  text_finished = ap finished_lines typed.bytes ∙ finished_lines_lem typed.lines o.tasks none_typed

  pub text_lines : line_count text ≡ o.tasks
  unfolding line_count
  text_lines =
      let whole : is_unfinished text ≡ false = ap is_unfinished typed.bytes ∙ finished_joined typed.lines o.tasks in
      omega (arith, text_finished, ap (λ (b : Bool). only b 1) whole)

  pub text_line : (i : ℕ) → i < o.tasks → typed_line text i ≡ typed.lines i
  text_line i below = ap (λ (s : List ℕ). typed_line s i) typed.bytes ∙ line_at typed.lines o.tasks none_typed i below

  pub text_typed : (i : ℕ) → i < o.tasks → IsLine (typed_line text i) (task_of o i)
  text_typed i below = rw (text_line i below) (typed.each i below)

  pub text_task : (i : ℕ) → i < o.tasks → task_of o i ≡ typed_task text i
  text_task i below = line_task_lem (text_typed i below)

pub text_once : (text : List ℕ) (one other : Order) → IsText text one → IsText text other → (one.tasks ≡ other.tasks) × ((i : ℕ) → i < one.tasks → task_of one i ≡ task_of other i)
text_once text one other t u =
    let same : one.tasks ≡ other.tasks = sym (text_lines t) ∙ text_lines u in
    (same, λ i below. text_task t i below ∙ sym (text_task u i (subst (i <◌) same below)))

-- lines cut out, and what follows them
lines_cut : (text : List ℕ) (n : ℕ) → n ≤ finished_lines text → text ≡ joined (ended (typed_line text)) n ++ behind_all is_line_feed n text
unfolding joined typed_line
lines_cut text zero few = sym (behind_all_none is_line_feed text)
lines_cut text (suc n) few =
    lines_cut text n (omega arith)
    ∙ ap (joined (ended (typed_line text)) n ++◌) (cut_byte line_feed n text (omega arith) ∙ sym (append_snoc (typed_line text n) line_feed (behind_all is_line_feed (suc n) text)))
    ∙ sym (append_assoc (joined (ended (typed_line text)) n) (ended (typed_line text) n) (behind_all is_line_feed (suc n) text))

-- the last byte of what has no line feed is none
last_none : (passes : ℕ → Bool) (b : ℕ) (s : List ℕ) (d : ℕ) → count passes (b ∷ s) ≡ 0 → passes (get_or (b ∷ s) (length s) d) ≡ false
last_none passes b [] d none = none_first passes b [] none
last_none passes b (c ∷ s) d none = last_none passes c s d (none_rest passes b (c ∷ s) none)

nothing_follows : (front rest : List ℕ) → count is_line_feed rest ≡ 0 → is_unfinished (front ++ rest) ≡ false → rest ≡ []
unfolding is_unfinished
nothing_follows front [] none whole = refl
nothing_follows front (b ∷ s) none whole =
    let place : length (front ++ (b ∷ s)) - 1 ≡ length front + length s = omega (arith, length-append front (b ∷ s)) in
    let last : get_or (front ++ (b ∷ s)) (length (front ++ (b ∷ s)) - 1) line_feed ≡ get_or (b ∷ s) (length s) line_feed = rw place (get_or-append-add front (b ∷ s) (length s) line_feed) in
    let out = last_none is_line_feed b s line_feed none in
    clash (sym whole ∙ rw (last, out))

-- any bytes are their finished lines and the line that is left
pub no_line_feed : (text : List ℕ) (i : ℕ) → count is_line_feed (typed_line text i) ≡ 0
unfolding typed_line
no_line_feed text i = none_part is_line_feed i text

pub lines_left : (text : List ℕ) → text ≡ joined (ended (typed_line text)) (finished_lines text) ++ typed_line text (finished_lines text)
unfolding typed_line
lines_left text = let n = finished_lines text in lines_cut text n (omega arith) ∙ ap (joined (ended (typed_line text)) n ++◌) (sym (part_last is_line_feed n text refl))

-- nothing is left where the text is finished, and there alone
pub nothing_left : (text : List ℕ) → is_unfinished text ≡ false → typed_line text (finished_lines text) ≡ []
nothing_left text whole =
    let n = finished_lines text in
    nothing_follows (joined (ended (typed_line text)) n) (typed_line text n) (no_line_feed text n) (sym (ap is_unfinished (lines_left text)) ∙ whole)

lines_alone : (text : List ℕ) → typed_line text (finished_lines text) ≡ [] → text ≡ joined (ended (typed_line text)) (finished_lines text)
lines_alone text none = let lines = joined (ended (typed_line text)) (finished_lines text) in lines_left text ∙ ap (lines ++◌) none ∙ append-nil lines

pub left_nothing : (text : List ℕ) → typed_line text (finished_lines text) ≡ [] → is_unfinished text ≡ false
left_nothing text none = ap is_unfinished (lines_alone text none) ∙ finished_joined (typed_line text) (finished_lines text)

whole_lines : (text : List ℕ) → is_unfinished text ≡ false → text ≡ joined (ended (typed_line text)) (finished_lines text)
whole_lines text whole = lines_alone text (nothing_left text whole)

-- the order that is typed, task by task
pub text_order-task : (processors : ℕ) (text : List ℕ) (i : ℕ) → i < line_count text → task_of (text_order processors text) i ≡ typed_task text i
unfolding text_order
text_order-task processors text i below = filled_in (typed_task text) zero_task most_tasks (line_count text) i below

-- where each line is finished
module _ (text : List ℕ) (finished : (i : ℕ) → i < line_count text → i < finished_lines text) where
  whole_text : is_unfinished text ≡ false
  unfolding line_count
  whole_text = go (is_unfinished text) refl
    where
      go : (b : Bool) → is_unfinished text ≡ b → is_unfinished text ≡ false
      go true e = let one : only (is_unfinished text) 1 ≡ 1 = ap (λ (b : Bool). only b 1) e in absurd (omega (arith, finished (finished_lines text) (omega arith)))
      go false e = e

  all_finished : line_count text ≡ finished_lines text
  unfolding line_count
  all_finished = omega (arith, ap (λ (b : Bool). only b 1) whole_text)

  -- and each is of a task, it is a text of the order
  pub text_is : (processors : ℕ) → ((i : ℕ) → i < line_count text → is_line (typed_line text i) ≡ true) → IsText text (text_order processors text)
  unfolding text_order
  text_is processors each =
      record {
        lines = typed_line text;
        bytes = whole_lines text whole_text ∙ ap (joined (ended (typed_line text))) (sym all_finished);
        each = λ i below. subst (IsLine (typed_line text i)) (sym (text_order-task processors text i below)) (line_true (typed_line text i) (each i below));
      }

-- an order is the one that is typed, where its table is zero past its tasks
pub text_order_lem : (processors : ℕ) (text : List ℕ) (o : Order) → IsText text o → o.processors ≡ processors → length o.table ≡ most_tasks → o.tasks ≤ most_tasks → ((i : ℕ) → o.tasks ≤ i → task_of o i ≡ zero_task)
    → text_order processors text ≡ o
unfolding text_order
text_order_lem processors text o typed beside places few past =
    let table : filled (typed_task text) zero_task most_tasks o.tasks ≡ o.table =
    filled_same (typed_task text) (task_of o) zero_task most_tasks o.tasks (λ i below. sym (text_task typed i below)) ∙ filled_all o.table zero_task most_tasks o.tasks places few past in
    rw (text_lines typed, sym beside, table)
