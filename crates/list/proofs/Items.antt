-- The items of a text taken one by one: what is left of the answer and of the set.
use Rattle.std.specs.Prelude.{Ok, Err, Result}
use mathlib.Core.Path.{◌≡◌, refl, sym, ap, ◌∙◌}
use mathlib.Core.Bool.{Bool, false}
use mathlib.Core.List.{List, [], ◌∷◌}
use Prim.Native.Nat.{ℕ, zero, suc, ◌+◌, ◌-◌, ◌≤◌, ◌<◌}
use native.Mathlib.Omega.{arith}
use lib.ListN.{length, drop, length-drop}
use lib.Seq.{drop-drop}
use lib.Dec.{leb, ltb}
use borrow.Author.Tests.{leb-true, le-leb, lt-leb, ltb-true, lt-ltb}
use Rattle.laws.specs.Choice.{pick, within}
use Rattle.laws.proofs.Choice.{same_test}
use Rattle.model.specs.Kinds.{Answer}
use Rattle.model.specs.declared.answer.Refusal.{Refusal}
use Rattle.model.specs.declared.answer.Refusal.TheVariants.{OfList}
use Rattle.model.specs.declared.answer.ListCause.TheVariants.{ListLength}
use Rattle.model.specs.Rules.{first_broken, given}
use Rattle.model.proofs.Rules.{done_pass, done_count, pass_on, stop, done_given, refused_given}
use Rattle.form.specs.Parts.{count, up_to, behind}
use Rattle.form.proofs.Parts.{up_to_none, up_to_ends, count_behind_less}
use Rattle.sets.specs.Sets.{IsSet, union, span}
use Rattle.sets.proofs.Processors.{set_is_set, set-has, same_processors, union_is_set, union_none, none_union, union_assoc}
use Rattle.sets.proofs.Shifted.{span_is_set, span-has}
use Rattle.list_form.specs.Items.{Item, ItemRight, item_set, items_set}
use Rattle.list_form.proofs.Listed.{items_set_is_set}
use Rattle.list.specs.declared.ItemTaken.{ItemTaken}
use Rattle.list.specs.Read.{most_list_text, is_comma, item_rules, items_rules, content_rules, list_rules, list_answer, item_of, items_in, items_of, reading_by, read_list}
use Rattle.list.specs.Taken.{held_item, HoldsItem, TakesItem, all_answer, all_set}

-- the processors of an item, counted from its first
item_span : (item : Item) → ItemRight item → item_set item ≡ span item.first (item.last + 1 - item.first)
unfolding item_set
item_span item right =
    same_processors _ _ (set_is_set (within item.first item.last)) (span_is_set item.first (item.last + 1 - item.first))
    (λ k below. set-has (within item.first item.last) k below ∙ ap (λ (b : Bool). pick (leb item.first k) b false) (last k) ∙ sym (span-has item.first (item.last + 1 - item.first) k below))
  where
    last : (k : ℕ) → leb k item.last ≡ ltb k (item.first + (item.last + 1 - item.first))
    last k =
        same_test _ _
        (λ e. let l = leb-true k item.last e in lt-ltb k _ (omega (arith, l, right.rises)))
        (λ e. let l = ltb-true k _ e in le-leb k item.last (omega (arith, l, right.rises)))

-- of an item that is taken: what it is, and that it is right
pub record ItemHeld (item : Item) (ends : ℕ) (answer : Answer) (taken : ItemTaken) (next : ℕ) : Type 0 where
  pub done : (count : ℕ) × (answer ≡ Ok count)
  pub first_is : taken.first ≡ item.first
  pub last_is : taken.last ≡ item.last
  pub next_at : next ≡ ends
  pub right : ItemRight item

pub item_held : (item : Item) (ends : ℕ) (answer : Answer) (found : Result ItemTaken Refusal) (next : ℕ) (taken : ItemTaken) → HoldsItem item ends answer found next → found ≡ Ok taken → ItemHeld item ends answer taken next
item_held item ends answer found next taken holds e =
    let given-so = done_given (held_item item) answer (sym holds.answered ∙ e) in
    record {
      done = (given-so.0, given-so.1);
      first_is = ap (λ (t : ItemTaken). t.first) given-so.2;
      last_is = ap (λ (t : ItemTaken). t.last) given-so.2;
      next_at = holds.next_at taken e;
      right = holds.right taken e;
    }

pub taken_span : (item : Item) (ends : ℕ) (answer : Answer) (taken : ItemTaken) (next : ℕ) → ItemHeld item ends answer taken next → item_set item ≡ span taken.first (taken.last + 1 - taken.first)
taken_span item ends answer taken next held =
    item_span item held.right ∙ ap (λ (first : ℕ). span first (item.last + 1 - first)) (sym held.first_is) ∙ ap (λ (last : ℕ). span taken.first (last + 1 - taken.first)) (sym held.last_is)

-- the first item decides where it is refused, and is passed over where it is not
first_stops : (at n : ℕ) (s : List ℕ) (refusal : Refusal) → count is_comma s ≡ n → first_broken 0 (item_rules at (up_to is_comma s)) ≡ Err refusal → first_broken 0 (items_rules at n s) ≡ Err refusal
unfolding items_rules
first_stops at zero s refusal is e = ap (λ (item : List ℕ). first_broken 0 (item_rules at item)) (sym (up_to_none is_comma s is)) ∙ e
first_stops at (suc n) s refusal is e = stop 0 (item_rules at (up_to is_comma s)) _ refusal e

first_passes : (at n : ℕ) (s : List ℕ) (count : ℕ) → first_broken 0 (item_rules at (up_to is_comma s)) ≡ Ok count
    → first_broken 0 (items_rules at (suc n) s) ≡ first_broken 0 (items_rules (at + suc (length (up_to is_comma s))) n (behind is_comma s))
unfolding items_rules
first_passes at n s count e = pass_on 0 (item_rules at (up_to is_comma s)) _ (done_pass 0 (item_rules at (up_to is_comma s)) e)

-- the last item
last_passes : (at : ℕ) (s : List ℕ) (c : ℕ) → count is_comma s ≡ 0 → first_broken 0 (item_rules at (up_to is_comma s)) ≡ Ok c → first_broken 0 (items_rules at 0 s) ≡ Ok 0
unfolding items_rules
last_passes at s c is e =
    let whole = ap (λ (item : List ℕ). first_broken 0 (item_rules at item)) (sym (up_to_none is_comma s is)) ∙ e in
    whole ∙ ap Ok (done_count 0 (item_rules at s) whole)

-- the set of the first item, and of the others
first_set : (n set : ℕ) (s : List ℕ) → union set (items_set (items_in (suc n) s)) ≡ union (union set (item_set (item_of (up_to is_comma s)))) (items_set (items_in n (behind is_comma s)))
unfolding items_in items_set
first_set n set s = sym (union_assoc set (item_set (item_of (up_to is_comma s))) (items_set (items_in n (behind is_comma s))))

last_set : (set : ℕ) (s : List ℕ) → count is_comma s ≡ 0 → union set (items_set (items_in 0 s)) ≡ union set (item_set (item_of (up_to is_comma s)))
unfolding items_in items_set item_set
last_set set s is = ap (union set) (none_union _ (set_is_set _) ∙ ap (λ (item : List ℕ). item_set (item_of item)) (sym (up_to_none is_comma s is)))

module _ (text : List ℕ) where
  -- the items from a place on give the rest of both; past the end there is none
  pub record ItemsLeft (at set : ℕ) : Type 0 where
    pub inside : at ≤ suc (length text)
    pub word : IsSet set
    pub answer_left : at ≤ length text → all_answer text ≡ first_broken 0 (items_rules at (count is_comma (drop at text)) (drop at text))
    pub set_left : at ≤ length text → all_set text ≡ union set (items_set (items_in (count is_comma (drop at text)) (drop at text)))
    pub answer_over : length text < at → all_answer text ≡ Ok 0
    pub set_over : length text < at → all_set text ≡ set

  pub all_left : ItemsLeft 0 0
  all_left = record { inside = omega arith; word = omega arith; answer_left = λ _. refl; set_left = λ _. sym (union_none (all_set text) (items_set_is_set (items_in (count is_comma text) text))); answer_over = λ past. absurd (omega (arith, past)); set_over = λ past. absurd (omega (arith, past)) }

  module _ (at set : ℕ) (left : ItemsLeft at set) (inside : at ≤ length text) (found : Result ItemTaken Refusal) (next : ℕ) (takes : TakesItem (drop at text) at found next) where
    abbrev s : List ℕ
    s = drop at text

    pub items_stop : (refusal : Refusal) → found ≡ Err refusal → all_answer text ≡ Err refusal
    items_stop refusal e = left.answer_left inside ∙ first_stops at (count is_comma s) s refusal refl (refused_given (held_item (item_of (up_to is_comma s))) _ (sym takes.answered ∙ e))

    pub items_more : (taken : ItemTaken) → found ≡ Ok taken → ItemsLeft (next + 1) (union set (item_set (item_of (up_to is_comma s))))
    items_more taken e = go (count is_comma s) refl
      where
        held : ItemHeld (item_of (up_to is_comma s)) (at + length (up_to is_comma s)) (first_broken 0 (item_rules at (up_to is_comma s))) taken next
        held = item_held _ _ _ found next taken takes e

        here : first_broken 0 (item_rules at (up_to is_comma s)) ≡ Ok held.done.0
        here = held.done.1

        behind_item : next + 1 ≡ at + suc (length (up_to is_comma s))
        behind_item = omega (arith, held.next_at)

        size : length s ≡ length text - at
        size = length-drop at text

        go : (n : ℕ) → count is_comma s ≡ n → ItemsLeft (next + 1) (union set (item_set (item_of (up_to is_comma s))))
        go zero is =
            let end : length (up_to is_comma s) ≡ length s = ap length (up_to_none is_comma s is) in
            let answered = left.answer_left inside ∙ ap (λ (n : ℕ). first_broken 0 (items_rules at n s)) is ∙ last_passes at s held.done.0 is here in
            let processors = left.set_left inside ∙ ap (λ (n : ℕ). union set (items_set (items_in n s))) is ∙ last_set set s is in
            record {
              inside = omega (arith, behind_item, end, size, inside);
              word = union_is_set set _;
              answer_left = λ within. absurd (omega (arith, within, behind_item, end, size, inside));
              set_left = λ within. absurd (omega (arith, within, behind_item, end, size, inside));
              answer_over = λ _. answered;
              set_over = λ _. processors;
            }
        go (suc n) is =
            let some = up_to_ends is_comma s (omega (arith, is)) in
            let rest : behind is_comma s ≡ drop (next + 1) text = drop-drop (suc (length (up_to is_comma s))) at text ∙ ap (λ (k : ℕ). drop k text) (sym behind_item) in
            let counted : count is_comma (drop (next + 1) text) ≡ n = ap (count is_comma) (sym rest) ∙ count_behind_less is_comma s ∙ omega (arith, is) in
            let answered =
            left.answer_left inside ∙ ap (λ (n : ℕ). first_broken 0 (items_rules at n s)) is ∙ first_passes at n s held.done.0 here
            ∙ ap (λ (k : ℕ). first_broken 0 (items_rules k n (behind is_comma s))) (sym behind_item)
            ∙ ap (λ (u : List ℕ). first_broken 0 (items_rules (next + 1) n u)) rest
            ∙ ap (λ (k : ℕ). first_broken 0 (items_rules (next + 1) k (drop (next + 1) text))) (sym counted) in
            let processors =
            left.set_left inside ∙ ap (λ (n : ℕ). union set (items_set (items_in n s))) is ∙ first_set n set s
            ∙ ap (λ (u : List ℕ). union (union set (item_set (item_of (up_to is_comma s)))) (items_set (items_in n u))) rest
            ∙ ap (λ (k : ℕ). union (union set (item_set (item_of (up_to is_comma s)))) (items_set (items_in k (drop (next + 1) text)))) (sym counted) in
            record {
              inside = omega (arith, behind_item, some, size, inside);
              word = union_is_set set _;
              answer_left = λ _. answered;
              set_left = λ _. processors;
              answer_over = λ past. absurd (omega (arith, past, behind_item, some, size, inside));
              set_over = λ past. absurd (omega (arith, past, behind_item, some, size, inside));
            }

-- a reading has the answer
pub reading_answer : (answer : Answer) (set : ℕ) → (reading_by answer set).answer ≡ answer
reading_answer (Ok count) set = refl
reading_answer (Err cause) set = refl

-- 65, the empty text, and a text of items
pub too_long : (text : List ℕ) → most_list_text < length text → list_answer text ≡ Err (OfList ListLength)
unfolding list_answer list_rules first_broken
too_long text long = rw (lt-leb (length text) most_list_text long)

pub read_none : (text : List ℕ) → length text ≡ 0 → given (items_set (items_of text)) (list_answer text) ≡ Ok 0
unfolding given list_answer list_rules content_rules first_broken items_of items_set
read_none [] none = refl
read_none (b ∷ s) none = absurd (omega (arith, none))

pub read_items : (text : List ℕ) → length text ≤ most_list_text → (length text ≡ 0 → ⊥) → given (items_set (items_of text)) (list_answer text) ≡ given (all_set text) (all_answer text)
unfolding list_answer list_rules content_rules first_broken items_of
read_items [] short some = absurd (some refl)
read_items (b ∷ s) short some = rw (le-leb (length (b ∷ s)) most_list_text short)

-- a reading by what is given
pub read_refused : (text : List ℕ) (refusal : Refusal) → given (items_set (items_of text)) (list_answer text) ≡ Err refusal → record { answer = Err refusal; set = 0 } ≡ read_list text
unfolding read_list
read_refused text refusal e = sym (ap (λ (answer : Answer). reading_by answer (items_set (items_of text))) (refused_given (items_set (items_of text)) (list_answer text) e))

pub read_done : (text : List ℕ) (set : ℕ) → given (items_set (items_of text)) (list_answer text) ≡ Ok set → record { answer = Ok 0; set = set } ≡ read_list text
unfolding read_list list_answer
read_done text set e =
    let done = done_given (items_set (items_of text)) (first_broken 0 (list_rules text)) e in
    let none = done_count 0 (list_rules text) done.1 in
    ap (λ (s : ℕ). reading_by (Ok 0) s) done.2 ∙ sym (ap (λ (answer : Answer). reading_by answer (items_set (items_of text))) (done.1 ∙ ap Ok none))
