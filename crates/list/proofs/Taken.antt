-- What the reader takes, piece by piece: an item's end, a range's second number, and an item.
use Rattle.std.specs.Prelude.{Ok, Err, Result}
use mathlib.Core.Path.{◌≡◌, refl, sym, ap, ◌∙◌, subst}
use mathlib.Core.Bool.{Bool, true, false}
use mathlib.Core.List.{List}
use Prim.Native.Nat.{ℕ, suc, ◌+◌, ◌-◌, ◌≤◌, ◌<◌}
use native.Mathlib.Omega.{arith}
use native.Mathlib.Nat.{add-zero}
use lib.ListN.{length, get_or, drop, drop_of_length-le}
use lib.Seq.{drop-cons, drop-drop, get_or-drop}
use lib.Dec.{eqb}
use borrow.Author.Tests.{eq-eqb, ne_eqb}
use Rattle.model.specs.Kinds.{Answer}
use Rattle.model.specs.declared.answer.Refusal.{Refusal}
use Rattle.model.specs.declared.answer.Refusal.TheVariants.{OfList}
use Rattle.model.specs.declared.answer.ListCause.TheVariants.{ListShape, ListRange}
use Rattle.model.specs.Rules.{first_broken}
use Rattle.model.proofs.Rules.{given_done, given_refused}
use Rattle.form.specs.Bytes.{comma}
use Rattle.form.specs.Parts.{up_to}
use Rattle.form.specs.Numbers.{digits_of, behind_digits, value_of, capped}
use Rattle.form.proofs.Parts.{up_to_nil, up_to_more, up_to_stop}
use Rattle.list_form.specs.Items.{dash, Item, most_listed}
use Rattle.list.specs.declared.ItemTaken.{ItemTaken}
use Rattle.list.specs.Read.{is_comma, is_dashed, behind_dash, number_rules, end_rules, last_rules, item_rules, item_of}
use Rattle.list.specs.Taken.{held_item, HoldsItem, TakesLast, TakesItem}
use Rattle.list.proofs.Cut.{item_length, behind-dash}
use Rattle.list.proofs.Rules.{number_good, number_told, value_exact, ended, not_ended, end_reached, last_stops, last_falls, last_ends, item_stops, item_ranges, item_ends, item_alone, item_range}

-- an item's end at a place of a text
module _ (text : List ℕ) (at : ℕ) where
  pub end_past : length text ≤ at → first_broken 0 (end_rules at (up_to is_comma (drop at text))) ≡ Ok 0
  end_past past = ended at _ (ap (up_to is_comma) (drop_of_length-le text past) ∙ up_to_nil is_comma)

  pub end_comma : at < length text → get_or text at 0 ≡ comma → first_broken 0 (end_rules at (up_to is_comma (drop at text))) ≡ Ok 0
  end_comma inside here = ended at _ (ap (up_to is_comma) (drop-cons text at 0 inside) ∙ up_to_stop is_comma _ _ (eq-eqb _ comma here))

  pub end_other : at < length text → (get_or text at 0 ≡ comma → ⊥) → first_broken 0 (end_rules at (up_to is_comma (drop at text))) ≡ Err (OfList (ListShape at))
  end_other inside other = not_ended at _ _ _ (ap (up_to is_comma) (drop-cons text at 0 inside) ∙ up_to_more is_comma _ _ (ne_eqb _ comma other))

-- what stands behind the digits from a place on
pub left_at : (text : List ℕ) (at next : ℕ) → next ≡ at + length (digits_of (drop at text)) → behind_digits (drop at text) ≡ drop next text
left_at text at next n = drop-drop (length (digits_of (drop at text))) at text ∙ ap (λ (k : ℕ). drop k text) (sym n)

-- an item by its parts
same_item : {first last first' last' : ℕ} → first ≡ first' → last ≡ last' → held_item (record { first = first; last = last }) ≡ held_item (record { first = first'; last = last' })
same_item f l = rw (f, l)

no_item : {A : Type 0} {refusal : Refusal} {taken : ItemTaken} → Err refusal ≡ Ok taken → A
no_item e = let z : ◌≡◌ {A = ℕ} 0 1 = cc in absurd (omega arith)

-- the second number of a range
module _ (text : List ℕ) (at first value next : ℕ) (exact : value ≡ capped (value_of (digits_of (drop at text)))) (n : next ≡ at + length (digits_of (drop at text))) where
  abbrev s : List ℕ
  s = drop at text

  abbrev held_last : ItemTaken
  held_last = held_item (record { first = first; last = value_of (digits_of s) })

  last_stopped : (refusal : Refusal) → first_broken 0 (last_rules first at (up_to is_comma s)) ≡ Err refusal → TakesLast first s at (Err refusal) next
  last_stopped refusal e = record { answered = sym (given_refused held_last _ e); next_at = λ taken done. no_item done; right = λ taken done. no_item done }

  pub last_refused : (refusal : Refusal) → first_broken 0 (number_rules at (next - at) value) ≡ Err refusal → TakesLast first s at (Err refusal) next
  last_refused refusal e = last_stopped refusal (last_stops first s at refusal (sym (number_told at next value (digits_of s) exact n) ∙ e))

  pub last_below : (count : ℕ) → first_broken 0 (number_rules at (next - at) value) ≡ Ok count → value < first → TakesLast first s at (Err (OfList (ListRange at))) next
  last_below count e falls =
      let good = sym (number_told at next value (digits_of s) exact n) ∙ e in
      let few = (number_good at _ _ count good).1 in
      let same = value_exact value (digits_of s) exact few in
      last_stopped _ (last_falls first s at count good (omega (arith, falls, same)))

  module _ (count : ℕ) (e : first_broken 0 (number_rules at (next - at) value) ≡ Ok count) (rises : first ≤ value) where
    last_good : first_broken 0 (number_rules at (length (digits_of s)) (value_of (digits_of s))) ≡ Ok count
    last_good = sym (number_told at next value (digits_of s) exact n) ∙ e

    last_few : value_of (digits_of s) ≤ most_listed
    last_few = (number_good at _ _ count last_good).1

    last_same : value ≡ value_of (digits_of s)
    last_same = value_exact value (digits_of s) exact last_few

    last_whole : first_broken 0 (last_rules first at (up_to is_comma s)) ≡ first_broken 0 (end_rules next (up_to is_comma (drop next text)))
    last_whole =
        last_ends first s at count last_good (omega (arith, rises, last_same)) ∙ ap (λ (k : ℕ). first_broken 0 (end_rules k (up_to is_comma (behind_digits s)))) (sym n)
        ∙ ap (λ (t : List ℕ). first_broken 0 (end_rules next (up_to is_comma t))) (left_at text at next n)

    pub last_unended : (refusal : Refusal) → first_broken 0 (end_rules next (up_to is_comma (drop next text))) ≡ Err refusal → TakesLast first s at (Err refusal) next
    last_unended refusal here = last_stopped refusal (last_whole ∙ here)

    pub last_taken : (c : ℕ) → first_broken 0 (end_rules next (up_to is_comma (drop next text))) ≡ Ok c → TakesLast first s at (Ok (record { first = first; last = value })) next
    last_taken c here =
        let none = end_reached next (up_to is_comma (drop next text)) c here in
        let size = item_length s ∙ ap (λ (t : List ℕ). length (digits_of s) + length (up_to is_comma t)) (left_at text at next n) in
        let ends : next ≡ at + length (up_to is_comma s) = omega (arith, n, size, none) in
        record {
          answered = ap Ok (same_item refl last_same) ∙ sym (given_done held_last _ (last_whole ∙ here));
          next_at = λ _ _. ends;
          right = λ _ _. record { listed = last_few; rises = omega (arith, rises, last_same) };
        }

-- an item
module _ (text : List ℕ) (at value next : ℕ) (exact : value ≡ capped (value_of (digits_of (drop at text)))) (n : next ≡ at + length (digits_of (drop at text))) where
  abbrev t : List ℕ
  t = drop at text

  -- the dash that the reader looks for is the item's
  pub dash_told : (dashed : Bool) → eqb (get_or text next 0) dash ≡ dashed → is_dashed t ≡ dashed
  dash_told dashed e = ap (λ (left : List ℕ). eqb (get_or left 0 0) dash) (left_at text at next n) ∙ ap (λ (b : ℕ). eqb b dash) (get_or-drop next text 0 0 ∙ ap (λ (k : ℕ). get_or text k 0) (add-zero next)) ∙ e

  item_stopped : (refusal : Refusal) → first_broken 0 (item_rules at (up_to is_comma t)) ≡ Err refusal → TakesItem t at (Err refusal) next
  item_stopped refusal e = record { answered = sym (given_refused (held_item (item_of (up_to is_comma t))) _ e); next_at = λ taken done. no_item done; right = λ taken done. no_item done }

  pub item_refused : (refusal : Refusal) → first_broken 0 (number_rules at (next - at) value) ≡ Err refusal → TakesItem t at (Err refusal) next
  item_refused refusal e = item_stopped refusal (item_stops t at refusal (sym (number_told at next value (digits_of t) exact n) ∙ e))

  module _ (count : ℕ) (e : first_broken 0 (number_rules at (next - at) value) ≡ Ok count) (alone : is_dashed t ≡ false) where
    alone_good : first_broken 0 (number_rules at (length (digits_of t)) (value_of (digits_of t))) ≡ Ok count
    alone_good = sym (number_told at next value (digits_of t) exact n) ∙ e

    alone_few : value_of (digits_of t) ≤ most_listed
    alone_few = (number_good at _ _ count alone_good).1

    alone_whole : first_broken 0 (item_rules at (up_to is_comma t)) ≡ first_broken 0 (end_rules next (up_to is_comma (drop next text)))
    alone_whole =
        item_ends t at count alone_good alone ∙ ap (λ (k : ℕ). first_broken 0 (end_rules k (up_to is_comma (behind_digits t)))) (sym n)
        ∙ ap (λ (u : List ℕ). first_broken 0 (end_rules next (up_to is_comma u))) (left_at text at next n)

    pub alone_unended : (refusal : Refusal) → first_broken 0 (end_rules next (up_to is_comma (drop next text))) ≡ Err refusal → TakesItem t at (Err refusal) next
    alone_unended refusal here = item_stopped refusal (alone_whole ∙ here)

    pub alone_taken : (c : ℕ) → first_broken 0 (end_rules next (up_to is_comma (drop next text))) ≡ Ok c → TakesItem t at (Ok (record { first = value; last = value })) next
    alone_taken c here =
        let same = value_exact value (digits_of t) exact alone_few in
        let item = item_alone t at alone in
        let none = end_reached next (up_to is_comma (drop next text)) c here in
        let size = item_length t ∙ ap (λ (u : List ℕ). length (digits_of t) + length (up_to is_comma u)) (left_at text at next n) in
        let ends : next ≡ at + length (up_to is_comma t) = omega (arith, n, size, none) in
        subst (λ (i : Item). HoldsItem i (at + length (up_to is_comma t)) (first_broken 0 (item_rules at (up_to is_comma t))) (Ok (record { first = value; last = value })) next) (sym item)
        (record {
          answered = ap Ok (same_item same same) ∙ sym (given_done (held_item (record { first = value_of (digits_of t); last = value_of (digits_of t) })) _ (alone_whole ∙ here));
          next_at = λ _ _. ends;
          right = λ _ _. record { listed = alone_few; rises = omega arith };
        })

  pub range_taken : (count : ℕ) (taken : Result ItemTaken Refusal) (after : ℕ) → first_broken 0 (number_rules at (next - at) value) ≡ Ok count → is_dashed t ≡ true
      → TakesLast value (drop (next + 1) text) (next + 1) taken after → TakesItem t at taken after
  range_taken count taken after e dashed last =
      let good = sym (number_told at next value (digits_of t) exact n) ∙ e in
      let few = (number_good at _ _ count good).1 in
      let same = value_exact value (digits_of t) exact few in
      let left = left_at text at next n in
      let behind : behind_dash t ≡ drop (next + 1) text = ap (drop 1) left ∙ drop-drop 1 next text in
      let place : suc (at + length (digits_of t)) ≡ next + 1 = omega (arith, n) in
      let whole =
      item_ranges t at count good dashed
      ∙ ap (λ (k : ℕ). first_broken 0 (last_rules (value_of (digits_of t)) k (up_to is_comma (behind_dash t)))) place
      ∙ ap (λ (v : ℕ). first_broken 0 (last_rules v (next + 1) (up_to is_comma (behind_dash t)))) (sym same)
      ∙ ap (λ (u : List ℕ). first_broken 0 (last_rules value (next + 1) (up_to is_comma u))) behind in
      let item =
      item_range t at dashed ∙ ap (λ (v : ℕ). record { first = v; last = value_of (digits_of (behind_dash t)) }) (sym same)
      ∙ ap (λ (u : List ℕ). record { first = value; last = value_of (digits_of u) }) behind in
      let size = item_length t ∙ ap (λ (u : List ℕ). length (digits_of t) + length u) (behind-dash (behind_digits t) dashed) in
      let rest = ap (λ (u : List ℕ). length (up_to is_comma u)) behind in
      let ends : next + 1 + length (up_to is_comma (drop (next + 1) text)) ≡ at + length (up_to is_comma t) = omega (arith, n, size, rest) in
      subst (λ (i : Item). HoldsItem i (at + length (up_to is_comma t)) (first_broken 0 (item_rules at (up_to is_comma t))) taken after) (sym item)
      (subst (λ (k : ℕ). HoldsItem (record { first = value; last = value_of (digits_of (drop (next + 1) text)) }) k (first_broken 0 (item_rules at (up_to is_comma t))) taken after) ends
      (subst (λ (answer : Answer). HoldsItem (record { first = value; last = value_of (digits_of (drop (next + 1) text)) }) (next + 1 + length (up_to is_comma (drop (next + 1) text))) answer taken after) (sym whole) last))
