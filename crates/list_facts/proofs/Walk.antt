-- Item by item: the first offence of a text is what is wrong at the lowest place, and where there is none, no number is wrong.
use mathlib.Core.Path.{◌≡◌, refl, sym, ap, ◌∙◌, subst}
use mathlib.Core.Bool.{false}
use mathlib.Core.List.{List, [], ◌∷◌, ◌++◌, append_assoc, append-nil}
use mathlib.Core.Logic.{⊎_elim}
use Prim.Native.Nat.{ℕ, zero, suc, ◌+◌, ◌<◌}
use native.Mathlib.Omega.{arith}
use lib.ListN.{length, get_or, length-append}
use lib.Seq.{get_or_at}
use Rattle.model.specs.declared.answer.Refusal.{Refusal}
use Rattle.model.specs.Rules.{AllKept, FirstOffence}
use Rattle.model.proofs.Rules.{offence_cut, kept_front, kept_rest}
use Rattle.form.specs.Bytes.{comma, is_digit}
use Rattle.form.specs.Parts.{count, up_to, behind}
use Rattle.form.proofs.Parts.{none_up_to}
use Rattle.list_form.proofs.Starts.{ItemStart, start_first, start_next}
use Rattle.list_form.proofs.Places.{NumbersBelow, BehindComma}
use Rattle.list.specs.Read.{is_comma, item_rules, items_rules, content_rules, item_of}
use Rattle.list_facts.proofs.Kept.{kept_item}
use Rattle.list_facts.proofs.KeptAll.{cut_comma}
use Rattle.list_facts.proofs.First.{AtItem}
use Rattle.list_facts.proofs.Item.{Found, item_offence, item_passed}

-- items begin here, all before them being right
record AtItems (text before s : List ℕ) : Type 0 where
  bytes : text ≡ before ++ s
  start : ItemStart before
  behind-comma : BehindComma text (length before)
  below : NumbersBelow text (length before)
  some : 0 < length text

at_item : (text before s head rest : List ℕ) → AtItems text before s → s ≡ head ++ rest → is_digit (get_or rest 0 0) ≡ false → count is_comma head ≡ 0 → AtItem text before head rest
at_item text before s head rest here cuts closed none =
    record {
      bytes = here.bytes ∙ ap (before ++◌) cuts;
      start = here.start;
      behind-comma = here.behind-comma;
      below = here.below;
      closed = closed;
      no_comma = none;
      some = here.some;
    }

-- behind an item that keeps the rules, and its comma
module _ (text before head tail : List ℕ) (item : AtItem text before head (comma ∷ tail)) (kept : AllKept (item_rules (length before) head)) where
  abbrev next : List ℕ
  next = before ++ (head ++ (comma ∷ []))

  next_length : length next ≡ suc (length before + length head)
  next_length = omega (arith, length-append before (head ++ (comma ∷ [])), length-append head (comma ∷ []))

  comma_stands : BehindComma text (length next)
  comma_stands last e =
      ap (λ (t : List ℕ). get_or t last 0) (item.bytes ∙ sym (append_assoc before head (comma ∷ tail)))
      ∙ get_or_at (before ++ head) comma tail 0 last (omega (arith, e, next_length, length-append before head))

  next_items : AtItems text next tail
  next_items =
      record {
        bytes = item.bytes ∙ sym (append_assoc before (head ++ (comma ∷ [])) tail ∙ ap (before ++◌) (append_assoc head (comma ∷ []) tail));
        start = start_next before head (item_of head) item.start (kept_item (length before) head kept).0;
        behind-comma = comma_stands;
        below = λ k within. item_passed text before head (comma ∷ tail) item kept k (omega (arith, within, next_length));
        some = item.some;
      }

walk_offence : (commas : ℕ) (text before s : List ℕ) (at : ℕ) (refusal : Refusal) → length before ≡ at → AtItems text before s → count is_comma s ≡ commas → FirstOffence (items_rules at commas s) refusal → Found text refusal
unfolding items_rules
walk_offence zero text before s at refusal place here none offence =
    item_offence text before s [] (at_item text before s s [] here (sym (append-nil s)) refl none) refusal (subst (λ (n : ℕ). FirstOffence (item_rules n s) refusal) (sym place) offence)
walk_offence (suc commas) text before s at refusal place here many offence =
    let head = up_to is_comma s in
    let tail = behind is_comma s in
    let bytes = cut_comma commas s many in
    let item = at_item text before s head (comma ∷ tail) here bytes.0 refl (none_up_to is_comma s) in
    ⊎_elim
    (λ (first : FirstOffence (item_rules at head) refusal). item_offence text before head (comma ∷ tail) item refusal (subst (λ (n : ℕ). FirstOffence (item_rules n head) refusal) (sym place) first))
    (λ (later : AllKept (item_rules at head) × FirstOffence (items_rules (at + suc (length head)) commas tail) refusal).
    let kept = subst (λ (n : ℕ). AllKept (item_rules n head)) (sym place) later.0 in
    walk_offence commas text (before ++ (head ++ (comma ∷ []))) tail (at + suc (length head)) refusal (omega (arith, place, next_length text before head tail item kept)) (next_items text before head tail item kept) bytes.1 later.1)
    (offence_cut (item_rules at head) (items_rules (at + suc (length head)) commas tail) refusal offence)

walk_kept : (commas : ℕ) (text before s : List ℕ) (at : ℕ) → length before ≡ at → AtItems text before s → count is_comma s ≡ commas → AllKept (items_rules at commas s) → NumbersBelow text (length text)
unfolding items_rules
walk_kept zero text before s at place here none all =
    let item = at_item text before s s [] here (sym (append-nil s)) refl none in
    let passed = item_passed text before s [] item (subst (λ (n : ℕ). AllKept (item_rules n s)) (sym place) all) in
    λ k within. passed k (omega (arith, within, ap length here.bytes, length-append before s))
walk_kept (suc commas) text before s at place here many all =
    let head = up_to is_comma s in
    let tail = behind is_comma s in
    let bytes = cut_comma commas s many in
    let item = at_item text before s head (comma ∷ tail) here bytes.0 refl (none_up_to is_comma s) in
    let kept = subst (λ (n : ℕ). AllKept (item_rules n head)) (sym place) (kept_front (item_rules at head) (items_rules (at + suc (length head)) commas tail) all) in
    walk_kept commas text (before ++ (head ++ (comma ∷ []))) tail (at + suc (length head)) (omega (arith, place, next_length text before head tail item kept)) (next_items text before head tail item kept) bytes.1
    (kept_rest (item_rules at head) (items_rules (at + suc (length head)) commas tail) all)

at_first : (text : List ℕ) → 0 < length text → AtItems text [] text
at_first text some = record { bytes = refl; start = start_first; behind-comma = λ last e. absurd (omega (arith, e)); below = λ k within. absurd (omega (arith, within)); some = some }

pub content_offence : (text : List ℕ) (refusal : Refusal) → FirstOffence (content_rules text) refusal → Found text refusal
unfolding content_rules FirstOffence
content_offence [] refusal offence = absurd offence
content_offence (b ∷ s) refusal offence = walk_offence (count is_comma (b ∷ s)) (b ∷ s) [] (b ∷ s) 0 refusal refl (at_first (b ∷ s) (omega arith)) refl offence

pub content_kept : (text : List ℕ) → AllKept (content_rules text) → NumbersBelow text (length text)
unfolding content_rules
content_kept [] all = λ k within. absurd (omega (arith, within))
content_kept (b ∷ s) all = walk_kept (count is_comma (b ∷ s)) (b ∷ s) [] (b ∷ s) 0 refl (at_first (b ∷ s) (omega arith)) refl all
