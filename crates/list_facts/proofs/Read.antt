-- What is accepted, and that a reading has one answer and one meaning.
use Rattle.std.specs.Prelude.{Ok, Err}
use mathlib.Core.Path.{◌≡◌, refl, sym, ap, ◌∙◌}
use mathlib.Core.List.{List}
use Prim.Native.Nat.{ℕ}
use Rattle.model.specs.Kinds.{Answer}
use Rattle.model.specs.Rules.{AllKept}
use Rattle.model.proofs.Rules.{never, pass_done, done_pass, done_count, pass_kept, kept_pass}
use Rattle.list_form.specs.Items.{Item, items_set}
use Rattle.list_form.proofs.Lists.{list_once}
use Rattle.list.specs.declared.ListReading.{ListReading}
use Rattle.list.specs.Read.{list_rules, list_answer, items_of, reading_by, read_list}
use Rattle.list_facts.specs.Claims.{Lists, ListAcceptedExactly, OneList, ListAnswers, ReadListUnique}
use Rattle.list_facts.proofs.Rules.{list_tells}
use Rattle.list_facts.proofs.KeptAll.{kept_list, list_kept}

pub one_list : OneList
one_list = list_once

pub list_answers : ListAnswers
unfolding list_answer
list_answers text count e = done_count 0 (list_rules text) e

pub read_list_unique : ReadListUnique
read_list_unique text one other p q = p ∙ sym q

-- a text is accepted just where it is such a list, of the items that are taken
pub done_lists : (text : List ℕ) (count : ℕ) → list_answer text ≡ Ok count → Lists text (items_of text)
unfolding list_answer list_rules AllKept
done_lists text count e =
    let kept = pass_kept (list_rules text) (list_tells text) (done_pass 0 (list_rules text) e) in
    let r = kept_list text kept.1 in
    record { short = kept.0; list = r.0; right = r.1 }

lists_done : (text : List ℕ) (items : List Item) → Lists text items → (list_answer text ≡ Ok 0) × (items_of text ≡ items)
unfolding list_answer list_rules AllKept
lists_done text items lists =
    let r = list_kept text items lists.list lists.right in
    (pass_done 0 (list_rules text) (kept_pass (list_rules text) (list_tells text) (lists.short, r.0)), r.1)

pub list_accepted_exactly : ListAcceptedExactly
unfolding read_list
list_accepted_exactly text reading set reads = ((λ e. there (list_answer text) refl (sym reads ∙ e)), back)
  where
    there : (answer : Answer) → list_answer text ≡ answer → reading_by answer (items_set (items_of text)) ≡ record { answer = Ok 0; set = set }
        → (items : List Item) × Lists text items × (set ≡ items_set items)
    there (Ok count) h e = (items_of text, done_lists text count h, sym (ap (λ (r : ListReading). r.set) e))
    there (Err refusal) h e = never (ap (λ (r : ListReading). r.answer) e)

    back : ((items : List Item) × Lists text items × (set ≡ items_set items)) → reading ≡ record { answer = Ok 0; set = set }
    back (items, lists, means) =
        let r = lists_done text items lists in
        reads ∙ ap (λ (answer : Answer). reading_by answer (items_set (items_of text))) r.0 ∙ ap (λ (s : ℕ). reading_by (Ok 0) s) (ap items_set r.1 ∙ sym means)
