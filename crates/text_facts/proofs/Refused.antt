-- What the lines of any bytes are; and when each of the text's own refusals is given: 52, then line by line 50 and 51.
use Rattle.std.specs.Prelude.{Err}
use mathlib.Core.Path.{◌≡◌, refl, sym, ap, ◌∙◌, subst}
use mathlib.Core.Bool.{Bool, true, false}
use mathlib.Core.List.{List, []}
use mathlib.Core.Logic.{◌↔◌, ◌⊎◌, inl, inr, ⊎_elim}
use Prim.Native.Nat.{ℕ, ◌+◌, ◌≤◌, ◌<◌}
use native.Mathlib.Omega.{arith}
use Rattle.laws.specs.Joined.{joined}
use Rattle.laws.proofs.Every.{clash}
use Rattle.model.specs.declared.order.Task.{Task}
use Rattle.model.specs.declared.order.Order.{Order}
use Rattle.model.specs.declared.answer.Refusal.{Refusal}
use Rattle.model.specs.declared.answer.Refusal.TheVariants.{OfOrder, OfText}
use Rattle.model.specs.declared.answer.OrderCause.{OrderCause}
use Rattle.model.specs.declared.answer.TextCause.{TextCause}
use Rattle.model.specs.declared.answer.TextCause.TheVariants.{LineShape, LineNumber, LineCount}
use Rattle.model.specs.Limits.{most_tasks, task_of}
use Rattle.model.specs.Layouts.{order_length}
use Rattle.model.specs.Answer.{cause_number, cause_place, text_number}
use Rattle.model.specs.Rules.{AllKept, FirstOffence, range_rules, room_rules, task_rules}
use Rattle.model.proofs.Rules.{refused_offence, offence_refused, offence_cut, offence_at, kept_at, kept_all, kept_pass, tell_all, scan_stop}
use Rattle.order_out.specs.Write.{written_rules}
use Rattle.form.specs.Lines.{IsLine, NumbersFit}
use Rattle.form.specs.Text.{typed_line, finished_lines, is_unfinished, line_count, text_order}
use Rattle.form.proofs.Lines.{line_once}
use Rattle.form.proofs.Text.{no_line_feed, lines_left, nothing_left, left_nothing}
use Rattle.text.specs.Read.{Shaped, shaped, typed_fits, line_rules, text_rules, read_text_rules, read_text_answer}
use Rattle.text.proofs.Lines.{count_is}
use Rattle.text.proofs.Rules.{text_many, text_stops}
use Rattle.text_facts.specs.Claims.{LinesAre, GoodBefore, LinesRefusedExactly, ShapeRefusedExactly, NumberRefusedExactly}
use Rattle.text_facts.proofs.Rules.{line_tells, read_text_tells}

pub lines_are : LinesAre
lines_are text =
    record { bytes = lines_left text; no_line_feed = no_line_feed text; not_counted = (counts (is_unfinished text) refl).0; counted = (counts (is_unfinished text) refl).1 }
  where
    counts : (b : Bool) → is_unfinished text ≡ b
        → ((line_count text ≡ finished_lines text) ↔ (typed_line text (finished_lines text) ≡ [])) × ((line_count text ≡ finished_lines text + 1) ↔ (typed_line text (finished_lines text) ≡ [] → ⊥))
    counts true e =
        let more = count_is text (finished_lines text) true refl e in
        let some : typed_line text (finished_lines text) ≡ [] → ⊥ = λ none. clash (sym (left_nothing text none) ∙ e) in
        (((λ same. absurd (omega arith)), λ none. absurd (some none)), ((λ _. some), λ _. omega arith))
    counts false e =
        let whole = count_is text (finished_lines text) false refl e in
        let none = nothing_left text e in
        (((λ _. none), λ _. omega arith), ((λ another. absurd (omega arith)), λ some. absurd (some none)))

-- the writer's rules give none of the text's own refusals
module _ (cause : TextCause) where
  not_order : (of : OrderCause) → OfOrder of ≡ OfText cause → ⊥
  not_order of e = let z : ◌≡◌ {A = ℕ} 0 1 = cc in omega arith

  task_none : (processors : ℕ) (t : Task) (i : ℕ) → FirstOffence (task_rules processors t i) (OfText cause) → ⊥
  unfolding FirstOffence
  task_none processors t i (inl (_, e)) = not_order _ e
  task_none processors t i (inr (_, inl (_, e))) = not_order _ e
  task_none processors t i (inr (_, inr (_, inl (_, e)))) = not_order _ e
  task_none processors t i (inr (_, inr (_, inr (_, inl (_, e))))) = not_order _ e
  task_none processors t i (inr (_, inr (_, inr (_, inr (_, none))))) = none

  room_none : (size room : ℕ) → FirstOffence (room_rules size room) (OfText cause) → ⊥
  unfolding room_rules FirstOffence
  room_none size room (inl (_, e)) = let z : ◌≡◌ {A = ℕ} 0 1 = cc in omega arith
  room_none size room (inr (_, none)) = none

  range_none : (o : Order) → FirstOffence (range_rules o) (OfText cause) → ⊥
  unfolding range_rules
  range_none o offence = let r = offence_at (λ i. task_rules o.processors (task_of o i) i) o.tasks (OfText cause) offence in task_none o.processors (task_of o r.0) r.0 r.3

  written_none : (o : Order) (room : ℕ) → FirstOffence (written_rules o room) (OfText cause) → ⊥
  unfolding written_rules FirstOffence
  written_none o room (inl (_, e)) = not_order _ e
  written_none o room (inr (_, inl (_, e))) = not_order _ e
  written_none o room (inr (_, inr (_, offence))) =
      let size = order_length 1 o.tasks in
      ⊎_elim (range_none o) (λ (last : AllKept (range_rules o) × FirstOffence (room_rules size room) (OfText cause)). room_none size room last.1)
      (offence_cut (range_rules o) (room_rules size room) (OfText cause) offence)

-- some line is the first that is refused, for that cause
abbrev FirstAt : List ℕ → TextCause → Type 0
FirstAt text cause = (j : ℕ) × GoodBefore text j × FirstOffence (line_rules text j) (OfText cause)

module _ (processors : ℕ) (text : List ℕ) (room : ℕ) where
  good_before : (i : ℕ) → line_count text ≤ most_tasks → i < line_count text → AllKept (joined (line_rules text) i) → GoodBefore text i
  unfolding line_rules AllKept shaped typed_fits
  good_before i few there kept =
      record {
        few = few;
        there = there;
        each_shaped = λ k below. (kept_at (line_rules text) i k below kept).0;
        each_fits = λ k below. (kept_at (line_rules text) i k below kept).1.0;
      }

  -- a refusal of the text's own is 52, or at a line
  refused_first : (cause : TextCause) → FirstOffence (text_rules text) (OfText cause) → ((most_tasks < line_count text) × (LineCount ≡ cause)) ⊎ FirstAt text cause
  unfolding text_rules FirstOffence
  refused_first cause (inl (many, e)) = inl (omega (arith, many), cc)
  refused_first cause (inr (few, offence)) =
      let r = offence_at (line_rules text) (line_count text) (OfText cause) offence in
      inr (r.0, good_before r.0 few r.1 r.2, r.3)

  refused_where : (cause : TextCause) → read_text_answer processors text room ≡ Err (OfText cause) → ((most_tasks < line_count text) × (LineCount ≡ cause)) ⊎ FirstAt text cause
  unfolding read_text_answer read_text_rules
  refused_where cause e =
      let o = text_order processors text in
      ⊎_elim (refused_first cause) (λ (later : AllKept (text_rules text) × FirstOffence (written_rules o room) (OfText cause)). absurd (written_none cause o room later.1))
      (offence_cut (text_rules text) (written_rules o room) (OfText cause) (refused_offence _ (read_text_rules processors text room) (OfText cause) (read_text_tells processors text room) e))

  -- a line is refused where all before it is good
  line_refused : (i : ℕ) (refusal : Refusal) → GoodBefore text i → FirstOffence (line_rules text i) refusal → read_text_answer processors text room ≡ Err refusal
  unfolding line_rules AllKept shaped typed_fits
  line_refused i refusal good offence =
      let kept : AllKept (joined (line_rules text) i) = kept_all (line_rules text) i (λ k below. (good.each_shaped k below, (good.each_fits k below, tt))) in
      let pass = kept_pass (joined (line_rules text) i) (tell_all (line_rules text) i (λ k _. line_tells text k)) kept in
      text_stops processors text room good.few refusal
      (scan_stop (line_rules text) 0 (line_count text) i refusal good.there pass (offence_refused 0 (line_rules text i) refusal (line_tells text i) offence))

-- what a refusal at a line says of it; none is for another cause, nor at another line
module _ (text : List ℕ) where
  at_shape : (i : ℕ) → FirstAt text (LineShape i) → GoodBefore text i × (Shaped text i → ⊥)
  unfolding line_rules shaped FirstOffence
  at_shape i (j, good, inl (broken, e)) = subst (λ (k : ℕ). GoodBefore text k × (Shaped text k → ⊥)) (ap cause_place e) (good, broken)
  at_shape i (j, good, inr (_, inl (_, e))) = absurd (omega (arith, ap cause_number e))
  at_shape i (j, good, inr (_, inr (_, none))) = absurd none

  over : (i : ℕ) → Shaped text i → (((t : Task) → IsLine (typed_line text i) t → NumbersFit t) → ⊥) → (t : Task) × IsLine (typed_line text i) t × (NumbersFit t → ⊥)
  over i shape broken = (shape.task, shape.line, λ fits. broken (λ t line. subst NumbersFit (line_once (typed_line text i) shape.task t shape.line line) fits))

  at_number : (i : ℕ) → FirstAt text (LineNumber i) → GoodBefore text i × Shaped text i × ((t : Task) × IsLine (typed_line text i) t × (NumbersFit t → ⊥))
  unfolding line_rules shaped typed_fits FirstOffence
  at_number i (j, good, inl (_, e)) = absurd (omega (arith, ap cause_number e))
  at_number i (j, good, inr (shape, inl (broken, e))) =
      subst (λ (k : ℕ). GoodBefore text k × Shaped text k × ((t : Task) × IsLine (typed_line text k) t × (NumbersFit t → ⊥))) (ap cause_place e) (good, shape, over j shape broken)
  at_number i (j, good, inr (_, inr (_, none))) = absurd none

  at_count : FirstAt text LineCount → ⊥
  unfolding line_rules FirstOffence
  at_count (j, good, inl (_, e)) = omega (arith, ap cause_number e)
  at_count (j, good, inr (_, inl (_, e))) = omega (arith, ap cause_number e)
  at_count (j, good, inr (_, inr (_, none))) = none

pub lines_refused_exactly : LinesRefusedExactly
lines_refused_exactly processors text room = (
  (λ e. ⊎_elim (λ (many : (most_tasks < line_count text) × (LineCount ≡ LineCount)). many.0) (λ (first : FirstAt text LineCount). absurd (at_count text first)) (refused_where processors text room LineCount e)),
  text_many processors text room,
)

pub shape_refused_exactly : ShapeRefusedExactly
unfolding line_rules shaped FirstOffence
shape_refused_exactly processors text room i = (
  (λ e. ⊎_elim (λ (many : (most_tasks < line_count text) × (LineCount ≡ LineShape i)). absurd (omega (arith, ap text_number many.1))) (at_shape text i) (refused_where processors text room (LineShape i) e)),
  (λ r. line_refused processors text room i (OfText (LineShape i)) r.0 (inl (r.1, refl))),
)

pub number_refused_exactly : NumberRefusedExactly
unfolding line_rules shaped typed_fits FirstOffence
number_refused_exactly processors text room i = (
  (λ e. ⊎_elim (λ (many : (most_tasks < line_count text) × (LineCount ≡ LineNumber i)). absurd (omega (arith, ap text_number many.1))) (at_number text i) (refused_where processors text room (LineNumber i) e)),
  (λ r. line_refused processors text room i (OfText (LineNumber i)) r.0 (inr (r.1, inl ((λ says. r.2.2 (says r.2.0 r.2.1)), refl)))),
)
