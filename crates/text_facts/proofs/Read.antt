-- The claims of reading a text.
use Rattle.std.specs.Prelude.{Ok}
use mathlib.Core.Path.{◌≡◌, sym, ap, ◌∙◌, subst}
use mathlib.Core.List.{List, ◌++◌}
use Prim.Native.Nat.{ℕ, ◌≤◌}
use lib.ListN.{length, drop}
use Rattle.model.specs.declared.order.Order.{Order}
use Rattle.model.specs.Kinds.{Answer}
use Rattle.model.specs.Answer.{output_after}
use Rattle.model.specs.Layouts.{order_length}
use Rattle.model.specs.Rules.{AllKept, OneRightAnswer}
use Rattle.model.proofs.Output.{after_done, only_counted_front}
use Rattle.model.proofs.Rules.{done_pass, done_count, pass_done, pass_kept, kept_pass, one_right_answer}
use Rattle.order.specs.Order.{order_bytes}
use Rattle.order_out.proofs.Bytes.{length_order}
use Rattle.form.specs.Text.{text_order}
use Rattle.form.proofs.Text.{text_lines}
use Rattle.text.specs.Read.{read_text_rules, read_text_answer, ReadsText}
use Rattle.text_facts.specs.Claims.{Typed, TextAcceptedExactly, OneTextReading, ReadTextKeeps, ReadTextUnique}
use Rattle.text_facts.proofs.Rules.{read_text_tells, kept_typed, kept_room, typed_kept}

pub one_text_reading : OneTextReading
unfolding OneRightAnswer read_text_answer
one_text_reading processors text room answer = one_right_answer _ (read_text_rules processors text room) (read_text_tells processors text room) answer

-- an accepted text
module _ (processors : ℕ) (text : List ℕ) (room count : ℕ) (e : read_text_answer processors text room ≡ Ok count) where
  read_kept : AllKept (read_text_rules processors text room)
  unfolding read_text_answer
  read_kept = pass_kept _ (read_text_tells processors text room) (done_pass _ _ e)

  pub read_count : count ≡ order_length 1 (text_order processors text).tasks
  unfolding read_text_answer text_order
  read_count = done_count _ (read_text_rules processors text room) e

  pub read_room : count ≤ room
  unfolding text_order
  read_room = subst (◌≤ room) (sym read_count) (kept_room processors text room read_kept)

  pub read_typed : Typed processors text (text_order processors text)
  read_typed = kept_typed processors text room read_kept

-- a text of an order within the limits, and room
pub read_done : (processors : ℕ) (text : List ℕ) (o : Order) (room : ℕ) → Typed processors text o → order_length 1 o.tasks ≤ room → read_text_answer processors text room ≡ Ok (order_length 1 o.tasks)
unfolding read_text_answer
read_done processors text o room is fits =
    pass_done _ (read_text_rules processors text room) (kept_pass _ (read_text_tells processors text room) (typed_kept processors text o is room fits))
    ∙ ap (λ (n : ℕ). Ok (order_length 1 n)) (text_lines is.typed)

-- what a done reading leaves
pub read_after : (processors : ℕ) (text output : List ℕ) (answer : Answer) (after : List ℕ) (count : ℕ) → ReadsText processors text output answer after → answer ≡ Ok count
    → after ≡ order_bytes (text_order processors text) ++ drop count output
read_after processors text output answer after count w e =
    let front = order_bytes (text_order processors text) in w.written ∙ ap (λ (a : Answer). output_after a front output) e ∙ after_done count front output

pub text_accepted_exactly : TextAcceptedExactly
text_accepted_exactly processors text output answer after count w = (
  (λ e.
      let done : read_text_answer processors text (length output) ≡ Ok count = sym w.answered ∙ e in (
        text_order processors text,
        read_typed processors text (length output) count done,
        read_count processors text (length output) count done,
        read_room processors text (length output) count done,
        read_after processors text output answer after count w e,
      )),
  (λ r. w.answered ∙ read_done processors text r.0 (length output) r.1 (subst (◌≤ length output) r.2 r.3) ∙ ap Ok (sym r.2)),
)

pub read_text_keeps : ReadTextKeeps
read_text_keeps processors text output answer after w =
    rw w.written (
    only_counted_front answer (order_bytes (text_order processors text)) output
    (λ count e.
    let done : read_text_answer processors text (length output) ≡ Ok count = sym w.answered ∙ e in
    (length_order (text_order processors text) ∙ sym (read_count processors text (length output) count done), read_room processors text (length output) count done))
    )

pub read_text_unique : ReadTextUnique
read_text_unique processors text output one other after after' w v =
    let same : one ≡ other = w.answered ∙ sym v.answered in
    (same, w.written ∙ ap (λ (a : Answer). output_after a (order_bytes (text_order processors text)) output) same ∙ sym v.written)
