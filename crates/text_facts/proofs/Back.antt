-- "reading it back gives the same order", byte for byte.
use Rattle.std.specs.Prelude.{Ok}
use mathlib.Core.Path.{◌≡◌, refl, sym, ap, ◌∙◌, subst}
use mathlib.Core.List.{◌++◌}
use Prim.Native.Nat.{◌≤◌}
use lib.ListN.{length, take, drop}
use Rattle.model.specs.declared.order.Order.{Order}
use Rattle.model.specs.Layouts.{order_length}
use Rattle.model.specs.Rules.{WithinLimits}
use Rattle.order.specs.Order.{order_at, order_bytes}
use Rattle.order.proofs.Reading.{within_limits}
use Rattle.order_out.proofs.Bytes.{length_order}
use Rattle.order_facts.proofs.Forth.{bytes_are}
use Rattle.form.proofs.Written.{written_is_text}
use Rattle.text.specs.Read.{read_text_answer}
use Rattle.text_facts.specs.Claims.{Typed, TextReadBack}
use Rattle.text_facts.proofs.Rules.{typed_order}
use Rattle.text_facts.proofs.Read.{read_done, read_after}
use Rattle.text_facts.proofs.Write.{write_accepts, write_front}

pub text_read_back : TextReadBack
text_read_back order output written after count all w e room read back r fits =
    let rules = write_accepts order output written after w count e in
    let o : Order = order_at order in
    let limits : WithinLimits o = within_limits order rules in
    let bytes : order ≡ order_bytes o = bytes_are order all rules in
    let size : length order ≡ order_length 1 o.tasks = ap length bytes ∙ length_order o in
    let front = write_front order output written after w count e in
    let is : Typed o.processors (take count after) o = record { typed = rw front (written_is_text o limits); beside = refl; limits = limits } in
    let done : read_text_answer o.processors (take count after) (length room) ≡ Ok (order_length 1 o.tasks) = read_done o.processors (take count after) o (length room) is (subst (◌≤ length room) size fits) in
    let answered = r.answered ∙ done ∙ ap Ok (sym size) in (
      answered,
      read_after o.processors (take count after) room read back (length order) r answered ∙ ap (λ (x : Order). order_bytes x ++ drop (length order) room) (typed_order o.processors (take count after) o is) ∙ ap (◌++ drop (length order) room) (sym bytes),
    )
