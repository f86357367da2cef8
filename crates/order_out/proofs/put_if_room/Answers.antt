use Rattle.std.specs.Prelude.{Ok}
use mathlib.Core.Path.{sym, ap, ◌∙◌}
use native.Mathlib.Omega.{arith}
use lib.ListN.{length}
use Rattle.model.specs.declared.answer.Refusal.TheVariants.{OfCall}
use Rattle.model.specs.declared.answer.CallCause.TheVariants.{Output}
use Rattle.model.proofs.Output.{after_done, after_refused}
use Rattle.order.specs.Order.{order_bytes}
use Rattle.model.proofs.Rules.{room_stop, room_on}
use Rattle.order_out.proofs.put_if_room.Goals as goal

pub bytes-size-requires : goal.bytes-size-requires
bytes-size-requires c = omega (arith, c.requires.0.tasks)

pub returns-then-out-size : goal.returns-then-out-size
returns-then-out-size c =
    let a = c.args in
    let size = c.bytes-size.ensures in
    record {
      answered = sym (room_stop _ _ (length a.out.now) (rw size at c.if-out-size.true));
      written = sym (after_refused (OfCall Output) (order_bytes a.order.now) a.out.now);
    }

pub put_order-requires : goal.put_order-requires
put_order-requires c =
    (c.requires.0, rw c.bytes-size.ensures at c.if-out-size.false, c.requires.1)

pub returns : goal.returns
returns c =
    let a = c.args in
    let size = c.bytes-size.ensures in
    record {
      answered = ap Ok size ∙ sym (room_on _ _ (length a.out.now) (rw size at c.if-out-size.false));
      written = c.put_order.ensures ∙ rw size (sym (after_done _ (order_bytes a.order.now) a.out.now));
    }
