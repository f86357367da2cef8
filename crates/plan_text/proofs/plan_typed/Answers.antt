use Rattle.std.proofs.Common.{sym}
use native.Mathlib.Omega.{arith}
use lib.Seq.{length-take-le}
use Rattle.text_facts.proofs.Read.{read_room}
use Rattle.plan_text.proofs.plan_typed.Goals as goal

-- the order that was read lies within its room
pub slice_bounds-order-end : goal.slice_bounds-order-end
slice_bounds-order-end g c = omega (arith, read_room _ _ _ _ (sym c.in-Ok.ensures.answered), c.read_text.auto.out)

pub slice_bounds-show_plan-end : goal.slice_bounds-show_plan-end
slice_bounds-show_plan-end g c = sym (length-take-le _ _ (omega (arith, read_room _ _ _ _ (sym c.in-Ok.ensures.answered), c.read_text.auto.out)))
