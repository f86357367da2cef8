use mathlib.Core.Path.{◌≡◌}
use Rattle.jefkantu.proofs.Numbers.{numbers_to}
use Rattle.jefkantu.proofs.order_numbers.Given as goal

abbrev pub invariant-loop-i : goal.invariant-loop-i
invariant-loop-i l = l.numbers ≡ numbers_to l.fn.order.processors l.fn.order.tasks l.fn.order.table l.i
