-- The caller's numbers, and the caller's set, after a reading.
use Rattle.std.specs.Prelude.{Ok, Err}
use mathlib.Core.Path.{◌≡◌}
use mathlib.Core.List.{List}
use Prim.Native.Nat.{ℕ}
use Rattle.model.specs.declared.order.Order.{Order}
use Rattle.model.specs.Kinds.{Answer}
use Rattle.model.specs.declared.answer.Refusal.{Refusal}
use Rattle.jefkantu.specs.Surface.{order_numbers, numbers_after}
use Rattle.jefkantu.specs.Lists.{set_after}

pub numbers_done : (answer : Answer) (order : Order) (numbers : List ℕ) {count : ℕ} → answer ≡ Ok count → numbers_after answer order numbers ≡ order_numbers order
unfolding numbers_after
numbers_done answer order numbers e = rw e

pub numbers_refused : (answer : Answer) (order : Order) (numbers : List ℕ) {cause : Refusal} → answer ≡ Err cause → numbers_after answer order numbers ≡ numbers
unfolding numbers_after
numbers_refused answer order numbers e = rw e

-- the caller's set after a reading
pub set_done : (answer : Answer) (read before : ℕ) {count : ℕ} → answer ≡ Ok count → set_after answer read before ≡ read
unfolding set_after
set_done answer read before e = rw e

pub set_refused : (answer : Answer) (read before : ℕ) {cause : Refusal} → answer ≡ Err cause → set_after answer read before ≡ before
unfolding set_after
set_refused answer read before e = rw e
