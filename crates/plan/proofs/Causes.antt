-- An order's rules refuse for an order's causes alone.
use Rattle.std.specs.Prelude.{Err}
use mathlib.Core.Path.{◌≡◌, refl}
use mathlib.Core.List.{List}
use Prim.Native.Nat.{ℕ}
use lib.ListN.{length}
use Rattle.model.specs.declared.answer.Refusal.{Refusal}
use Rattle.model.specs.declared.answer.Refusal.TheVariants.{OfOrder}
use Rattle.model.specs.declared.answer.OrderCause.{OrderCause}
use Rattle.model.specs.declared.answer.OrderCause.TheVariants.{OrderShort, OrderVersion, Processors, Tasks, OrderLength, HeaderSpare, TaskSpare, Width, Period, Deadline, RunTime}
use Rattle.model.specs.Rules.{first_broken, range_rules}
use Rattle.model.proofs.Causes.{EachRefuses, each_append, each_joined, refused_by}
use Rattle.order.specs.Order.{order_at, header_rules, header_of, spare_rules, layout_rules, order_rules}

abbrev OfAnOrder : Refusal → Type 0
OfAnOrder refusal = (cause : OrderCause) × (refusal ≡ OfOrder cause)

pub order_refuses : (order : List ℕ) (refusal : Refusal) → first_broken 0 (order_rules order) ≡ Err refusal → (cause : OrderCause) × (refusal ≡ OfOrder cause)
unfolding order_rules layout_rules header_rules spare_rules range_rules EachRefuses
order_refuses order refusal e =
    refused_by OfAnOrder 0 (order_rules order) refusal
    (each_append OfAnOrder (layout_rules order) (range_rules (order_at order))
    (each_append OfAnOrder (header_rules (length order) (header_of order)) (spare_rules order (header_of order).tasks)
    ((OrderShort, refl), ((OrderVersion, refl), ((Processors, refl), ((Tasks, refl), ((OrderLength, refl), ((HeaderSpare, refl), tt))))))
    (each_joined OfAnOrder _ (header_of order).tasks (λ i. ((TaskSpare i, refl), tt))))
    (each_joined OfAnOrder _ (order_at order).tasks (λ i. ((Width i, refl), ((Period i, refl), ((Deadline i, refl), ((RunTime i, refl), tt)))))))
    e
