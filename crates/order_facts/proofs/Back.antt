-- An order's bytes read back: the header, each record, then the whole order.
use Rattle.std.specs.Prelude.{Ok}
use mathlib.Core.Path.{◌≡◌, refl, ap, ◌∙◌}
use mathlib.Core.List.{List, [], ◌++◌, append-nil}
use Prim.Native.Nat.{ℕ, ◌<◌}
use native.Mathlib.Omega.{arith}
use lib.ListN.{length, get_or}
use Rattle.laws.specs.Joined.{joined, filled}
use Rattle.laws.proofs.Filled.{filled_same, filled_all, drop-part}
use Rattle.bits.specs.Layout.{record_bytes}
use Rattle.bits.proofs.Records.{reads_back, length_record}
use Rattle.model.specs.declared.order.Order.{Order}
use Rattle.model.specs.Limits.{most_tasks, zero_task, task_of}
use Rattle.model.specs.Layouts.{order_header, task_record}
use Rattle.model.specs.Rules.{AllKept, range_rules, WithinLimits}
use Rattle.model.proofs.Rules.{pass_done, kept_pass, kept_append, kept_all}
use Rattle.model.proofs.Ranges.{range_all}
use Rattle.order.specs.Order.{header_numbers, header_for, header_from, header_of, task_fields, task_numbers, task_from, task_at, task_bytes, table_bytes, order_bytes, order_at, header_rules, spare_rules, layout_rules, order_rules, read_order}
use Rattle.order.proofs.Rules.{order_tells}
use Rattle.order_out.specs.Write.{OrderFits}
use Rattle.order_out.proofs.Bytes.{length_order}
use Rattle.order_out.proofs.Rules.{range_fits}

module _ (o : Order) (fits : OrderFits o) where
  abbrev header : List ℕ
  header = header_numbers (header_for o.processors o.tasks)

  header_back : header_of (order_bytes o) ≡ header_for o.processors o.tasks
  unfolding header_of order_bytes
  header_back =
      ap header_from (reads_back (order_bytes o) 0 3 order_header header (table_bytes o o.tasks) refl (omega arith, (fits.processors, (omega (arith, fits.tasks), (omega arith, tt)))) refl)

  fields_back : (i : ℕ) → i < o.tasks → task_fields (order_bytes o) i ≡ task_numbers (task_of o i) 0
  unfolding task_fields order_bytes table_bytes
  fields_back i below =
      let f : ℕ → List ℕ = λ j. task_bytes (task_of o j) in
      let e : order_bytes o ≡ record_bytes order_header header ++ (joined f o.tasks ++ []) = rw append-nil in
      let r = drop-part (record_bytes order_header header) f [] 3 9 o.tasks i (length_record order_header header) (λ j. length_record (task_record 1) _) below in
      reads_back (order_bytes o) _ 9 (task_record 1) (task_numbers (task_of o i) 0) r.0 refl (fits.each i below) (rw e r.1)

-- the order that stands in the bytes is the order written
module _ (o : Order) (limits : WithinLimits o) where
  abbrev fits_all : OrderFits o
  fits_all =
      record {
        processors = omega (arith, limits.processors);
        tasks = limits.tasks.1;
        each = λ i below. range_fits o.processors (task_of o i) limits.processors.1 (limits.each i below);
      }

  table_back : filled (task_at (order_bytes o)) zero_task most_tasks o.tasks ≡ o.table
  table_back =
      filled_same (task_at (order_bytes o)) (task_of o) zero_task most_tasks o.tasks (λ i below. ap task_from (fields_back o fits_all i below))
      ∙ filled_all o.table zero_task most_tasks o.tasks limits.places limits.tasks.1 limits.zero_past

  order_back : order_at (order_bytes o) ≡ o
  unfolding order_at
  order_back = rw (header_back o fits_all, table_back)

  header_kept : AllKept (header_rules (length (order_bytes o)) (header_of (order_bytes o)))
  unfolding header_rules AllKept
  header_kept = rw (header_back o fits_all, length_order o) (omega arith, (refl, (limits.processors, (limits.tasks, (refl, (refl, tt))))))

  spares_kept : AllKept (spare_rules (order_bytes o) (header_of (order_bytes o)).tasks)
  unfolding spare_rules AllKept
  spares_kept = rw (header_back o fits_all) (kept_all _ o.tasks (λ i below. (ap (λ (numbers : List ℕ). get_or numbers 4 0) (fields_back o fits_all i below), tt)))

  ranges_kept : AllKept (range_rules (order_at (order_bytes o)))
  ranges_kept = rw order_back (range_all o limits.each)

  rules_kept : AllKept (order_rules (order_bytes o))
  unfolding order_rules layout_rules
  rules_kept = kept_append _ _ (kept_append _ _ header_kept spares_kept) ranges_kept

  pub bytes_read_back : read_order (order_bytes o) ≡ record { answer = Ok 0; order = o }
  unfolding read_order
  bytes_read_back = rw (pass_done 0 (order_rules (order_bytes o)) (kept_pass _ (order_tells (order_bytes o)) rules_kept), order_back)
