-- Accepted bytes are the bytes of the order that stands in them.
use mathlib.Core.Path.{◌≡◌, refl, sym, ap, ◌∙◌}
use mathlib.Core.List.{List}
use Prim.Native.Nat.{ℕ, ◌+◌, ◌*◌, ◌<◌}
use native.Mathlib.Omega.{arith}
use lib.ListN.{take, drop, length-drop, take-append-drop}
use lib.Seq.{take_all}
use Rattle.laws.specs.Joined.{joined}
use Rattle.laws.proofs.Filled.{filled_in}
use Rattle.laws.proofs.Joined.{joined_same, joined_parts}
use Rattle.bits.specs.Field.{field}
use Rattle.bits.specs.Layout.{record_bytes, numbers_at, Bytes}
use Rattle.bits.proofs.Records.{writes_back}
use Rattle.model.specs.Limits.{most_tasks, zero_task, task_of}
use Rattle.model.specs.Layouts.{order_header, task_record}
use Rattle.model.proofs.Rules.{AllPass}
use Rattle.order.specs.Order.{header_numbers, header_for, header_of, task_start, task_fields, task_numbers, task_at, task_bytes, table_bytes, order_bytes, order_at, order_rules}
use Rattle.order.proofs.Reading.{header_holds, spares_hold}

module _ (s : List ℕ) (all : Bytes s) (rules : AllPass (order_rules s)) where
  header_again : record_bytes order_header (header_numbers (header_for (header_of s).processors (header_of s).tasks)) ≡ take 3 s
  unfolding header_of numbers_at
  header_again =
      let version : field s 0 4 ≡ 1 = (header_holds s rules).version in
      let spare : field s 17 7 ≡ 0 = (header_holds s rules).spare in
      let e : header_numbers (header_for (field s 4 7) (field s 11 6)) ≡ numbers_at s 0 order_header = rw (version, spare) in
      ap (record_bytes order_header) e ∙ writes_back s 0 3 order_header all refl (omega (arith, (header_holds s rules).long))

  record_again : (i : ℕ) → i < (header_of s).tasks → task_bytes (task_at s i) ≡ take 9 (drop (3 + 9 * i) s)
  unfolding task_fields numbers_at
  record_again i below =
      let spare : field s (task_start i + 7 + 20 + 20 + 20) 5 ≡ 0 = spares_hold s rules i below in
      let e : task_numbers (task_at s i) 0 ≡ numbers_at s (task_start i) (task_record 1) = rw spare in
      ap (record_bytes (task_record 1)) e ∙ writes_back s (3 + 9 * i) 9 (task_record 1) all refl (omega (arith, (header_holds s rules).size_right))

  pub bytes_are : s ≡ order_bytes (order_at s)
  unfolding order_bytes order_at table_bytes
  bytes_are =
      let n = (header_of s).tasks in
      let same : joined (λ i. task_bytes (task_of (order_at s) i)) n ≡ joined (λ i. take 9 (drop (3 + 9 * i) s)) n =
      joined_same _ _ n (λ i below. ap task_bytes (filled_in (task_at s) zero_task most_tasks n i below) ∙ record_again i below) in
      let whole : take (9 * n) (drop 3 s) ≡ drop 3 s = take_all (9 * n) (drop 3 s) (omega (arith, length-drop 3 s, (header_holds s rules).size_right)) in
      sym (rw (header_again, same, joined_parts s 3 9 n, whole) (take-append-drop 3 s))
