-- Bytes that hold a build are its bytes.
use mathlib.Core.Path.{◌≡◌, refl, sym, ap, ◌∙◌, subst}
use mathlib.Core.List.{List}
use Prim.Native.Nat.{ℕ, ◌+◌, ◌*◌, ◌<◌}
use native.Mathlib.Nat.{add-zero}
use native.Mathlib.Omega.{arith}
use lib.ListN.{length, take, drop, length-drop, take-append-drop}
use lib.Seq.{take_all, drop-drop}
use Rattle.laws.specs.Joined.{joined}
use Rattle.laws.proofs.Joined.{joined_same, joined_parts}
use Rattle.bits.specs.Field.{field}
use Rattle.bits.specs.Layout.{record_bytes, numbers_at, Bytes}
use Rattle.bits.proofs.Records.{writes_back as record_again}
use Rattle.model.specs.declared.build.Partition.{Partition}
use Rattle.model.specs.declared.build.Member.{Member}
use Rattle.model.specs.declared.build.Build.{Build}
use Rattle.model.specs.Layouts.{build_header, partition_record, member_record, build_length}
use Rattle.build.specs.Build.{build_header_numbers, build_header_for, build_header_of, partition_numbers, partition_fields, partition_at, partition_spare_at, member_numbers, member_fields, member_at, member_spare_at, partition_bytes, member_bytes, build_bytes, build_at}
use Rattle.build.proofs.Bytes.{place_bytes, task_bytes}
use Rattle.build.proofs.Fits.{place_at, member_at_lem}
use Rattle.build_facts.specs.Facts.{Holds, WritesBack}

module _ (s : List ℕ) (all : Bytes s) (size : length s ≡ build_length 1 (build_header_of s).partitions (build_header_of s).tasks) where
  abbrev b : Build
  b = build_at s

  abbrev partitions : ℕ
  partitions = (build_header_of s).partitions

  abbrev tasks : ℕ
  tasks = (build_header_of s).tasks

  header_same : (build_header_of s).version ≡ 1 → record_bytes build_header (build_header_numbers (build_header_for b)) ≡ take 3 s
  unfolding build_at build_header_of numbers_at
  header_same one =
      let version : field s 0 4 ≡ 1 = one in
      let e : build_header_numbers (build_header_for b) ≡ numbers_at s 0 build_header = rw version in
      ap (record_bytes build_header) e ∙ record_again s 0 3 build_header all refl (omega arith)

  place_same : (p : ℕ) → p < partitions → partition_spare_at s p ≡ 0 → place_bytes b.places p ≡ take 2 (drop (3 + 2 * p) s)
  unfolding partition_fields numbers_at
  place_same p below zero =
      let at = 8 * build_length 1 p 0 in
      let spare : field s (at + 7 + 6) 3 ≡ 0 = zero in
      let e : partition_numbers (partition_at s p) 0 ≡ numbers_at s at (partition_record 1) = rw spare in
      ap (λ (place : Partition). record_bytes (partition_record 1) (partition_numbers place 0)) (place_at s p below) ∙ ap (record_bytes (partition_record 1)) e
      ∙ record_again s (build_length 1 p 0) 2 (partition_record 1) all refl (omega arith) ∙ rw (add-zero (3 + 2 * p))

  member_same : (i : ℕ) → i < tasks → member_spare_at s partitions i ≡ 0 → task_bytes b.members i ≡ take 4 (drop (3 + 2 * partitions + 4 * i) s)
  unfolding member_fields numbers_at
  member_same i below zero =
      let at = 8 * build_length 1 partitions i in
      let spare : field s (at + 6 + 5 + 20) 1 ≡ 0 = zero in
      let e : member_numbers (member_at s partitions i) 0 ≡ numbers_at s at member_record = rw spare in
      ap (λ (member : Member). record_bytes member_record (member_numbers member 0)) (member_at_lem s i below) ∙ ap (record_bytes member_record) e
      ∙ record_again s (build_length 1 partitions i) 4 member_record all refl (omega arith)

  bytes_are : Holds s b → s ≡ build_bytes b
  unfolding build_bytes partition_bytes member_bytes build_at
  bytes_are holds =
      let places : joined (place_bytes b.places) partitions ≡ take (2 * partitions) (drop 3 s) =
      joined_same _ _ partitions (λ p l. place_same p l (holds.partition_spares p l)) ∙ joined_parts s 3 2 partitions in
      let members : joined (task_bytes b.members) tasks ≡ take (4 * tasks) (drop (3 + 2 * partitions) s) =
      joined_same _ _ tasks (λ i l. member_same i l (holds.member_spares i l)) ∙ joined_parts s (3 + 2 * partitions) 4 tasks in
      let whole : take (4 * tasks) (drop (3 + 2 * partitions) s) ≡ drop (3 + 2 * partitions) s =
      take_all (4 * tasks) (drop (3 + 2 * partitions) s) (omega (arith, length-drop (3 + 2 * partitions) s)) in
      sym (rw (header_same holds.version, places, members, whole, ← drop-drop (2 * partitions) 3 s, take-append-drop (2 * partitions) (drop 3 s)) (take-append-drop 3 s))

pub writes_back : WritesBack
unfolding build_at
writes_back s b all few_partitions few_tasks size holds =
    subst (λ (x : Build). length s ≡ build_length 1 x.partitions x.tasks → Holds s x → s ≡ build_bytes x) holds.build (bytes_are s all) size holds
