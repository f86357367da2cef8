-- What was written reads back.
use mathlib.Core.Path.{◌≡◌, refl, ap, ◌∙◌}
use mathlib.Core.List.{List, ◌++◌, append_assoc}
use Prim.Native.Nat.{ℕ, ◌+◌, ◌*◌, ◌<◌}
use native.Mathlib.Nat.{add-zero}
use native.Mathlib.Omega.{arith}
use lib.ListN.{length, get_or, length-append}
use Rattle.laws.specs.Joined.{joined, filled}
use Rattle.laws.proofs.Filled.{filled_same, filled_all, drop-part}
use Rattle.bits.specs.Layout.{record_bytes}
use Rattle.bits.proofs.Records.{length_record, reads_back as record-back}
use Rattle.model.specs.declared.build.Build.{Build}
use Rattle.model.specs.Limits.{most_tasks, most_partitions, zero_partition, zero_member, place_of, member_of}
use Rattle.model.specs.Layouts.{build_header, partition_record, member_record}
use Rattle.build.specs.declared.BuildHeader.{BuildHeader}
use Rattle.build.specs.Build.{build_header_numbers, build_header_from, build_header_for, build_header_of, partition_numbers, partition_from, partition_fields, partition_at, member_numbers, member_from, member_fields, member_at, partition_bytes, member_bytes, build_bytes, build_at, FieldsFit}
use Rattle.build.proofs.Bytes.{place_bytes, task_bytes, length_places, length_tasks}
use Rattle.build_facts.specs.Facts.{ZeroPast, Holds, LengthRight, ReadsBack}

abbrev header_bytes : Build → List ℕ
header_bytes b = record_bytes build_header (build_header_numbers (build_header_for b))

pub length_right : LengthRight
unfolding build_bytes partition_bytes member_bytes
length_right b = rw (length-append, length-append, length_record, length_places b.places b.partitions, length_tasks b.members b.tasks) (omega arith)

module _ (b : Build) (rest : List ℕ) (fit : FieldsFit b) where
  abbrev s : List ℕ
  s = build_bytes b ++ rest

  header_back : build_header_of s ≡ build_header_for b
  unfolding build_header_of build_bytes
  header_back =
      let few : b.tasks < 64 = omega (arith, fit.tasks) in
      let small : b.partitions < 128 = omega (arith, fit.partitions) in
      let stands : s ≡ header_bytes b ++ ((partition_bytes b b.partitions ++ member_bytes b b.tasks) ++ rest) = append_assoc (header_bytes b) _ rest in
      ap build_header_from (record-back s 0 3 build_header (build_header_numbers (build_header_for b)) _ refl (omega arith, (fit.processors, (few, (small, tt)))) stands)

  place_back : (p : ℕ) → p < b.partitions → partition_fields s p ≡ partition_numbers (place_of b p) 0
  unfolding partition_fields build_bytes partition_bytes
  place_back p below =
      let e : s ≡ header_bytes b ++ (joined (place_bytes b.places) b.partitions ++ (member_bytes b b.tasks ++ rest)) = simp append_assoc in
      let r = drop-part (header_bytes b) (place_bytes b.places) (member_bytes b b.tasks ++ rest) 3 2 b.partitions p (length_record build_header _) (λ x. length_record (partition_record 1) _) below in
      record-back s _ 2 (partition_record 1) (partition_numbers (place_of b p) 0) r.0 refl (fit.each_place p below) (rw (e, add-zero (3 + 2 * p)) r.1)

  member_back : (i : ℕ) → i < b.tasks → member_fields s b.partitions i ≡ member_numbers (member_of b i) 0
  unfolding member_fields build_bytes partition_bytes member_bytes
  member_back i below =
      let front = header_bytes b ++ partition_bytes b b.partitions in
      let e : s ≡ front ++ (joined (task_bytes b.members) b.tasks ++ rest) = simp append_assoc in
      let size : length front ≡ 3 + 2 * b.partitions = rw (length-append, length_record, length_places b.places b.partitions) in
      let r = drop-part front (task_bytes b.members) rest (3 + 2 * b.partitions) 4 b.tasks i size (λ x. length_record member_record _) below in
      record-back s _ 4 member_record (member_numbers (member_of b i) 0) r.0 refl (fit.each_member i below) (rw e r.1)

  holds : ZeroPast b → Holds s b
  unfolding build_at
  holds past =
      let places : filled (partition_at s) zero_partition most_partitions b.partitions ≡ b.places =
      filled_same (partition_at s) (place_of b) zero_partition most_partitions b.partitions (λ p l. ap partition_from (place_back p l)) ∙ filled_all b.places zero_partition most_partitions b.partitions past.places_length fit.partitions past.places_past in
      let members : filled (member_at s b.partitions) zero_member most_tasks b.tasks ≡ b.members =
      filled_same (member_at s b.partitions) (member_of b) zero_member most_tasks b.tasks (λ i l. ap member_from (member_back i l)) ∙ filled_all b.members zero_member most_tasks b.tasks past.members_length fit.tasks past.members_past in
      record {
        version = ap (λ (h : BuildHeader). h.version) header_back;
        build = rw (header_back, places, members);
        partition_spares = λ p l. ap (λ (numbers : List ℕ). get_or numbers 2 0) (place_back p l);
        member_spares = λ i l. ap (λ (numbers : List ℕ). get_or numbers 3 0) (member_back i l);
      }

pub reads_back : ReadsBack
reads_back b rest fit past = holds b rest fit past
