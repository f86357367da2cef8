-- The fields of a build that stands in some bytes fit their bits.
use mathlib.Core.Path.{◌≡◌, sym, subst}
use mathlib.Core.List.{List}
use Prim.Native.Nat.{ℕ, ◌≤◌, ◌<◌}
use native.Mathlib.Omega.{arith}
use Rattle.laws.proofs.Filled.{filled_in}
use Rattle.bits.specs.Layout.{FitIn, numbers_at}
use Rattle.bits.proofs.Field.{field_lt}
use Rattle.bits.proofs.Records.{fit_at}
use Rattle.model.specs.declared.build.Partition.{Partition}
use Rattle.model.specs.declared.build.Member.{Member}
use Rattle.model.specs.Limits.{most_tasks, most_partitions, zero_partition, zero_member, place_of, member_of}
use Rattle.model.specs.Layouts.{build_header, partition_record, member_record}
use Rattle.build.specs.Build.{build_header_numbers, build_header_of, partition_numbers, partition_fields, partition_at, member_numbers, member_fields, member_at, build_at, FieldsFit}

module _ (s : List ℕ) where
  -- a header that was read has fields that fit
  pub header_fits : FitIn build_header (build_header_numbers (build_header_of s))
  unfolding build_header_of numbers_at
  header_fits = fit_at s 0 build_header

  partition_fits : (p : ℕ) → FitIn (partition_record 1) (partition_numbers (partition_at s p) 0)
  unfolding partition_fields numbers_at
  partition_fits p = (field_lt s _ 7, (field_lt s _ 6, (omega arith, tt)))

  member_fits : (partitions i : ℕ) → FitIn member_record (member_numbers (member_at s partitions i) 0)
  unfolding member_fields numbers_at
  member_fits partitions i = (field_lt s _ 6, (field_lt s _ 5, (field_lt s _ 20, (omega arith, tt))))

  pub place_at : (p : ℕ) → p < (build_header_of s).partitions → place_of (build_at s) p ≡ partition_at s p
  unfolding build_at
  place_at p below = filled_in (partition_at s) zero_partition most_partitions (build_header_of s).partitions p below

  pub member_at_lem : (i : ℕ) → i < (build_header_of s).tasks → member_of (build_at s) i ≡ member_at s (build_header_of s).partitions i
  unfolding build_at
  member_at_lem i below = filled_in (member_at s (build_header_of s).partitions) zero_member most_tasks (build_header_of s).tasks i below

  pub build_fits : (build_header_of s).partitions ≤ most_partitions → (build_header_of s).tasks ≤ most_tasks → FieldsFit (build_at s)
  unfolding build_at
  build_fits few_partitions few_tasks =
      record {
        processors = header_fits.1.0;
        tasks = few_tasks;
        partitions = few_partitions;
        each_place = λ p l. subst (λ (place : Partition). FitIn (partition_record 1) (partition_numbers place 0)) (sym (place_at p l)) (partition_fits p);
        each_member = λ i l. subst (λ (member : Member). FitIn member_record (member_numbers member 0)) (sym (member_at_lem i l)) (member_fits (build_header_of s).partitions i);
      }
