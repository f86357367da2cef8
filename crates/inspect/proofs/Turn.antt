-- Every rule's test tells, where those of the rules before it passed; and what passed rules give to the next part.
use mathlib.Core.List.{List, ◌++◌}
use Prim.Native.Nat.{ℕ, ◌≤◌}
use native.Mathlib.Omega.{arith}
use borrow.Author.Tests.{eqb-true}
use Rattle.model.specs.declared.order.Order.{Order}
use Rattle.model.specs.declared.build.Build.{Build}
use Rattle.model.specs.Limits.{most_tasks, most_partitions}
use Rattle.model.specs.Rules.{WithinLimits, TestsTell}
use Rattle.model.proofs.Rules.{AllPass, tell_append, scan_at}
use Rattle.order.specs.Order.{order_at, order_rules}
use Rattle.order.proofs.Reading.{within_limits}
use Rattle.order.proofs.Rules.{order_tells}
use Rattle.build.specs.Build.{build_header_of, build_at, FieldsFit}
use Rattle.build.proofs.Fits.{build_fits}
use Rattle.inspect_layout.specs.Rules.{HeaderMatches, build_layout_rules}
use Rattle.inspect_layout.proofs.Rules.{layout_tells, matching_tells}
use Rattle.inspect_places.specs.Rules.{place_rules}
use Rattle.inspect_places.proofs.Tell.{places_tell}
use Rattle.inspect_members.specs.Rules.{width_rules, rank_rules}
use Rattle.inspect_members.specs.Line.{HomesFew}
use Rattle.inspect_members.proofs.Rules.{widths_tell, ranks_tell, wide_at}
use Rattle.inspect_tests.specs.Rules.{test_rules}
use Rattle.inspect_tests.specs.Results.{RanksRecorded}
use Rattle.inspect_tests.proofs.Verdicts.{tests_tell}
use Rattle.inspect.specs.Rules.{build_record_rules, build_rules, check_rules}

records_tell : (o : Order) (b : Build) → WithinLimits o → TestsTell (build_record_rules o b)
unfolding build_record_rules
records_tell o b limits =
    tell_append (place_rules o b) (width_rules o b ++ (rank_rules o b ++ test_rules o b)) (places_tell o b)
    (λ _. tell_append (width_rules o b) (rank_rules o b ++ test_rules o b) (widths_tell o b)
    (λ _. tell_append (rank_rules o b) (test_rules o b) (ranks_tell o b) (λ _. tests_tell o b limits)))

build_tells : (o : Order) (s : List ℕ) → WithinLimits o → TestsTell (build_rules o s)
unfolding build_rules
build_tells o s limits = tell_append (build_layout_rules o s) (build_record_rules o (build_at s)) (layout_tells o s) (λ _. records_tell o (build_at s) limits)

pub check_tells : (order build : List ℕ) → TestsTell (check_rules order build)
unfolding check_rules
check_tells order build = tell_append (order_rules order) (build_rules (order_at order) build) (order_tells order) (λ passed. build_tells (order_at order) build (within_limits order passed))

-- 20 to 23 passed: the header matches, and the build's fields fit
pub header_passed : (o : Order) (s : List ℕ) → AllPass (build_layout_rules o s) → HeaderMatches o (build_header_of s)
unfolding build_layout_rules AllPass
header_passed o s all = (matching_tells o (build_header_of s)).0 all.1.0

pub fields_fit : (o : Order) (s : List ℕ) → o.tasks ≤ most_tasks → AllPass (build_layout_rules o s) → FieldsFit (build_at s)
fields_fit o s few all = (let header = header_passed o s all in build_fits s header.partitions.1 (omega (arith, header.tasks, few)))

-- 25 passed: partitions have small numbers
pub homes_few : (o : Order) (b : Build) → b.partitions ≤ most_partitions → AllPass (width_rules o b) → HomesFew o b
homes_few o b few all i l = omega (arith, (wide_at o b all i l).there, few)

-- 26 passed: ranks are right
pub ranks_passed : (o : Order) (b : Build) → AllPass (rank_rules o b) → RanksRecorded o b
unfolding rank_rules AllPass
ranks_passed o b all i l = eqb-true _ _ (scan_at _ o.tasks i l all).0
