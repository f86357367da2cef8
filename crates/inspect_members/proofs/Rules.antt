-- 25 and 26: each test tells what its rule says.
use mathlib.Core.Path.{◌≡◌, sym, ap}
use Prim.Native.Nat.{ℕ, ◌<◌}
use lib.Dec.{ltb}
use lib.ListN.{get_or}
use mathlib.Core.List.{List, [], ◌∷◌}
use borrow.Author.Tests.{lt-ltb, ltb-true, le-leb, leb-true}
use Rattle.laws.specs.Joined.{joined}
use Rattle.laws.proofs.Every.{and_both, both_and}
use Rattle.laws.proofs.Joined.{joined_same}
use Rattle.model.specs.declared.order.Order.{Order}
use Rattle.model.specs.declared.build.Build.{Build}
use Rattle.model.specs.declared.answer.Refusal.TheVariants.{OfBuild}
use Rattle.model.specs.declared.answer.BuildCause.TheVariants.{Rank}
use Rattle.model.specs.Limits.{member_of, home_of}
use Rattle.model.specs.Rules.{Tells, TestsTell, rule, equal}
use Rattle.model.proofs.Rules.{tell_all, tell_one, equal_tells, each_rule, AllPass, scan_at}
use Rattle.inspect_members.specs.Rules.{wide_enough, WideEnough, well_housed, right_rank, width_rules, rank_rules}
use Rattle.inspect_members.specs.Line.{RanksBy}

well_housed_tells : (o : Order) (b : Build) (i : ℕ) → Tells (well_housed o b i)
unfolding wide_enough
well_housed_tells o b i = (
  λ e. let both = and_both (ltb (home_of b i) b.partitions) _ e in record { there = ltb-true _ _ both.0; wide = leb-true _ _ both.1 },
  λ w. both_and _ _ (lt-ltb _ _ w.there) (le-leb _ _ w.wide),
)

pub widths_tell : (o : Order) (b : Build) → TestsTell (width_rules o b)
unfolding width_rules
widths_tell o b = tell_all _ o.tasks (λ i l. tell_one (well_housed o b i) _ (well_housed_tells o b i))

pub ranks_tell : (o : Order) (b : Build) → TestsTell (rank_rules o b)
unfolding rank_rules
ranks_tell o b = tell_all _ o.tasks (λ i l. tell_one (right_rank o b i) _ (equal_tells _ _))

-- what the tests passed give
pub wide_at : (o : Order) (b : Build) → AllPass (width_rules o b) → (i : ℕ) → i < o.tasks → WideEnough o b i
unfolding width_rules AllPass
wide_at o b all i l = (well_housed_tells o b i).0 (scan_at _ o.tasks i l all).0

-- 26 by ranks that were found
pub ranks_found : (o : Order) (b : Build) (ranks : List ℕ) → RanksBy o b ranks → rank_rules o b ≡ joined (each_rule (λ i. equal (member_of b i).rank (get_or ranks i 0)) (λ i. OfBuild (Rank i))) o.tasks
unfolding rank_rules
ranks_found o b ranks are = joined_same _ _ o.tasks (λ i l. ap (λ (r : ℕ). rule (equal (member_of b i).rank r) (OfBuild (Rank i)) ∷ []) (sym (are i l)))
