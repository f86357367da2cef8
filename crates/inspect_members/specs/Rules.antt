-- "all tasks for 25, all for 26": each task in a partition that is there and wide enough, with its rank there.
use Rattle.std.specs.Prelude.{ℕ, ◌≤◌, ◌<◌, Bool, ◌&&◌, List, [], ◌∷◌, leb, ltb}
use Rattle.laws.specs.Joined.{joined}
use Rattle.model.specs.declared.order.Order.{Order}
use Rattle.model.specs.declared.build.Build.{Build}
use Rattle.model.specs.declared.answer.Refusal.TheVariants.{OfBuild}
use Rattle.model.specs.declared.answer.BuildCause.TheVariants.{TaskPartition, Rank}
use Rattle.model.specs.Limits.{task_of, place_of, member_of, home_of}
use Rattle.model.specs.Processors.{volume_of}
use Rattle.model.specs.Rules.{Fact, Rule, rule, equal}
use Rattle.demand.specs.Priority.{members_of, rank}

-- 25: "no such partition, or narrower than m"
pub record WideEnough (o : Order) (b : Build) (i : ℕ) : Type 0 where
  pub there : home_of b i < b.partitions
  pub wide : (task_of o i).width ≤ volume_of (place_of b (home_of b i))

unfoldable pub wide_enough : Order → Build → ℕ → Bool
wide_enough o b i = ltb (home_of b i) b.partitions && leb (task_of o i).width (volume_of (place_of b (home_of b i)))

abbrev pub well_housed : Order → Build → ℕ → Fact
well_housed o b i = record { says = WideEnough o b i; test = wide_enough o b i }

-- 26: "rank wrong"
abbrev pub right_rank : Order → Build → ℕ → Fact
right_rank o b i = equal (member_of b i).rank (rank o (members_of b (home_of b i)) i)

-- "all tasks for 25, all for 26"
unfoldable pub width_rules : Order → Build → List Rule
width_rules o b = joined (λ i. rule (well_housed o b i) (OfBuild (TaskPartition i)) ∷ []) o.tasks

unfoldable pub rank_rules : Order → Build → List Rule
rank_rules o b = joined (λ i. rule (right_rank o b i) (OfBuild (Rank i)) ∷ []) o.tasks
