-- "Each partition's set comes from an accepted build: the check's refusals, then 12 where there are fewer than p places; count p."
use Rattle.std.specs.Prelude.{ℕ, ◌+◌, ◌≤◌, ◌<◌, ◌≡◌, List, ◌++◌, length}
use Rattle.laws.specs.Joined.{listed}
use Rattle.model.specs.declared.build.Build.{Build}
use Rattle.model.specs.Kinds.{Answer}
use Rattle.model.specs.Answer.{output_after}
use Rattle.model.specs.Limits.{most_partitions, most_processors, place_of}
use Rattle.model.specs.Processors.{volume_of}
use Rattle.model.specs.Rules.{Rule, first_broken, room_rules}
use Rattle.build.specs.Build.{build_at}
use Rattle.inspect.specs.Rules.{check_rules}
use Rattle.sets.specs.Sets.{partition_set}

-- the sets of a build's partitions, in their order
unfoldable pub build_sets : Build → List ℕ
build_sets b = listed (λ p. partition_set (place_of b p)) b.partitions

-- what an accepted build has: at most 32 partitions, each of processors below 64
pub record PartitionsFit (b : Build) : Type 0 where
  pub few : b.partitions ≤ most_partitions
  pub each : (p : ℕ) → p < b.partitions → (place_of b p).first + volume_of (place_of b p) ≤ most_processors

unfoldable pub sets_rules : (order build : List ℕ) (places : ℕ) → List Rule
sets_rules order build places = check_rules order build ++ room_rules (build_at build).partitions places

unfoldable pub sets_answer : (order build : List ℕ) (places : ℕ) → Answer
sets_answer order build places = first_broken (build_at build).partitions (sets_rules order build places)

-- what giving the sets promises: the answer, and all that the output holds
pub record GivesSets (order build output : List ℕ) (answer : Answer) (after : List ℕ) : Type 0 where
  pub answered : answer ≡ sets_answer order build (length output)
  pub written : after ≡ output_after answer (build_sets (build_at build)) output
