-- The sets of an accepted build's partitions; proved in proofs/.
use Rattle.std.specs.Prelude.{ℕ, ◌≤◌, ◌<◌, ◌≡◌, true, List, ◌++◌, ◌↔◌, length, get_or, drop, Ok}
use Rattle.model.specs.Kinds.{Answer}
use Rattle.model.specs.Answer.{OnlyCountedFront}
use Rattle.model.specs.Limits.{place_of}
use Rattle.model.specs.Processors.{volume_of, OfPartition}
use Rattle.model.specs.Rules.{RightAnswer}
use Rattle.order.specs.Order.{order_at}
use Rattle.build.specs.Build.{build_at}
use Rattle.inspect.specs.Rules.{check_answer}
use Rattle.sets.specs.Sets.{IsSet, has, size_of_set}
use Rattle.partition_sets.specs.Given.{build_sets, sets_rules, sets_answer, GivesSets}

-- the sets are given exactly for a build that the check accepts, where there is a place for each
abbrev pub SetsGivenExactly : Type 0
SetsGivenExactly = (order build output : List ℕ) (answer : Answer) (after : List ℕ) (count : ℕ) → GivesSets order build output answer after
    → (answer ≡ Ok count)
    ↔ ((check_answer order build ≡ Ok 0) × (count ≡ (build_at build).partitions) × (count ≤ length output) × (after ≡ build_sets (build_at build) ++ drop count output))

-- of an accepted build: the set of partition p
pub record SetRight (order build : List ℕ) (p set : ℕ) : Type 0 where
  pub word : IsSet set
  pub processors : (k : ℕ) → (has set k ≡ true) ↔ OfPartition (place_of (build_at build) p) k
  pub below_m : (k : ℕ) → has set k ≡ true → k < (order_at order).processors
  pub sized : size_of_set set ≡ volume_of (place_of (build_at build) p)

abbrev pub SetsRight : Type 0
SetsRight = (order build : List ℕ) → check_answer order build ≡ Ok 0 → (p : ℕ) → p < (build_at build).partitions → SetRight order build p (get_or (build_sets (build_at build)) p 0)

-- no processor is in two of them
abbrev pub SetsApart : Type 0
SetsApart = (order build : List ℕ) → check_answer order build ≡ Ok 0
    → (p q k : ℕ) → p < (build_at build).partitions → q < (build_at build).partitions
    → has (get_or (build_sets (build_at build)) p 0) k ≡ true → has (get_or (build_sets (build_at build)) q 0) k ≡ true → p ≡ q

-- one answer is right, by the rule that is broken first
abbrev pub OneSetsAnswer : Type 0
OneSetsAnswer = (order build : List ℕ) (places : ℕ) (answer : Answer) → (answer ≡ sets_answer order build places) ↔ RightAnswer (build_at build).partitions (sets_rules order build places) answer

-- "nothing else changed"
abbrev pub SetsKeep : Type 0
SetsKeep = (order build output : List ℕ) (answer : Answer) (after : List ℕ) → GivesSets order build output answer after → OnlyCountedFront answer output after

-- one possible answer and content for every input
abbrev pub SetsUnique : Type 0
SetsUnique = (order build output : List ℕ) (one other : Answer) (after after' : List ℕ) → GivesSets order build output one after → GivesSets order build output other after'
    → (one ≡ other) × (after ≡ after')
