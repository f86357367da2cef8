-- "all partitions for 24": volume 0, past M, or overlapping an earlier one.
use Rattle.std.specs.Prelude.{ℕ, zero, suc, ◌+◌, ◌≤◌, ◌<◌, Bool, false, not, ◌&&◌, ◌||◌, List, [], ◌∷◌, leb, ltb}
use Rattle.laws.specs.Every.{every}
use Rattle.laws.specs.Joined.{joined}
use Rattle.model.specs.declared.order.Order.{Order}
use Rattle.model.specs.declared.build.Partition.{Partition}
use Rattle.model.specs.declared.build.Build.{Build}
use Rattle.model.specs.declared.answer.Refusal.TheVariants.{OfBuild}
use Rattle.model.specs.declared.answer.BuildCause.TheVariants.{PartitionPlace}
use Rattle.model.specs.Limits.{place_of}
use Rattle.model.specs.Processors.{volume_of, processor_of, Overlap, BelowM}
use Rattle.model.specs.Rules.{Fact, Rule, rule}

-- 24: partition p has a processor, all of its are below M, and it overlaps no earlier one
pub record PartitionRight (M : ℕ) (b : Build) (p : ℕ) : Type 0 where
  pub some : 1 ≤ volume_of (place_of b p)
  pub inside : BelowM (place_of b p) M
  pub apart : (earlier : ℕ) → earlier < p → Overlap (place_of b earlier) (place_of b p) → ⊥

-- a partition has processor x
unfoldable pub has_processor : Partition → ℕ → Bool
has_processor place x = leb place.first x && ltb x (place.first + place.volume)

-- one of the partitions below p has it
unfoldable pub taken_below : Build → (p x : ℕ) → Bool
taken_below b zero x = false
taken_below b (suc p) x = taken_below b p x || has_processor (place_of b p) x

unfoldable pub partition_right : ℕ → Build → ℕ → Bool
partition_right M b p =
    let place = place_of b p in
    leb 1 place.volume && (leb (place.first + place.volume) M && every (λ k. not (taken_below b p (processor_of place k))) place.volume)

abbrev pub well_placed : ℕ → Build → ℕ → Fact
well_placed M b p = record { says = PartitionRight M b p; test = partition_right M b p }

-- "all partitions for 24"
unfoldable pub place_rules : Order → Build → List Rule
place_rules o b = joined (λ p. rule (well_placed o.processors b p) (OfBuild (PartitionPlace p)) ∷ []) b.partitions
