-- "20 to 23 in turn": the build's header, its length and its spare bits.
use Rattle.std.specs.Prelude.{ℕ, ◌<◌, ◌≡◌, Bool, false, ◌&&◌, List, [], ◌∷◌, length, eqb, Result}
use Rattle.laws.specs.Choice.{pick, within}
use Rattle.bits.specs.Layout.{bytes_in}
use Rattle.model.specs.declared.order.Order.{Order}
use Rattle.model.specs.declared.build.Build.{Build}
use Rattle.model.specs.declared.answer.Refusal.{Refusal}
use Rattle.model.specs.declared.answer.Refusal.TheVariants.{OfBuild}
use Rattle.model.specs.declared.answer.BuildCause.TheVariants.{BuildShort, BuildMismatch, BuildLength, BuildSpare}
use Rattle.model.specs.Limits.{most_partitions}
use Rattle.model.specs.Layouts.{build_header, build_length}
use Rattle.model.specs.Rules.{Fact, Rule, rule, first_broken, given, equal, at_most, InRange}
use Rattle.build.specs.declared.BuildHeader.{BuildHeader}
use Rattle.build.specs.Build.{build_header_of, partition_spare_at, member_spare_at, build_at}
use Rattle.build.specs.Taken.{partitions_clear, members_clear}

-- 21: "build version not 1, M or n not the order's, or p not 1 to 32"
pub record HeaderMatches (o : Order) (header : BuildHeader) : Type 0 where
  pub version : header.version ≡ 1
  pub processors : header.processors ≡ o.processors
  pub tasks : header.tasks ≡ o.tasks
  pub partitions : InRange 1 most_partitions header.partitions

unfoldable pub header_matches : Order → BuildHeader → Bool
header_matches o header =
    pick (eqb header.version 1) (pick (eqb header.processors o.processors) (pick (eqb header.tasks o.tasks) (within 1 most_partitions header.partitions) false) false) false

abbrev pub matching : Order → BuildHeader → Fact
matching o header = record { says = HeaderMatches o header; test = header_matches o header }

-- 23: "spare bit set in the build"
pub record SparesZero (s : List ℕ) (partitions tasks : ℕ) : Type 0 where
  pub partition_spares : (p : ℕ) → p < partitions → partition_spare_at s p ≡ 0
  pub task_spares : (i : ℕ) → i < tasks → member_spare_at s partitions i ≡ 0

abbrev pub clear : List ℕ → (partitions tasks : ℕ) → Fact
clear s partitions tasks = record { says = SparesZero s partitions tasks; test = partitions_clear s partitions && members_clear s partitions tasks }

-- "20 to 23 in turn"
unfoldable pub build_layout_rules : Order → List ℕ → List Rule
build_layout_rules o s =
    let header = build_header_of s in
    rule (at_most (bytes_in build_header) (length s)) (OfBuild BuildShort)
    ∷ rule (matching o header) (OfBuild BuildMismatch)
    ∷ rule (equal (length s) (build_length 1 header.partitions header.tasks)) (OfBuild BuildLength)
    ∷ rule (clear s header.partitions header.tasks) (OfBuild BuildSpare)
    ∷ []

-- what the layout's judge answers: 20 to 23, and the build that was read
abbrev pub LaysOut : Order → List ℕ → Result Build Refusal → Type 0
LaysOut o s laid = laid ≡ given (build_at s) (first_broken 0 (build_layout_rules o s))
