-- The processors of a partition: how many, which, and the lowest so many of them.
use Rattle.std.specs.Prelude.{ℕ, ◌+◌, ◌<◌, ◌≡◌}
use Rattle.model.specs.Kinds.{Partition}

-- how many processors a partition has
unfoldable pub volume_of : Partition → ℕ
volume_of place = place.volume

-- its processors by number, lowest first
unfoldable pub processor_of : Partition → ℕ → ℕ
processor_of place k = place.first + k

-- processor x is among its lowest so many
unfoldable pub AmongLowest : Partition → (count x : ℕ) → Type 0
AmongLowest place count x = (k : ℕ) × (k < count) × (x ≡ processor_of place k)

-- processor x is one of the partition's
abbrev pub OfPartition : Partition → ℕ → Type 0
OfPartition place x = AmongLowest place (volume_of place) x

-- two partitions overlap: some processor is in both
abbrev pub Overlap : Partition → Partition → Type 0
Overlap a b = (x : ℕ) × OfPartition a x × OfPartition b x

-- every processor of a partition is below M
abbrev pub BelowM : Partition → ℕ → Type 0
BelowM place M = (x : ℕ) → OfPartition place x → x < M
