-- Records one after another, as they are joined by index.
use mathlib.Core.Path.{◌≡◌, refl}
use mathlib.Core.List.{List, append-nil}
use Prim.Native.Nat.{ℕ, zero, suc, ◌≤◌}
use native.Mathlib.Omega.{arith}
use lib.ListN.{length, get_or, take}
use lib.Seq.{take-suc}
use Rattle.std.specs.List.{flat_map}
use Rattle.std.proofs.lemmas.Grind.{flat_map-append}
use Rattle.laws.specs.Joined.{joined}

-- the records of the first n of a table
pub joined_written : {R : Type 0} (bytes : R → List ℕ) (records : List R) (z : R) (n : ℕ) → n ≤ length records → joined (λ i. bytes (get_or records i z)) n ≡ flat_map bytes (take n records)
unfolding joined
joined_written bytes records z zero within = refl
joined_written bytes records z (suc n) within = rw (joined_written bytes records z n (omega arith), take-suc records n z (omega arith), flat_map-append, append-nil)
