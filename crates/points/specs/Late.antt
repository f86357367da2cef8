-- P5 as a late frame: its members as a build in one partition, and the script that shows the third one late; proved in proofs/Late.antt.
use Rattle.std.specs.Prelude.{ℕ, ◌+◌, ◌≤◌, ◌≡◌, List, [], ◌∷◌, ◌++◌, length, drop, Ok}
use Rattle.model.specs.declared.build.Build.{Build}
use Rattle.model.specs.declared.build.Release.{Release}
use Rattle.order.specs.Order.{order_bytes}
use Rattle.build.specs.Build.{build_bytes}
use Rattle.demand.specs.Priority.{deadline_of}
use Rattle.machine.specs.Pattern.{LegalScript}
use Rattle.script.specs.Script.{script_bytes}
use Rattle.finish.specs.Finish.{finish_ticks}
use Rattle.late.specs.Shown.{RefusedLate, script_showing, ShowsLate}
use Rattle.points.specs.Sample.{build_from, part_of, placed_as, release}
use Rattle.points.specs.Points.{alone, five}

abbrev pub five_order : List ℕ
five_order = order_bytes (alone (five 13))

-- one partition of the one processor, each task with its rank and its worst response
abbrev pub five_built : Build
five_built = build_from 1 (part_of 1 0 ∷ []) (placed_as 0 0 7 ∷ placed_as 0 1 11 ∷ placed_as 0 2 14 ∷ [])

abbrev pub five_build : List ℕ
five_build = build_bytes five_built

-- "every length is C": none is lower than the third, so all begin at 0; it comes twice, the higher ones up to tick 24, at which its second job starts
abbrev pub five_releases : List Release
five_releases = release 0 0 4 ∷ release 0 1 4 ∷ release 0 2 4 ∷ release 10 0 4 ∷ release 14 1 4 ∷ release 14 2 4 ∷ release 20 0 4 ∷ []

pub record P5Late : Type 0 where
  pub refused : RefusedLate five_order five_build 2
  pub shown : script_showing (alone (five 13)) five_built 2 ≡ five_releases
  pub gives : (output : List ℕ) → 42 ≤ length output → ShowsLate five_order five_build output (Ok 42) (script_bytes five_releases ++ drop 42 output)
  pub legal : LegalScript (alone (five 13)) five_releases
  -- the third's jobs finish at 12 and at 28: the second, due at 14 + 13, is late by one tick
  pub finish : finish_ticks (alone (five 13)) five_built five_releases ≡ 4 ∷ 8 ∷ 12 ∷ 16 ∷ 20 ∷ 28 ∷ 24 ∷ []
  pub late : 14 + deadline_of (alone (five 13)) 2 + 1 ≡ 28
