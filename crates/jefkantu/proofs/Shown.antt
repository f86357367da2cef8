-- Every place and count that showing the late job answers fits its part of the word.
use mathlib.Core.List.{List, [], ◌∷◌}
use Prim.Native.Nat.{ℕ}
use native.Mathlib.Omega.{arith}
use lib.ListN.{length}
use borrow.Author.Tests.{leb-true}
use Rattle.model.specs.Layouts.{script_length}
use Rattle.model.specs.Limits.{most_records}
use Rattle.model.specs.Rules.{room_rules}
use Rattle.model.proofs.Rules.{AllPass}
use Rattle.order.specs.Order.{order_rules}
use Rattle.late.specs.Shown.{shown_script, show_rules, late_rules, late_answer}
use Rattle.jefkantu.specs.Word.{FitsWord}
use Rattle.jefkantu.proofs.Fits.{PlacesFit, answer_fits, alone_fits}
use Rattle.jefkantu.proofs.Places.{room_places, order_places}

-- a script that is shown has at most 1,024 records
pub late_fits : (order build : List ℕ) (room : ℕ) → FitsWord (late_answer order build room)
unfolding late_answer late_rules show_rules PlacesFit AllPass
late_fits order build room =
    let records = length (shown_script order build) in
    let size = script_length 1 records in
    answer_fits size (order_rules order) _ (order_places order)
    (λ ordered. answer_fits size (_ ∷ _ ∷ []) (room_rules size room) (omega arith, (omega arith, tt))
    (λ all. alone_fits size (room_rules size room) (room_places size room) (omega (arith, leb-true records most_records all.1.0))))
