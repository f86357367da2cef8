-- Every place and count that the functions of lists and sets answer fits its part of the word.
use mathlib.Core.Path.{◌≡◌, refl, sym, ◌∙◌, subst}
use mathlib.Core.Bool.{Bool, true, false}
use mathlib.Core.List.{List, [], ◌∷◌}
use Prim.Native.Nat.{ℕ, zero, suc, ◌+◌, ◌≤◌, ◌<◌}
use native.Mathlib.Omega.{arith}
use lib.ListN.{length, drop, length-drop}
use borrow.Author.Tests.{leb-true}
use Rattle.model.specs.Rules.{room_rules}
use Rattle.model.proofs.Rules.{AllPass}
use Rattle.build.specs.Build.{build_at}
use Rattle.build.proofs.Fits.{header_fits}
use Rattle.inspect.specs.Rules.{check_rules}
use Rattle.form.specs.Parts.{count, up_to, behind}
use Rattle.form.specs.Numbers.{digits_of, behind_digits, value_of}
use Rattle.form.proofs.Parts.{up_to_ends, count_behind_less}
use Rattle.form.proofs.Digits.{length_digits}
use Rattle.sets.specs.Sets.{IsSet}
use Rattle.list_form.specs.ListText.{list_text}
use Rattle.list_form.proofs.Short.{list_short}
use Rattle.list.specs.Read.{most_list_text, is_comma, is_dashed, number_rules, end_rules, last_rules, more_rules, item_rules, items_rules, content_rules, list_rules, list_answer, read_list}
use Rattle.list.proofs.Items.{reading_answer}
use Rattle.list_out.specs.Write.{write_list_rules, write_list_answer}
use Rattle.partition_sets.specs.Given.{sets_rules, sets_answer}
use Rattle.jefkantu.specs.Word.{FitsWord}
use Rattle.jefkantu.proofs.Fits.{PlacesFit, places_append, answer_fits, alone_fits}
use Rattle.jefkantu.proofs.Places.{room_places, check_places}

number_places : (at digits value : ℕ) → at < 65_536 → PlacesFit (number_rules at digits value)
unfolding PlacesFit number_rules
number_places at digits value few = (few, (few, tt))

end_places : (at : ℕ) (left : List ℕ) → at < 65_536 → PlacesFit (end_rules at left)
unfolding PlacesFit end_rules
end_places at left few = (few, tt)

last_places : (first at : ℕ) (s : List ℕ) → at + length s < 65_536 → PlacesFit (last_rules first at s)
unfolding PlacesFit last_rules
last_places first at s few =
    let d = length_digits s in
    places_append (number_rules at (length (digits_of s)) (value_of (digits_of s))) _ (number_places at _ _ (omega (arith, few)))
    (omega (arith, few), end_places (at + length (digits_of s)) (behind_digits s) (omega (arith, few, d)))

more_places : (dashed : Bool) (first at : ℕ) (left : List ℕ) → suc at + length left < 65_536 → PlacesFit (more_rules dashed first at left)
unfolding more_rules
more_places true first at left few = last_places first (suc at) (drop 1 left) (omega (arith, few, length-drop 1 left))
more_places false first at left few = end_places at left (omega (arith, few))

item_places : (at : ℕ) (s : List ℕ) → suc at + length s < 65_536 → PlacesFit (item_rules at s)
unfolding item_rules
item_places at s few =
    let d = length_digits s in
    let left = length-drop (length (digits_of s)) s in
    places_append (number_rules at (length (digits_of s)) (value_of (digits_of s))) _ (number_places at _ _ (omega (arith, few)))
    (more_places (is_dashed s) _ (at + length (digits_of s)) (behind_digits s) (omega (arith, few, d, left)))

items_places : (at commas : ℕ) (s : List ℕ) → count is_comma s ≡ commas → suc at + length s < 65_536 → PlacesFit (items_rules at commas s)
unfolding items_rules
items_places at zero s is few = item_places at s few
items_places at (suc commas) s is few =
    let ends = up_to_ends is_comma s (omega (arith, is)) in
    let left = length-drop (suc (length (up_to is_comma s))) s in
    places_append (item_rules at (up_to is_comma s)) _ (item_places at (up_to is_comma s) (omega (arith, few, ends)))
    (items_places (at + suc (length (up_to is_comma s))) commas (behind is_comma s) (count_behind_less is_comma s ∙ omega (arith, is)) (omega (arith, few, ends, left)))

content_places : (text : List ℕ) → length text ≤ most_list_text → PlacesFit (content_rules text)
unfolding content_rules PlacesFit
content_places [] short = tt
content_places (b ∷ s) short = items_places 0 (count is_comma (b ∷ s)) (b ∷ s) refl (omega (arith, short))

-- whatever text is read: past 1,024 bytes it is refused
pub list_fits : (text : List ℕ) → FitsWord (read_list text).answer
unfolding read_list list_answer list_rules PlacesFit AllPass
list_fits text =
    subst FitsWord (sym (reading_answer (list_answer text) _))
    (answer_fits 0 (_ ∷ []) (content_rules text) (omega arith, tt)
    (λ all. alone_fits 0 (content_rules text) (content_places text (leb-true (length text) most_list_text all.0)) (omega arith)))

pub write_list_fits : (set room : ℕ) → IsSet set → FitsWord (write_list_answer set room)
unfolding write_list_answer write_list_rules
write_list_fits set room is = alone_fits _ (room_rules (length (list_text set)) room) (room_places _ room) (omega (arith, list_short set is))

partitions_small : (build : List ℕ) → (build_at build).partitions < 4_294_967_296
unfolding build_at
partitions_small build = omega (arith, (header_fits build).1.1.1.0)

pub sets_fit : (order build : List ℕ) (places : ℕ) → FitsWord (sets_answer order build places)
unfolding sets_answer sets_rules
sets_fit order build places =
    let p = (build_at build).partitions in
    alone_fits p _ (places_append (check_rules order build) (room_rules p places) (check_places order build) (room_places p places)) (partitions_small build)
